-- `table_reason::told_unread` meets its contract. Assumes nothing.
use mathlib.Core.Path.{ap}
use Prim.Native.Nat.{ℕ}
use Rattle.refusal.specs.Number.{number_of}
use Rattle.table_reason.specs.Cases.{row_of}
use Rattle.table_reason.specs.TableReason.{because, bytes}
use Rattle.table_reason.proofs.told_unread.Goals as goal

pub returns : goal.returns
returns c =
    let a = c.args in
    ap (λ (n : ℕ). because (number_of a.refusal.0) a.refusal.1 (row_of a.row) (bytes n)) c.number_bytes.ensures
