-- `block_frame::put_number` meets its contract: where there is room, nothing is refused. Assumes nothing.
use Prim.Native.Nat.{ℕ, ◌+◌, ◌≤◌}
use mathlib.Core.Path.{◌≡◌, sym}
use mathlib.Core.List.{List}
use lib.ListN.{length}
use Rattle.std.specs.Prelude.{Result, Ok, Err}
use Rattle.std.specs.Result.{result_unwrap_or}
use Rattle.refusal.specs.declared.Refusal.{Refusal}
use Rattle.leb128.specs.Write.{put_at, put_out}
use Rattle.leb128_writer.specs.Cases.{written_of}
use Rattle.encoding.specs.Ahead.{PutAt}
use Rattle.encoding.proofs.Placing.{placed, not-refused}
use Rattle.block_frame.proofs.put_number.Goals as goal

number-put : (out out' : List ℕ) (at : ℕ) (w : List ℕ) (r : Result ℕ Refusal) → at + length w ≤ length out
    → written_of r ≡ put_at out at w → out' ≡ put_out out at w → PutAt out out' at (result_unwrap_or r at) w
number-put out out' at w (Ok next) room e f = placed out at w room out' next (sym e) f
number-put out out' at w (Err z) room e f = absurd (not-refused out at w room _ _ (sym e))

pub returns : goal.returns
returns c =
    let e = c.put_u64.ensures in
    rw c.unwrap_or.ensures (number-put _ _ _ _ c.put_u64.result c.requires e.result_value e.out_after)
