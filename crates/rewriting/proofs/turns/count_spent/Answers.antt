-- `rewriting::turns::count_spent` meets its contract: the bytes of the count are spent. Assumes nothing.
use Prim.Native.Nat.{ℕ}
use mathlib.Core.Path.{◌∙◌, ap}
use Rattle.encoding.specs.Cases.{answer_of}
use Rattle.rewriting.specs.Cutter.{spending}
use Rattle.rewriting.proofs.turns.count_spent.Goals as goal

pub returns : goal.returns
returns c =
    let a = c.args in
    c.spent.ensures ∙ ap (λ (n : ℕ). spending a.room n (answer_of a.c.used)) c.len_u64.ensures
