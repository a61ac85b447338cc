-- `rewriting::fed_same` meets its contract: the first of n equal readings are as many as are wanted, or all of them. Assumes nothing.
use mathlib.Core.Path.{◌∙◌}
use native.Mathlib.Omega.{arith}
use Rattle.rewriting.proofs.Owing.{fed-some, fed-every}
use Rattle.rewriting.proofs.fed_same.Goals as goal

pub returns-then-left-n : goal.returns-then-left-n
returns-then-left-n c =
    let h = c.fed.ensures in
    record { result_value = h.result_value ∙ fed-some _ _ _ _ _ c.if-left-n.true; within = (h.within.0, omega (arith, h.within.1)) }

pub returns : goal.returns
returns c =
    let h = c.fed-2.ensures in
    record { result_value = h.result_value ∙ fed-every _ _ _ _ _ c.if-left-n.false; within = h.within }
