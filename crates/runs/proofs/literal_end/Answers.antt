-- `runs::literal_end` meets its contract: what follows the values still to come is what follows them all. Assumes nothing.
use Prim.Native.Nat.{ℕ, ◌+◌, ◌-◌, ◌<◌}
use mathlib.Core.Path.{◌≡◌, sym, ◌∙◌, ap}
use native.Mathlib.Omega.{arith}
use Rattle.std.proofs.lemmas.Result.{err_from_is_err_and}
use Rattle.encoding.specs.Column.{literals}
use Rattle.encoding.proofs.Columns.{literals-on, literals-off, literals-none}
use Rattle.encoding.proofs.Walking.{next-eq}
use Rattle.runs.specs.Values.{element_of}
use Rattle.runs.proofs.Ends.{ended}
use Rattle.runs.proofs.literal_end.Goals as goal

pub loop-preserved : goal.loop-preserved
loop-preserved c =
    let a = c.args in
    let E = (element_of a.values).E in
    let r = ended a.values a.s.now _ c.value_end.ensures c.in_ok-at.was in
    let l : 0 < a.c - c.loop.counter = omega arith in
    let k : a.c - c.loop.counter - 1 ≡ a.c - (c.loop.counter + 1) = omega arith in
    let e = literals-on E a.s.now _ _ _ _ _ l r.1 in
    c.loop.invariant ∙ next-eq e ∙ ap (λ (n : ℕ). (literals E a.s.now a.total n c.in_ok-at.at).next) k

pub returns-in_err-at : goal.returns-in_err-at
returns-in_err-at c =
    let a = c.args in
    let p = err_from_is_err_and c.from_residual.result c.from_residual.ensures.1 in
    let r = ended a.values a.s.now _ c.value_end.ensures c.in_err-at.was in
    let e = literals-off (element_of a.values).E a.s.now _ _ _ _ _ (omega arith) r in
    rw (p.1, p.2) (sym (c.loop.invariant ∙ next-eq e))

pub returns : goal.returns
returns c =
    let a = c.args in
    sym (c.loop.invariant ∙ next-eq (literals-none (element_of a.values).E a.s.now _ _ _ (omega arith)))
