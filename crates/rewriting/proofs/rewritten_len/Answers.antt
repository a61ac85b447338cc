-- `rewriting::rewritten_len` meets its contract: what is owed at each run's start is what is owed at the column's. Assumes nothing.
use Prim.Native.Nat.{ℕ, ◌<◌}
use mathlib.Core.Path.{refl, ◌∙◌}
use native.Mathlib.Omega.{arith}
use lib.ListN.{get_or}
use Rattle.runs.specs.Values.{element_of}
use Rattle.runs.proofs.Ends.{element_laws}
use Rattle.rewriting.proofs.Owing.{owed_none, owed-end, fed-whole}
use Rattle.rewriting.proofs.rewritten_len.Goals as goal

pub loop-at-init : goal.loop-at-init
loop-at-init c = (omega arith, record { inside = tt; few = omega arith }, refl)

pub finished-requires : goal.finished-requires
finished-requires c = let i = c.loop-at.invariant in (i.1.inside, omega (arith, i.0, i.1.few))

pub returns-then-most-had : goal.returns-then-most-had
returns-then-most-had c =
    let a = c.args in
    let s = a.s.now in
    let E = (element_of a.values).E in
    let B : (j : ℕ) → get_or s j 0 < 256 = λ j. omega (arith, c.type_inv.s j) in
    let e = owed_none E s a.most _ _ c.if-most-had.true in
    c.finished.ensures ∙ fed-whole a.values s B a.most a.room _ _ e c.loop-at.invariant.2

pub fed_run-r-requires : goal.fed_run-r-requires
fed_run-r-requires c =
    let i = c.loop-at.invariant in
    record { at_in_bounds = (c.loop-at-test.true, i.0, omega (arith, c.if-most-had.false), c.short_numbers-table.ensures); kept = i.1 }

pub loop-at-smaller : goal.loop-at-smaller
loop-at-smaller c = omega (arith, c.fed_run-r.ensures.kept_2.2, c.loop-at-test.true)

pub loop-at-preserved : goal.loop-at-preserved
loop-at-preserved c = let f = c.fed_run-r.ensures in (f.kept_2.1, f.kept_2.0, c.loop-at.invariant.2 ∙ f.had_value)

pub finished-requires-2 : goal.finished-requires-2
finished-requires-2 c = let i = c.loop-at.invariant in (i.1.inside, omega (arith, i.0, i.1.few))

pub returns : goal.returns
returns c =
    let a = c.args in
    let s = a.s.now in
    let E = (element_of a.values).E in
    let L = element_laws a.values in
    let B : (j : ℕ) → get_or s j 0 < 256 = λ j. omega (arith, c.type_inv.s j) in
    let e = owed-end E s a.most L _ _ c.loop-at-test.false in
    c.finished-2.ensures ∙ fed-whole a.values s B a.most a.room _ _ e c.loop-at.invariant.2
