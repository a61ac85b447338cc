-- `rle_form::turned` meets its contract: the count of the stretch that is found stands there, or it does not. Assumes nothing.
use Prim.Native.Nat.{ℕ, ◌<◌}
use mathlib.Core.Path.{sym}
use native.Mathlib.Omega.{arith}
use lib.ListN.{get_or}
use Rattle.std.proofs.lemmas.Result.{err_from_is_err_and}
use Rattle.runs.proofs.Ends.{element_laws}
use Rattle.rle_form.proofs.Turning.{turn-none, turn-few, turn-count, turn-off, turn_on}
use Rattle.rle_form.proofs.turned.Goals as goal

pub returns-then-p-eq0 : goal.returns-then-p-eq0
returns-then-p-eq0 c =
    let a = c.args in
    let L = element_laws a.values in
    let p = c.requires in
    let w = c.first-p.ensures in
    turn-none _ L a.s.now a.at a.had _ p.at_in_bounds w.going w.result_value c.if-p-eq0.true

pub stretch_at-requires : goal.stretch_at-requires
stretch_at-requires c =
    let a = c.args in
    let L = element_laws a.values in
    let p = c.requires in
    let w = c.first-p.ensures in
    (w.going, omega arith, turn-few _ L a.s.now a.at a.had p.sound _ w.result_value)

pub compare_count-requires : goal.compare_count-requires
compare_count-requires c =
    let a = c.args in
    let L = element_laws a.values in
    let p = c.requires in
    let w = c.first-p.ensures in
    turn-count _ L a.s.now a.at a.had p.sound _ w.result_value _ c.stretch_at.ensures

pub returns-in_err-compare_count : goal.returns-in_err-compare_count
returns-in_err-compare_count c =
    let a = c.args in
    let L = element_laws a.values in
    let p = c.requires in
    let w = c.first-p.ensures in
    let z = err_from_is_err_and c.from_residual.result c.from_residual.ensures.1 in
    let k = turn-off _ L a.s.now a.at a.had p.sound _ w.result_value _ c.stretch_at.ensures _ (sym c.in_err-compare_count.ensures) in
    rw (z.1, z.2) k

pub returns : goal.returns
returns c =
    let a = c.args in
    let w = c.first-p.ensures in
    let B : (j : ℕ) → get_or a.s.now j 0 < 256 = λ j. omega (arith, (c.type_inv.s j).fits) in
    let k = turn_on _ (element_laws a.values) a.s.now a.at a.had c.requires.sound _ w.result_value _ c.stretch_at.ensures B _ (sym c.in_ok-compare_count.ensures) _ _ c.run_end.ensures in
    rw (c.ok_or.ensures.value, c.flatten.ensures, c.ok.ensures.value) k
