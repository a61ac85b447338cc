-- `rle_form::ahead::holds_value` meets its contract: the bytes of two values are compared where each was read. Assumes nothing.
use Prim.Native.Nat.{ℕ, ◌<◌}
use native.Mathlib.Omega.{arith}
use lib.ListN.{get_or}
use Rattle.runs.proofs.Ends.{element_laws}
use Rattle.runs.proofs.Held.{part-within, within-as, alike-absent, alike-parts}
use Rattle.rle_form.proofs.ahead.holds_value.Goals as goal

pub same_parts-requires : goal.same_parts-requires
same_parts-requires c =
    let a = c.args in
    let p = c.requires in
    let L = element_laws a.values in
    let x = part-within _ L a.s.now _ _ (within-as _ L a.s.now a.held _ _ c.in-Some.is p.0) in
    let y = part-within _ L a.s.now a.from a.till p.1 in
    (x.0, x.1, y.0, y.1)

pub returns-in-None : goal.returns-in-None
returns-in-None c =
    let a = c.args in
    alike-absent _ (element_laws a.values) a.s.now a.s.now a.held a.from a.till c.requires.1 c.in-None.is

pub returns-in-Some : goal.returns-in-Some
returns-in-Some c =
    let a = c.args in
    let p = c.requires in
    let L = element_laws a.values in
    let B : (j : ℕ) → get_or a.s.now j 0 < 256 = λ j. omega (arith, (c.type_inv.s j).fits) in
    let w = within-as _ L a.s.now a.held _ _ c.in-Some.is p.0 in
    alike-parts _ L a.s.now a.s.now a.held a.from a.till p.1 B B _ _ c.in-Some.is w c.same_parts.ensures
