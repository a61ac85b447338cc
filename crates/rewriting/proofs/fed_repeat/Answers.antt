-- `rewriting::fed_repeat` meets its contract: the value was read, and is fed as often as it is owed; or nothing is owed. Assumes nothing.
use Prim.Native.Nat.{ℕ, ◌<◌}
use mathlib.Core.Path.{ap}
use native.Mathlib.Omega.{arith}
use lib.ListN.{get_or}
use Rattle.rewriting.specs.Cutter.{fed_all}
use Rattle.runs.specs.Values.{element_of}
use Rattle.rewriting.specs.Values.{plain_e}
use Rattle.runs.proofs.Ends.{element_laws, ended, end-near}
use Rattle.rewriting.proofs.Owing.{repeat-bad, fed-repeated}
use Rattle.rewriting.proofs.fed_repeat.Goals as goal

pub fed_same-requires : goal.fed_same-requires
fed_same-requires c =
    let a = c.args in
    let s = a.s.now in
    let p = c.requires in
    let h = end-near a.values s _ _ (ended a.values s _ c.value_end.ensures c.in-Ok.is) in
    (p.kept.inside, (omega (arith, h.0), h.1), omega (arith, p.kept.few, p.n_bound.0))

pub returns-in-Ok : goal.returns-in-Ok
returns-in-Ok c =
    let a = c.args in
    let s = a.s.now in
    let E = (element_of a.values).E in
    let L = element_laws a.values in
    let p = c.requires in
    let r = ended a.values s _ c.value_end.ensures c.in-Ok.is in
    let h = end-near a.values s _ _ r in
    let f = c.fed_same.ensures in
    let B : (j : ℕ) → get_or s j 0 < 256 = λ j. omega (arith, c.type_inv.s j) in record { q_value = fed-repeated E L s a.most a.room _ _ B _ _ r.0 r.1 _ _ f.result_value; kept_2 = (record { inside = f.within.0; few = omega (arith, f.within.1, p.kept.few) }, p.n_bound.0, omega (arith, h.0)) }

pub returns-in-Err : goal.returns-in-Err
returns-in-Err c =
    let a = c.args in
    let s = a.s.now in
    let E = (element_of a.values).E in
    let L = element_laws a.values in
    let p = c.requires in
    let r = ended a.values s _ c.value_end.ensures c.in-Err.is in record { q_value = ap (fed_all plain_e a.room _) (repeat-bad E s a.most L _ _ _ _ _ r); kept_2 = (p.kept, omega (arith, p.n_bound.0), p.n_bound.2) }
