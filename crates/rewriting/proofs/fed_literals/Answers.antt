-- `rewriting::fed_literals` meets its contract: what is owed from each literal value on is what is owed from the first. Assumes nothing.
use Prim.Native.Nat.{ℕ, ◌+◌, ◌<◌}
use mathlib.Core.Path.{◌≡◌, refl, ◌∙◌, ap, subst}
use native.Mathlib.Omega.{arith}
use lib.ListN.{get_or}
use Rattle.rewriting.specs.Cutter.{fed_all}
use Rattle.runs.specs.Values.{element_of}
use Rattle.rewriting.specs.Values.{plain_e, Kept, owed_from}
use Rattle.runs.proofs.Ends.{element_laws, ended, end-near}
use Rattle.rewriting.proofs.Owing.{literal-none, literal-bad, literal-end, fed-literal}
use Rattle.rewriting.proofs.fed_literals.Goals as goal

pub loop-i-init : goal.loop-i-init
loop-i-init c = let p = c.requires in (omega arith, omega arith, p.n_bound.1, p.kept, refl)

pub returns-then-most-i : goal.returns-then-most-i
returns-then-most-i c =
    let a = c.args in
    let s = a.s.now in
    let E = (element_of a.values).E in
    let L = element_laws a.values in
    let i = c.loop-i.invariant in record { q_value = i.4 ∙ ap (fed_all plain_e a.room _) (literal-none E s a.most L _ _ _ _ c.if-most-i.true); kept_2 = (i.3, omega (arith, i.0), omega (arith, i.1, i.2)) }

pub fed-cutter-requires : goal.fed-cutter-requires
fed-cutter-requires c =
    let a = c.args in
    let s = a.s.now in
    let i = c.loop-i.invariant in
    let h = end-near a.values s _ _ (ended a.values s _ c.value_end.ensures c.in-Ok.is) in
    (i.3.inside, (omega (arith, h.0), h.1), omega (arith, i.3.few))

pub loop-i-preserved : goal.loop-i-preserved
loop-i-preserved c =
    let a = c.args in
    let s = a.s.now in
    let E = (element_of a.values).E in
    let L = element_laws a.values in
    let i = c.loop-i.invariant in
    let r = ended a.values s _ c.value_end.ensures c.in-Ok.is in
    let h = end-near a.values s _ _ r in
    let f = c.fed-cutter.ensures in
    let B : (j : ℕ) → get_or s j 0 < 256 = λ j. omega (arith, c.type_inv.s j) in
    let l = c.loop-i-test.true in
    let m = c.if-most-i.false in (
      omega arith,
      omega (arith, h.0, i.1),
      h.1,
      record { inside = f.within.0; few = omega (arith, f.within.1, i.3.few) },
      i.4 ∙ fed-literal E L s a.most a.room _ _ B _ _ r.0 r.1 _ _ l m f.result_value,
    )

pub returns-in-Err : goal.returns-in-Err
returns-in-Err c =
    let a = c.args in
    let s = a.s.now in
    let E = (element_of a.values).E in
    let L = element_laws a.values in
    let i = c.loop-i.invariant in
    let r = ended a.values s _ c.value_end.ensures c.in-Err.is in record { q_value = i.4 ∙ ap (fed_all plain_e a.room _) (literal-bad E s a.most L _ _ _ _ _ c.loop-i-test.true r); kept_2 = (i.3, omega (arith, i.0), omega (arith, i.1, i.2)) }

pub returns : goal.returns
returns c =
    let a = c.args in
    let s = a.s.now in
    let E = (element_of a.values).E in
    let L = element_laws a.values in
    let i = c.loop-i.invariant in
    let e : c.loop-i.i ≡ a.had + a.n = omega (arith, i.0) in
    record {
      q_value = i.4 ∙ ap (fed_all plain_e a.room _) (literal-end E s a.most L _ _ _ i.0 c.loop-i-test.false ∙ ap (owed_from E s a.most _) e);
      kept_2 = (subst (λ (k : ℕ). Kept s c.loop-i.cutter k) e i.3, omega (arith, i.0), i.1);
    }
