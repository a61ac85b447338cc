-- `delta_encoder::literal_end` meets its contract: up to j, the differences equal no neighbour. Assumes nothing.
use Prim.Native.Nat.{◌+◌, ◌-◌, ◌<◌}
use mathlib.Core.Path.{◌≡◌, ◌∙◌}
use native.Mathlib.Omega.{arith}
use borrow.Author.Rules.{rules}
use lib.IntN.{pos}
use lib.ListN.{length}
use Rattle.encoding.proofs.Looking.{paired-true, paired-false, literal-more, literal-stop, closed-absent, closed-end}
use Rattle.delta_decoder.specs.Difference.{same_z}
use Rattle.delta_decoder.proofs.DifferenceLaws.{i64-laws}
use Rattle.delta_encoder.proofs.Differing.{diffs-length, flags, last-back}
use Rattle.delta_encoder.proofs.Taking.{read_back, below, past}
use Rattle.delta_encoder.proofs.literal_end.Goals as goal

pub overflow_add-j : goal.overflow_add-j
overflow_add-j c =
    omega (arith, c.requires.literal_to.within, diffs-length (pos 0) c.args.values.now c.args.present.now c.requires.narrow.even)

pub loop-j-init : goal.loop-j-init
loop-j-init c =
    let h = c.requires.literal_to in
    let e : c.args.i + 1 - 1 ≡ c.args.i = omega arith in
    let n = diffs-length (pos 0) c.args.values.now c.args.present.now c.requires.narrow.even in
    (omega arith, omega (arith, h.within), λ z. c.requires.fact (rw e at z), h)

pub bounds-present-j : goal.bounds-present-j
bounds-present-j c = let e = c.requires.narrow.even in omega arith

pub returns-then-present-j-eq0 : goal.returns-then-present-j-eq0
returns-then-present-j-eq0 c =
    let N = c.requires.narrow in
    let e = flags _ _ N.even in
    literal-stop same_z (pos 0) _ _ e i64-laws.same-eq i64-laws.same_self _ _
    (closed-absent same_z (pos 0) _ _ e _ (below _ _ N _ c.loop-j-test.true) c.if-present-j-eq0.true) c.loop-j.invariant.3

pub overflow_sub-j : goal.overflow_sub-j
overflow_sub-j c = omega arith

pub offset_bounds-values-j : goal.offset_bounds-values-j
offset_bounds-values-j c = let l : c.loop-j.j - 1 < length c.args.values.now = omega arith in search rules

pub bounds-values-j : goal.bounds-values-j
bounds-values-j c = omega arith

pub paired-requires : goal.paired-requires
paired-requires c =
    let N = c.requires.narrow in
    let h = c.loop-j.invariant in
    record { narrow = N; k_in_bounds = (c.loop-j-test.true, c.if-present-j-eq0.false, read_back c.paired-arg-1.given ∙ last-back _ _ N.even _ (omega arith) h.1 h.2) }

pub returns-then-paired : goal.returns-then-paired
returns-then-paired c =
    literal-stop same_z (pos 0) _ _ (flags _ _ c.requires.narrow.even) i64-laws.same-eq i64-laws.same_self _ _
    (paired-true same_z (pos 0) _ _ _ _ c.paired.ensures c.if-paired.true) c.loop-j.invariant.3

pub overflow_add-j-in-loop-j : goal.overflow_add-j-in-loop-j
overflow_add-j-in-loop-j c = omega arith

pub loop-j-smaller : goal.loop-j-smaller
loop-j-smaller c = omega arith

pub loop-j-preserved : goal.loop-j-preserved
loop-j-preserved c =
    let N = c.requires.narrow in
    let j = c.loop-j.j in
    let l = c.loop-j-test.true in
    let f = c.if-present-j-eq0.false in
    let e : j + 1 - 1 ≡ j = omega arith in (
      omega arith,
      omega arith,
      λ z. f (rw e at z),
      literal-more same_z (pos 0) _ _ (flags _ _ N.even) i64-laws.same-eq i64-laws.same_self _ _ (below _ _ N _ l) f
          (paired-false same_z (pos 0) _ _ _ _ c.paired.ensures c.if-paired.false) c.loop-j.invariant.3,
    )

pub returns : goal.returns
returns c =
    let N = c.requires.narrow in
    let e = flags _ _ N.even in
    literal-stop same_z (pos 0) _ _ e i64-laws.same-eq i64-laws.same_self _ _ (closed-end same_z (pos 0) _ _ e _ (past _ _ N _ c.loop-j-test.false)) c.loop-j.invariant.3
