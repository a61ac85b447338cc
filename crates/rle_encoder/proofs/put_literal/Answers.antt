-- `rle_encoder::put_literal` meets its contract: what the values from j on owe at the position is what all owe at the start. Assumes nothing.
use mathlib.Core.Path.{refl, sym, ◌∙◌, ap}
use native.Mathlib.Omega.{arith}
use lib.ListN.{length}
use Rattle.encoding.proofs.Putting.{literal-bytes, literal-length, literal-over, put-part, put-done}
use Rattle.rle_decoder.specs.Word.{u64_e}
use Rattle.rle_encoder.proofs.put_literal.Goals as goal

pub loop-j-init : goal.loop-j-init
loop-j-init c = (omega arith, c.requires.0, refl, refl, refl)

pub offset_bounds-values-j : goal.offset_bounds-values-j
offset_bounds-values-j c = omega (arith, c.requires.1, c.well_formed)

pub bounds-values-j : goal.bounds-values-j
bounds-values-j c = omega arith

pub put_number-at-requires : goal.put_number-at-requires
put_number-at-requires c =
    let h = c.loop-j.invariant in
    let l = c.loop-j-test.true in
    let e = literal-length u64_e 0 c.loop-j.j c.args.k c.args.values.now l c.requires.1 in
    omega (arith, c.requires.2)

pub overflow_add-j : goal.overflow_add-j
overflow_add-j c = omega arith

pub loop-j-smaller : goal.loop-j-smaller
loop-j-smaller c = omega arith

pub loop-j-preserved : goal.loop-j-preserved
loop-j-preserved c =
    let j = c.loop-j.j in
    let h = c.loop-j.invariant in
    let l = c.loop-j-test.true in
    let u = c.put_number-at.ensures in
    let n = u.after in
    let e = literal-length u64_e 0 j c.args.k c.args.values.now l c.requires.1 in
    let r = literal-bytes u64_e 0 j c.args.k c.args.values.now l c.requires.1 in
    (omega arith, omega arith, c.put_number-at.auto.out ∙ h.2, omega arith, h.4 ∙ put-part _ _ r u)

pub shape_of-out : goal.shape_of-out
shape_of-out c = c.loop-j.invariant.2

pub returns : goal.returns
returns c =
    let h = c.loop-j.invariant in
    let e = literal-over u64_e 0 c.loop-j.j c.args.k c.args.values.now (omega arith) in
    record { after = omega (arith, ap length e); bytes = sym (h.4 ∙ put-done _ _ _ e) }
