-- `delta_encoder::put_literal` meets its contract: what the differences from j on owe at the position is what all owe at the start. Assumes nothing.
use Prim.Native.Nat.{◌<◌}
use mathlib.Core.Path.{refl, sym, ◌∙◌, ap}
use native.Mathlib.Omega.{arith}
use lib.IntN.{ℤ, pos}
use lib.ListN.{length}
use Rattle.leb128.specs.Write.{i64_bytes}
use Rattle.encoding.proofs.Putting.{literal-bytes, literal-length, literal-over, put_as, put-part, put-done}
use Rattle.delta_encoder.specs.Ahead.{diffs}
use Rattle.delta_decoder.specs.Difference.{i64_e}
use Rattle.delta_encoder.proofs.Differing.{last_some}
use Rattle.delta_encoder.proofs.Taking.{read_back, passed, upto, taken-fits, taken_back}
use Rattle.delta_encoder.proofs.put_literal.Goals as goal

pub loop-j-init : goal.loop-j-init
loop-j-init c =
    let h = c.requires.i_le_k in
    (omega arith, h.0, refl, passed c.ranges.last ∙ h.3, refl, refl)

pub offset_bounds-values-j : goal.offset_bounds-values-j
offset_bounds-values-j c = omega (arith, c.requires.i_le_k.1, c.well_formed)

pub bounds-values-j : goal.bounds-values-j
bounds-values-j c = omega (arith, c.requires.i_le_k.1)

pub overflow_sub-values : goal.overflow_sub-values
overflow_sub-values c =
    let h = c.requires.i_le_k in
    let j = c.loop-j.j in
    let t = c.loop-j.invariant in
    let l = c.loop-j-test.true in
    taken-fits _ _ c.requires.narrow j (omega (arith, h.1)) (h.2 j t.0 l) (read_back c.put_signed-arg-in-loop-j-1.given) t.3

pub put_signed-at-requires : goal.put_signed-at-requires
put_signed-at-requires c =
    let N = c.requires.narrow in
    let h = c.requires.i_le_k in
    let v = c.args.values.now in
    let p = c.args.present.now in
    let j = c.loop-j.j in
    let t = c.loop-j.invariant in
    let l = c.loop-j-test.true in
    let b = taken_back v p N j (omega (arith, h.1)) (h.2 j t.0 l) (read_back c.put_signed-arg-in-loop-j-1.given) t.3 in
    let e = literal-length i64_e (pos 0) j c.args.k (diffs v p) l (upto v p N _ h.1) in
    omega (arith, ap (λ (x : ℤ). length (i64_bytes x)) b, c.requires.present_in_bounds)

pub offset_bounds-values-j-in-loop-j : goal.offset_bounds-values-j-in-loop-j
offset_bounds-values-j-in-loop-j c = omega (arith, c.requires.i_le_k.1, c.well_formed)

pub bounds-values-j-in-loop-j : goal.bounds-values-j-in-loop-j
bounds-values-j-in-loop-j c = omega (arith, c.requires.i_le_k.1)

pub overflow_add-j : goal.overflow_add-j
overflow_add-j c = omega arith

pub loop-j-smaller : goal.loop-j-smaller
loop-j-smaller c = omega arith

pub loop-j-preserved : goal.loop-j-preserved
loop-j-preserved c =
    let N = c.requires.narrow in
    let h = c.requires.i_le_k in
    let v = c.args.values.now in
    let p = c.args.present.now in
    let j = c.loop-j.j in
    let t = c.loop-j.invariant in
    let l = c.loop-j-test.true in
    let f = h.2 j t.0 l in
    let w : j < length v = omega (arith, h.1) in
    let b = taken_back v p N j w f (read_back c.put_signed-arg-in-loop-j-1.given) t.3 in
    let u = put_as (ap i64_bytes b) c.put_signed-at.ensures in
    let n = u.after in
    let e = literal-length i64_e (pos 0) j c.args.k (diffs v p) l (upto v p N _ h.1) in
    let r = literal-bytes i64_e (pos 0) j c.args.k (diffs v p) l (upto v p N _ h.1) in (
      omega arith,
      omega arith,
      c.put_signed-at.auto.out ∙ t.2,
      read_back c.l-1.given ∙ last_some v p N.even j w f,
      omega arith,
      t.5 ∙ put-part _ _ r u,
    )

pub shape_of-out : goal.shape_of-out
shape_of-out c = c.loop-j.invariant.2

pub returns : goal.returns
returns c =
    let t = c.loop-j.invariant in
    let e = literal-over i64_e (pos 0) c.loop-j.j c.args.k (diffs c.args.values.now c.args.present.now) (omega arith) in
    record { after = omega (arith, ap length e); bytes = sym (t.5 ∙ put-done _ _ _ e) }
