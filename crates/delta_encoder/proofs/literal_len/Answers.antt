-- `delta_encoder::literal_len` meets its contract: the length owed is n and what the differences from j on take. Assumes nothing.
use mathlib.Core.Path.{◌∙◌, ap}
use native.Mathlib.Omega.{arith}
use lib.IntN.{ℤ, pos, ◌-ℤ◌}
use lib.ListN.{length, get_or}
use mir.Syntax.{w64}
use mir.Val.{to_z, of_z}
use Rattle.leb128.specs.Write.{i64_bytes}
use Rattle.encoding.proofs.Putting.{literal-length, literal-over}
use Rattle.delta_encoder.specs.Ahead.{diffs}
use Rattle.delta_decoder.specs.Difference.{i64_e}
use Rattle.delta_decoder.proofs.DifferenceLaws.{i64-ten}
use Rattle.delta_encoder.proofs.Differing.{last_some}
use Rattle.delta_encoder.proofs.Taking.{read_back, passed, upto, taken-fits, taken_back}
use Rattle.delta_encoder.proofs.literal_len.Goals as goal

pub loop-j-init : goal.loop-j-init
loop-j-init c =
    (omega arith, omega (arith, c.requires.i_le_k.0), omega arith, passed c.ranges.last ∙ c.requires.i_le_k.3, omega arith)

pub offset_bounds-values-j : goal.offset_bounds-values-j
offset_bounds-values-j c = omega arith

pub bounds-values-j : goal.bounds-values-j
bounds-values-j c = omega arith

pub overflow_sub-values : goal.overflow_sub-values
overflow_sub-values c =
    let h = c.requires.i_le_k in
    let j = c.loop-j.j in
    let t = c.loop-j.invariant in
    let l = c.loop-j-test.true in
    taken-fits _ _ c.requires.narrow.0 j (omega arith) (h.2 j t.0 l) (read_back c.len_i64-arg-1.given) t.3

pub overflow_add-n : goal.overflow_add-n
overflow_add-n c =
    let d = to_z w64 (of_z w64 (get_or c.args.values.now c.loop-j.j (pos 0))) -ℤ to_z w64 c.loop-j.l-bits in
    omega (arith, i64-ten (to_z w64 (of_z w64 d)), c.requires.narrow.1)

pub offset_bounds-values-j-in-loop-j : goal.offset_bounds-values-j-in-loop-j
offset_bounds-values-j-in-loop-j c = omega arith

pub bounds-values-j-in-loop-j : goal.bounds-values-j-in-loop-j
bounds-values-j-in-loop-j c = omega arith

pub overflow_add-j : goal.overflow_add-j
overflow_add-j c = omega arith

pub loop-j-smaller : goal.loop-j-smaller
loop-j-smaller c = omega arith

pub loop-j-preserved : goal.loop-j-preserved
loop-j-preserved c =
    let N = c.requires.narrow.0 in
    let h = c.requires.i_le_k in
    let v = c.args.values.now in
    let p = c.args.present.now in
    let j = c.loop-j.j in
    let t = c.loop-j.invariant in
    let l = c.loop-j-test.true in
    let f = h.2 j t.0 l in
    let b = taken_back v p N j (omega arith) f (read_back c.len_i64-arg-1.given) t.3 in
    let m = c.len_i64-n.ensures ∙ ap (λ (x : ℤ). length (i64_bytes x)) b in
    let e = literal-length i64_e (pos 0) j c.args.k (diffs v p) l (upto v p N _ h.1) in (
      omega arith,
      omega arith,
      omega (arith, i64-ten (get_or (diffs v p) j (pos 0))),
      read_back c.l-1.given ∙ last_some v p N.even j (omega arith) f,
      t.4 ∙ omega arith,
    )

pub returns : goal.returns
returns c =
    let t = c.loop-j.invariant in
    let e = literal-over i64_e (pos 0) c.loop-j.j c.args.k (diffs c.args.values.now c.args.present.now) (omega arith) in
    (omega (arith, ap length e), omega arith)
