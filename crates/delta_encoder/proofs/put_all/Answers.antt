-- `delta_encoder::put_all` meets its contract: what the stretches from i on owe at the position is what all owe at 0. Assumes nothing.
use Prim.Native.Nat.{ℕ, ◌+◌}
use mathlib.Core.Path.{refl, sym, ◌∙◌, ap}
use mathlib.Core.List.{◌++◌}
use native.Mathlib.Omega.{arith}
use lib.IntN.{pos}
use lib.ListN.{length}
use Rattle.encoding.specs.Ahead.{bytes_from, stretch_of}
use Rattle.encoding.specs.Writer.{stretch_bytes}
use Rattle.encoding.proofs.Putting.{bytes_cut, bytes-length, bytes-end, put-part, put-done}
use Rattle.delta_encoder.specs.Ahead.{diffs, last_of, last_before}
use Rattle.delta_decoder.specs.Difference.{i64_e}
use Rattle.delta_encoder.proofs.Passing.{stretch-within}
use Rattle.delta_encoder.proofs.Taking.{read_back, past}
use Rattle.delta_encoder.proofs.put_all.Goals as goal

pub loop-i-init : goal.loop-i-init
unfolding last_of
loop-i-init c = (omega arith, refl, refl, omega (arith, c.requires.present_in_bounds), refl)

pub stretch_at-stretch-requires : goal.stretch_at-stretch-requires
stretch_at-stretch-requires c = record { narrow = c.requires.narrow.0; i_in_bounds = (c.loop-i-test.true, c.loop-i.invariant.2) }

pub put_stretch-at-requires : goal.put_stretch-at-requires
put_stretch-at-requires c =
    let q = c.stretch_at-stretch.ensures in
    let h = c.loop-i.invariant in
    let e = bytes-length i64_e (pos 0) _ _ _ _ q in
    record { narrow = c.requires.narrow; last_value = h.2; stretch_at = q; stretch_in_bounds = omega arith }

pub stretch_last-last-requires : goal.stretch_last-last-requires
stretch_last-last-requires c =
    let N = c.requires.narrow.0 in
    record { present_len = N.even; last_value = c.loop-i.invariant.2; stretch_at = c.stretch_at-stretch.ensures }

pub loop-i-smaller : goal.loop-i-smaller
loop-i-smaller c =
    let l = c.stretch_at-stretch.ensures.later in
    let z = c.stretch_end-i.ensures in
    omega (arith, c.loop-i-test.true)

pub loop-i-preserved : goal.loop-i-preserved
loop-i-preserved c =
    let v = c.args.values.now in
    let p = c.args.present.now in
    let o = c.loop-i in
    let h = o.invariant in
    let x = c.stretch_at-stretch in
    let q = x.ensures in
    let w = stretch-within v p c.requires.narrow.0.even _ _ q in
    let z = c.stretch_end-i.ensures in
    let u = c.put_stretch-at.ensures in
    let b = stretch_bytes i64_e (stretch_of (pos 0) (diffs v p) o.i x.result) in
    let e = bytes_cut i64_e (pos 0) _ _ _ _ q ∙ ap (λ (k : ℕ). b ++ bytes_from i64_e (diffs v p) p k) (sym z) in
    let l = bytes-length i64_e (pos 0) _ _ _ _ q ∙ ap (λ (k : ℕ). length b + length (bytes_from i64_e (diffs v p) p k)) (sym z) in (
      omega arith,
      c.put_stretch-at.auto.out ∙ h.1,
      read_back c.stretch_last-last.type_inv ∙ c.stretch_last-last.ensures ∙ ap (last_before v p) (sym z),
      omega (arith, u.after),
      h.4 ∙ put-part _ _ e u,
    )

pub shape_of-out : goal.shape_of-out
shape_of-out c = c.loop-i.invariant.1

pub returns : goal.returns
returns c =
    let v = c.args.values.now in
    let p = c.args.present.now in
    let e = bytes-end i64_e (pos 0) (diffs v p) p c.loop-i.i (past v p c.requires.narrow.0 _ c.loop-i-test.false) in
    sym (c.loop-i.invariant.4 ∙ put-done _ _ _ e)
