-- `delta_encoder::bytes_len` meets its contract: the length owed is n and what the stretches from i on take. Assumes nothing.
use Prim.Native.Nat.{ℕ}
use mathlib.Core.Path.{refl, ◌∙◌, ap, sym}
use native.Mathlib.Omega.{arith}
use lib.IntN.{pos}
use lib.ListN.{length}
use Rattle.encoding.specs.Ahead.{bytes_from}
use Rattle.encoding.proofs.Putting.{bytes-length, bytes-end, bytes-short}
use Rattle.delta_encoder.specs.Ahead.{diffs, last_of, last_before}
use Rattle.delta_decoder.specs.Difference.{i64_e}
use Rattle.delta_decoder.proofs.DifferenceLaws.{i64-laws, i64-ten}
use Rattle.delta_encoder.proofs.Differing.{diffs-length, flags}
use Rattle.delta_encoder.proofs.Passing.{stretch-within}
use Rattle.delta_encoder.proofs.Taking.{read_back, past}
use Rattle.delta_encoder.proofs.bytes_len.Goals as goal

pub loop-i-init : goal.loop-i-init
unfolding last_of
loop-i-init c = (omega arith, refl, omega arith)

pub stretch_at-stretch-requires : goal.stretch_at-stretch-requires
stretch_at-stretch-requires c = record { narrow = c.requires.0; i_in_bounds = (c.loop-i-test.true, c.loop-i.invariant.1) }

pub stretch_len-n-requires : goal.stretch_len-n-requires
stretch_len-n-requires c = record { narrow = c.requires; last_value = c.loop-i.invariant.1; stretch_at = c.stretch_at-stretch.ensures }

pub overflow_add-n : goal.overflow_add-n
overflow_add-n c =
    let v = c.args.values.now in
    let p = c.args.present.now in
    let N = c.requires.0 in
    let h = c.loop-i.invariant in
    let e = bytes-length i64_e (pos 0) _ _ _ _ c.stretch_at-stretch.ensures in
    omega (arith, bytes-short i64_e i64-laws i64-ten (diffs v p) p (flags v p N.even), diffs-length (pos 0) v p N.even, c.requires.1)

pub stretch_last-last-requires : goal.stretch_last-last-requires
stretch_last-last-requires c = record { present_len = c.requires.0.even; last_value = c.loop-i.invariant.1; stretch_at = c.stretch_at-stretch.ensures }

pub loop-i-smaller : goal.loop-i-smaller
loop-i-smaller c = let l = c.stretch_at-stretch.ensures.later in omega arith

pub loop-i-preserved : goal.loop-i-preserved
loop-i-preserved c =
    let v = c.args.values.now in
    let p = c.args.present.now in
    let h = c.loop-i.invariant in
    let q = c.stretch_at-stretch.ensures in
    let z = c.stretch_end-i.ensures in
    let e = bytes-length i64_e (pos 0) _ _ _ _ q in (
      omega (arith, stretch-within v p c.requires.0.even _ _ q),
      read_back c.stretch_last-last.type_inv ∙ c.stretch_last-last.ensures ∙ ap (last_before v p) (sym z),
      omega (arith, ap (λ (k : ℕ). length (bytes_from i64_e (diffs v p) p k)) z),
    )

pub returns : goal.returns
returns c =
    let v = c.args.values.now in
    let p = c.args.present.now in
    omega (arith, ap length (bytes-end i64_e (pos 0) (diffs v p) p c.loop-i.i (past v p c.requires.0 _ c.loop-i-test.false)))
