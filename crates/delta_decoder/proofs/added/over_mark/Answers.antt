-- `delta_decoder::added::over_mark` meets its contract: by the sign. Assumes nothing.
use mathlib.Core.Path.{◌≡◌, sym, ap, ◌∙◌}
use Prim.Native.Nat.{◌+◌, ◌-◌, ◌≤◌, ◌<◌, ◌^◌}
use native.Mathlib.Omega.{arith}
use lib.IntN.{ℤ}
use lib.Signed.{mag}
use mir.Syntax.{w8, w64}
use mir.Val.{SFits}
use mir.ValLaws.{to_z-of_z}
use Rattle.leb128.proofs.Twos.{wider, is-neg, is_pos}
use Rattle.delta_decoder.specs.Added.{over_mark}
use Rattle.delta_decoder.proofs.added.over_mark.Goals as goal

byte : (x : ℤ) → SFits w8 x → mag x ≤ 127
byte x f = let h : mag x < 2 ^ 7 = f.sfits in omega arith

pub overflow_cast-z : goal.overflow_cast-z
overflow_cast-z c = rw (to_z-of_z w8 c.args.x c.ranges.x) (wider c.args.x c.ranges.x)

pub overflow_sub-result : goal.overflow_sub-result
overflow_sub-result c =
    let r = rw (to_z-of_z w8 c.args.x c.ranges.x, to_z-of_z w64 c.args.x (wider c.args.x c.ranges.x)) at c.magnitude.ensures.0 in
    omega (arith, r, byte c.args.x c.ranges.x)

pub returns-then-z-lt0 : goal.returns-then-z-lt0
returns-then-z-lt0 c =
    let x = c.args.x in
    let f = wider x c.ranges.x in
    let r : c.magnitude.result ≡ mag x = rw (to_z-of_z w8 x c.ranges.x, to_z-of_z w64 x f) at c.magnitude.ensures.0 in
    let t = rw (to_z-of_z w8 x c.ranges.x) at c.if-z-lt0.true in
    ap (λ k. 127 - k) r ∙ sym (ap over_mark (is-neg x f t))

pub returns-else-z-lt0 : goal.returns-else-z-lt0
returns-else-z-lt0 c =
    let x = c.args.x in
    let f = wider x c.ranges.x in
    let r : c.magnitude-else-z-lt0.result ≡ mag x = rw (to_z-of_z w8 x c.ranges.x, to_z-of_z w64 x f) at c.magnitude-else-z-lt0.ensures.0 in
    let t = rw (to_z-of_z w8 x c.ranges.x) at c.if-z-lt0.false in
    ap (λ k. k + 128) r ∙ sym (ap over_mark (is_pos x f t))
