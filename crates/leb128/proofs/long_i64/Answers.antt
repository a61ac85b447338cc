-- `leb128::long_i64` meets its contract: the invariant of `Scanning.antt`, with scale the power of 128 that the byte's index says; the ways out of `Signed.antt`. Assumes nothing.
use mathlib.Core.Path.{◌≡◌, refl, sym, ◌∙◌, ap}
use Prim.Native.Nat.{suc, ◌+◌, ◌*◌, ◌-◌, min}
use mir.Syntax.{w64}
use mir.ValLaws.{to_z-of_z}
use borrow.Author.Rules.{sfits_of}
use native.Mathlib.Omega.{arith}
use lib.IntN.{pos, negsuc}
use lib.ListN.{length}
use Rattle.leb128.specs.Read.{i64_at}
use Rattle.leb128.proofs.Scanning.{Room, room, begun, final, tenth, next, cut}
use Rattle.leb128.proofs.Signed.{overlong, not_negative, negative}
use Rattle.leb128.proofs.Sound.{whole-sound, whole-place}
use Rattle.leb128.proofs.long_i64.Goals as goal

pub overflow_sub-first : goal.overflow_sub-first
overflow_sub-first c = omega arith

pub overflow_add-i : goal.overflow_add-i
overflow_add-i c = omega arith

pub loop-i-init : goal.loop-i-init
loop-i-init c =
    let b = c.shared_slice_known-1.given c.args.at in
    let e = c.wide-low.ensures in
    (omega arith, omega arith, refl, refl, omega (arith, b), begun _ c.args.at _ c.args.first c.requires.0 c.requires.1 c.requires.2 e)

pub bounds-s-i : goal.bounds-s-i
bounds-s-i c = omega arith

pub tenth_i64-requires : goal.tenth_i64-requires
tenth_i64-requires c =
    let l = c.loop-i in
    let z : l.n + 1 ≡ 10 = omega (arith, c.if-n-eq9.true) in
    let e = rw z at (final _ _ l.low l.scale l.n l.prev l.i l.invariant.5 c.loop-i-test.true c.if-b-lt128.true) in
    let w = whole-sound _ c.args.at (λ i. (c.shared_slice_known-in-loop-i-1.given i).fits) _ _ _ _ _ e in
    (record { sound = w.0; at_bound = omega (arith, w.1) })

pub returns-then-b-lt128 : goal.returns-then-b-lt128
unfolding i64_at
returns-then-b-lt128 c =
    let l = c.loop-i in
    let z : l.n + 1 ≡ 10 = omega (arith, c.if-n-eq9.true) in
    let e = rw z at (final _ _ l.low l.scale l.n l.prev l.i l.invariant.5 c.loop-i-test.true c.if-b-lt128.true) in
    c.tenth_i64.ensures ∙ rw (← e, whole-place _ c.args.at (λ i. (c.shared_slice_known-in-loop-i-1.given i).fits) _ _ _ _ _ e)

pub returns-then-n-eq9 : goal.returns-then-n-eq9
unfolding i64_at
returns-then-n-eq9 c =
    let l = c.loop-i in
    let m : min c.args.at (length c.args.s.now) ≡ c.args.at = omega (arith, c.requires.0) in
    rw (← tenth _ _ l.low l.scale l.n l.prev l.i l.invariant.5 c.loop-i-test.true c.if-b-lt128.false c.if-n-eq9.true, m)

pub returns-then-b-fill_of : goal.returns-then-b-fill_of
returns-then-b-fill_of c =
    let l = c.loop-i in
    let e = final _ _ l.low l.scale l.n l.prev l.i l.invariant.5 c.loop-i-test.true c.if-b-lt128-2.true in
    overlong _ c.args.at _ _ _ _ l.n e c.requires.0 l.invariant.1 c.if-n-eq9.false (c.if-b-fill_of.true ∙ c.fill_of.ensures)

-- nothing wraps: fewer than ten bytes
fits : (c : goal.After-wide)
    → let l = c.loop-i in Room l.low l.scale l.n c.wide.result
fits c =
    let l = c.loop-i in
    room _ _ _ _ (omega arith) l.invariant.3 l.invariant.4 (omega arith)

pub overflow_mul-v : goal.overflow_mul-v
overflow_mul-v c = omega (arith, fits c)

pub overflow_add-v : goal.overflow_add-v
overflow_add-v c = omega (arith, fits c)

-- nothing wraps: fewer than ten bytes
fits-Then-b-lt64 : (c : goal.Then-b-lt64)
    → let l = c.loop-i in Room l.low l.scale l.n c.wide.result
fits-Then-b-lt64 c =
    let l = c.loop-i in
    room _ _ _ _ (omega arith) l.invariant.3 l.invariant.4 (omega arith)

pub up-requires : goal.up-requires
up-requires c = omega (arith, fits-Then-b-lt64 c)

pub overflow_add-result : goal.overflow_add-result
overflow_add-result c = omega arith

pub returns-then-b-lt64 : goal.returns-then-b-lt64
returns-then-b-lt64 c =
    let l = c.loop-i in
    let e = final _ _ l.low l.scale l.n l.prev l.i l.invariant.5 c.loop-i-test.true c.if-b-lt128-2.true in
    let d = c.wide.ensures in
    let v = to_z-of_z w64 c.up.result (sfits_of c.up.type_inv) ∙ c.up.ensures ∙ ap (λ k. pos (l.low + l.scale * k)) d in
    not_negative _ c.args.at _ _ _ _ l.n e c.requires.0 l.invariant.1 c.if-n-eq9.false (λ z. c.if-b-fill_of.false (z ∙ sym c.fill_of.ensures)) l.i l.invariant.2 c.if-b-lt64.true v

-- nothing wraps: fewer than ten bytes
fits-Else-b-lt64 : (c : goal.Else-b-lt64)
    → let l = c.loop-i in Room l.low l.scale l.n c.wide.result
fits-Else-b-lt64 c =
    let l = c.loop-i in
    room _ _ _ _ (omega arith) l.invariant.3 l.invariant.4 (omega arith)

pub overflow_mul-scale : goal.overflow_mul-scale
overflow_mul-scale c = omega (arith, fits-Else-b-lt64 c)

pub overflow_sub-scale : goal.overflow_sub-scale
overflow_sub-scale c = omega (arith, fits-Else-b-lt64 c)

pub overflow_sub-scale-then-b-lt128-2 : goal.overflow_sub-scale-then-b-lt128-2
overflow_sub-scale-then-b-lt128-2 c = omega (arith, fits-Else-b-lt64 c)

pub down-requires : goal.down-requires
down-requires c = omega (arith, fits-Else-b-lt64 c)

pub overflow_add-result-then-b-lt128-2 : goal.overflow_add-result-then-b-lt128-2
overflow_add-result-then-b-lt128-2 c = omega arith

pub returns-then-b-lt128-2 : goal.returns-then-b-lt128-2
returns-then-b-lt128-2 c =
    let l = c.loop-i in
    let e = final _ _ l.low l.scale l.n l.prev l.i l.invariant.5 c.loop-i-test.true c.if-b-lt128-2.true in
    let d = c.wide.ensures in
    let g : l.scale * 128 - 1 - (l.low + l.scale * c.wide.result) ≡ l.scale * 128 - suc (l.low + l.scale * c.wide.result) = omega arith in
    let v = to_z-of_z w64 c.down.result (sfits_of c.down.type_inv) ∙ c.down.ensures ∙ ap negsuc g ∙ ap (λ k. negsuc (l.scale * 128 - suc (l.low + l.scale * k))) d in
    negative _ c.args.at _ _ _ _ l.n e c.requires.0 l.invariant.1 c.if-n-eq9.false (λ z. c.if-b-fill_of.false (z ∙ sym c.fill_of.ensures)) l.i l.invariant.2 c.if-b-lt64.false v

known : (c : goal.After-wide-in-loop-i)
    → let l = c.loop-i in Room l.low l.scale l.n c.wide-in-loop-i.result
known c =
    let l = c.loop-i in
    room _ _ _ _ (omega arith) l.invariant.3 l.invariant.4 (omega (arith, c.shared_slice_known-in-loop-i-1.given l.i))

pub overflow_mul-low : goal.overflow_mul-low
overflow_mul-low c = omega (arith, known c)

pub overflow_add-low : goal.overflow_add-low
overflow_add-low c = omega (arith, known c)

pub overflow_mul-scale-in-loop-i : goal.overflow_mul-scale-in-loop-i
overflow_mul-scale-in-loop-i c = omega (arith, known c)

pub overflow_add-n : goal.overflow_add-n
overflow_add-n c = omega arith

pub overflow_add-i-in-loop-i : goal.overflow_add-i-in-loop-i
overflow_add-i-in-loop-i c = omega arith

pub loop-i-smaller : goal.loop-i-smaller
loop-i-smaller c = omega arith

pub loop-i-preserved : goal.loop-i-preserved
loop-i-preserved c =
    let l = c.loop-i in (
      omega arith,
      omega arith,
      omega (arith, l.invariant.2),
      (known c).power,
      (known c).below,
      next _ _ l.low l.scale l.n l.prev l.i l.invariant.5 c.loop-i-test.true c.if-b-lt128-2.false c.if-n-eq9.false c.wide-in-loop-i.ensures,
    )

pub returns : goal.returns
unfolding i64_at
returns c =
    let l = c.loop-i in
    let m : min c.args.at (length c.args.s.now) ≡ c.args.at = omega (arith, c.requires.0) in
    rw (← cut _ _ l.low l.scale l.n l.prev l.i l.invariant.5 c.loop-i-test.false (λ z. omega (arith, l.invariant.1)), m)
