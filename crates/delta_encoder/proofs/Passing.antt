-- The last value behind a stretch of differences: kept over an absent one, and else the stretch's own last one. Assumes nothing.
use Prim.Native.Nat.{ℕ, ◌+◌, ◌-◌, ◌≤◌, ◌<◌}
use mathlib.Core.Path.{◌≡◌, ◌∙◌, ap, subst}
use mathlib.Core.List.{List}
use native.Mathlib.Omega.{arith}
use lib.IntN.{ℤ, pos}
use lib.ListN.{length, get_or}
use Rattle.encoding.specs.Ahead.{end_of, StretchAt, AllPresent}
use Rattle.encoding.specs.declared.StretchEnd.{StretchEnd}
use Rattle.encoding.specs.declared.StretchEnd.TheVariants as stretch
use Rattle.delta_encoder.specs.Ahead.{diffs, last_before}
use Rattle.delta_decoder.specs.Difference.{same_z}
use Rattle.delta_decoder.proofs.DifferenceLaws.{i64-laws}
use Rattle.delta_encoder.proofs.Differing.{diffs-length, flags, last-back, last-absent}
use Rattle.encoding.proofs.Within.{absent-here, repeat-present, literal-present}

module _ (v : List ℤ) (p : List ℕ) (even : length p ≡ length v) (i : ℕ) where
  pub stretch-within : (x : StretchEnd) → StretchAt same_z (pos 0) (diffs v p) p i x → end_of x ≤ length v
  stretch-within x h = omega (arith, diffs-length (pos 0) v p even, h.within)

  absent_none : {k : ℕ} → StretchAt same_z (pos 0) (diffs v p) p i (stretch.Absent k) → (j : ℕ) → i ≤ j → j < k → get_or p j 0 ≡ 0
  absent_none h j f g = absent-here same_z i64-laws.same-eq i64-laws.same_self (pos 0) (diffs v p) p (flags v p even) i h j f g

  repeat-all : {k : ℕ} → StretchAt same_z (pos 0) (diffs v p) p i (stretch.Repeat k) → AllPresent p i k
  repeat-all h = repeat-present same_z i64-laws.same-eq i64-laws.same_self (pos 0) (diffs v p) p (flags v p even) i h

  literal-all : {k : ℕ} → StretchAt same_z (pos 0) (diffs v p) p i (stretch.Literal k) → AllPresent p i k
  literal-all h = literal-present same_z i64-laws.same-eq i64-laws.same_self (pos 0) (diffs v p) p (flags v p even) i h

  pub last-kept : (x : StretchEnd) → StretchAt same_z (pos 0) (diffs v p) p i x → get_or p (end_of x - 1) 0 ≡ 0 → last_before v p i ≡ last_before v p (end_of x)
  last-kept (stretch.Absent k) h e =
      let l = h.later in
      let w = stretch-within (stretch.Absent k) h in
      let n : i + (k - i) ≡ k = omega arith in
      last-absent v p even i (k - i) (omega arith) (λ j f g. absent_none h j f (omega arith)) ∙ ap (last_before v p) n
  last-kept (stretch.Repeat k) h e = let l = h.later in absurd (repeat-all h (k - 1) (omega arith) (omega arith) e)
  last-kept (stretch.Literal k) h e = let l = h.later in absurd (literal-all h (k - 1) (omega arith) (omega arith) e)

  pub last-new : (x : StretchEnd) → StretchAt same_z (pos 0) (diffs v p) p i x → (get_or p (end_of x - 1) 0 ≡ 0 → ⊥) → get_or v (end_of x - 1) (pos 0) ≡ last_before v p (end_of x)
  last-new x h f = let l = h.later in last-back v p even (end_of x) (omega arith) (stretch-within x h) f

  -- what a repeated and a literal stretch are known to cover
  module _ {k : ℕ} {x : StretchEnd} (h : StretchAt same_z (pos 0) (diffs v p) p i x) where
    pub repeat-covers : x ≡ stretch.Repeat k → (i < length v) × (get_or p i 0 ≡ 0 → ⊥)
    repeat-covers e =
        let g = subst (StretchAt same_z (pos 0) (diffs v p) p i) e h in
        let l = g.later in
        (omega (arith, stretch-within (stretch.Repeat k) g), repeat-all g i (omega arith) l)

    pub literal-covers : x ≡ stretch.Literal k → (i ≤ k) × (k ≤ length v) × AllPresent p i k
    literal-covers e =
        let g = subst (StretchAt same_z (pos 0) (diffs v p) p i) e h in
        let l = g.later in
        (omega arith, stretch-within (stretch.Literal k) g, literal-all g)
