-- The differences of a given list with their indices kept, and the last value before an index. Assumes nothing.
use Prim.Native.Nat.{ℕ, zero, suc, ◌+◌, ◌-◌, ◌^◌, ◌≤◌, ◌<◌}
use mathlib.Core.Path.{◌≡◌, refl, sym, ◌∙◌, ap}
use mathlib.Core.List.{List, [], ◌∷◌}
use mathlib.Core.Option.{Option, none, some}
use mathlib.Core.Bool.{Bool, true, false, cond}
use native.Mathlib.Omega.{arith}
use native.Mathlib.Numerals.{add-one}
use lib.Dec.{eqb}
use lib.IntN.{ℤ, pos, ◌-ℤ◌}
use lib.ListN.{length, get_or, drop}
use lib.Signed.{mag}
use borrow.Author.Tests.{eq-eqb, ne_eqb}
use Rattle.encoding.specs.Given.{slot_list}
use Rattle.encoding.proofs.Looking.{slot-drop, slot-past}
use Rattle.delta_encoder.specs.Ahead.{diffs_of, diffs, last_of, last_before, Narrow, Near}
use Rattle.delta_decoder.specs.Difference.{holds}
use Rattle.delta_encoder.specs.Differences.{differences, wide_at}
use Rattle.delta_encoder.proofs.Held.{held-near}

-- they are the differences of the list
pub diffs-list : (z : ℤ) (v : List ℤ) (p : List ℕ) → slot_list (diffs_of z v p) p ≡ differences z (slot_list v p)
unfolding slot_list diffs_of differences
diffs-list z [] p = refl
diffs-list z (x ∷ v) [] = refl
diffs-list z (x ∷ v) (b ∷ p) = go (eqb b 0) refl (diffs-list z v p) (diffs-list x v p)
  where
    go : (t : Bool) → eqb b 0 ≡ t → slot_list (diffs_of z v p) p ≡ differences z (slot_list v p) → slot_list (diffs_of x v p) p ≡ differences x (slot_list v p)
        → slot_list (cond t (pos 0 ∷ diffs_of z v p) ((x -ℤ z) ∷ diffs_of x v p)) (b ∷ p) ≡ differences z (cond t none (some x) ∷ slot_list v p)
    go true e f g = rw e (ap (λ (l : List (Option ℤ)). none ∷ l) f)
    go false e f g = rw e (ap (λ (l : List (Option ℤ)). some (x -ℤ z) ∷ l) g)

pub diffs-length : (z : ℤ) (v : List ℤ) (p : List ℕ) → length p ≡ length v → length (diffs_of z v p) ≡ length v
unfolding diffs_of
diffs-length z [] p e = refl
diffs-length z (x ∷ v) [] e = absurd (omega arith)
diffs-length z (x ∷ v) (b ∷ p) e = go (eqb b 0) (diffs-length z v p (omega arith)) (diffs-length x v p (omega arith))
  where
    go : (t : Bool) → length (diffs_of z v p) ≡ length v → length (diffs_of x v p) ≡ length v
        → length (cond t (pos 0 ∷ diffs_of z v p) ((x -ℤ z) ∷ diffs_of x v p)) ≡ suc (length v)
    go true f g = ap suc f
    go false f g = ap suc g

-- the difference at an index is taken from the last value before it
at : (z : ℤ) (v : List ℤ) (p : List ℕ) (k : ℕ) → k < length v → length p ≡ length v → (get_or p k 0 ≡ 0 → ⊥)
    → get_or (diffs_of z v p) k (pos 0) ≡ get_or v k (pos 0) -ℤ last_of z v p k
unfolding diffs_of last_of
at z [] p k l e f = absurd (omega arith)
at z (x ∷ v) [] k l e f = absurd (omega arith)
at z (x ∷ v) (b ∷ p) zero l e f = rw (ne_eqb b 0 f)
at z (x ∷ v) (b ∷ p) (suc k) l e f = go (eqb b 0) (λ y. at y v p k (omega arith) (omega arith) f)
  where
    go : (t : Bool) → ((y : ℤ) → get_or (diffs_of y v p) k (pos 0) ≡ get_or v k (pos 0) -ℤ last_of y v p k)
        → get_or (cond t (pos 0 ∷ diffs_of z v p) ((x -ℤ z) ∷ diffs_of x v p)) (suc k) (pos 0) ≡ get_or v k (pos 0) -ℤ last_of (cond t z x) v p k
    go true h = h z
    go false h = h x

past-some : (z : ℤ) (v : List ℤ) (p : List ℕ) (k : ℕ) → k < length v → length p ≡ length v → (get_or p k 0 ≡ 0 → ⊥) → get_or v k (pos 0) ≡ last_of z v p (suc k)
unfolding last_of
past-some z [] p k l e f = absurd (omega arith)
past-some z (x ∷ v) [] k l e f = absurd (omega arith)
past-some z (x ∷ v) (b ∷ p) zero l e f = rw (ne_eqb b 0 f)
past-some z (x ∷ v) (b ∷ p) (suc k) l e f = past-some (cond (eqb b 0) z x) v p k (omega arith) (omega arith) f

past-none : (z : ℤ) (v : List ℤ) (p : List ℕ) (k : ℕ) → k < length v → length p ≡ length v → get_or p k 0 ≡ 0 → last_of z v p k ≡ last_of z v p (suc k)
unfolding last_of
past-none z [] p k l e f = absurd (omega arith)
past-none z (x ∷ v) [] k l e f = absurd (omega arith)
past-none z (x ∷ v) (b ∷ p) zero l e f = rw (eq-eqb b 0 f)
past-none z (x ∷ v) (b ∷ p) (suc k) l e f = past-none (cond (eqb b 0) z x) v p k (omega arith) (omega arith) f

module _ (v : List ℤ) (p : List ℕ) (even : length p ≡ length v) where
  pub flags : length p ≡ length (diffs v p)
  flags = even ∙ sym (diffs-length (pos 0) v p even)

  pub diff-at : (k : ℕ) → k < length v → (get_or p k 0 ≡ 0 → ⊥) → get_or (diffs v p) k (pos 0) ≡ get_or v k (pos 0) -ℤ last_before v p k
  diff-at k l f = at (pos 0) v p k l even f

  -- the last value behind a reading
  pub last_some : (k : ℕ) → k < length v → (get_or p k 0 ≡ 0 → ⊥) → get_or v k (pos 0) ≡ last_before v p (k + 1)
  last_some k l f = past-some (pos 0) v p k l even f ∙ ap (last_before v p) (sym (add-one k))

  last_none : (k : ℕ) → k < length v → get_or p k 0 ≡ 0 → last_before v p k ≡ last_before v p (k + 1)
  last_none k l f = past-none (pos 0) v p k l even f ∙ ap (last_before v p) (sym (add-one k))

  pub last-back : (k : ℕ) → 0 < k → k ≤ length v → (get_or p (k - 1) 0 ≡ 0 → ⊥) → get_or v (k - 1) (pos 0) ≡ last_before v p k
  last-back k z l f =
      let e : k - 1 + 1 ≡ k = omega arith in
      last_some (k - 1) (omega arith) f ∙ ap (last_before v p) e

  -- and behind absent ones
  pub last-absent : (i n : ℕ) → i + n ≤ length v → ((j : ℕ) → i ≤ j → j < i + n → get_or p j 0 ≡ 0) → last_before v p i ≡ last_before v p (i + n)
  last-absent i zero l f = let e : i ≡ i + 0 = omega arith in ap (last_before v p) e
  last-absent i (suc n) l f =
      let e : i + n + 1 ≡ i + suc n = omega arith in
      last-absent i n (omega arith) (λ j g h. f j g (omega arith))
      ∙ last_none (i + n) (omega arith) (f (i + n) (omega arith) (omega arith))
      ∙ ap (last_before v p) e

-- ---- an i64 holds the differences

-- a given list from an index on, before which z is the last value
module _ (v : List ℤ) (p : List ℕ) (even : length p ≡ length v) (z : ℤ) (k : ℕ) where
  pub wide-none : k < length v → get_or p k 0 ≡ 0
      → wide_at k (differences z (drop k (slot_list v p))) ≡ wide_at (k + 1) (differences z (drop (k + 1) (slot_list v p)))
  unfolding wide_at differences
  wide-none l e = ap (λ (xs : List (Option ℤ)). wide_at k (differences z xs)) (slot-drop (pos 0) v p k l even) ∙ simp (eq-eqb (get_or p k 0) 0 e, add-one)

  pub wide-some : k < length v → (get_or p k 0 ≡ 0 → ⊥) → holds (get_or v k (pos 0) -ℤ z) ≡ true
      → wide_at k (differences z (drop k (slot_list v p))) ≡ wide_at (k + 1) (differences (get_or v k (pos 0)) (drop (k + 1) (slot_list v p)))
  unfolding wide_at differences
  wide-some l e h = ap (λ (xs : List (Option ℤ)). wide_at k (differences z xs)) (slot-drop (pos 0) v p k l even) ∙ simp (ne_eqb (get_or p k 0) 0 e, h, add-one)

  pub wide-stop : k < length v → (get_or p k 0 ≡ 0 → ⊥) → holds (get_or v k (pos 0) -ℤ z) ≡ false
      → wide_at k (differences z (drop k (slot_list v p))) ≡ some k
  unfolding wide_at differences
  wide-stop l e h = ap (λ (xs : List (Option ℤ)). wide_at k (differences z xs)) (slot-drop (pos 0) v p k l even) ∙ simp (ne_eqb (get_or p k 0) 0 e, h)

  pub wide-end : length v ≤ k → wide_at k (differences z (drop k (slot_list v p))) ≡ none
  unfolding wide_at differences
  wide-end l = ap (λ (xs : List (Option ℤ)). wide_at k (differences z xs)) (slot-past v p k l)

-- values near to 0 have none that is wide
near : (i : ℕ) (z : ℤ) (v : List ℤ) (p : List ℕ) → mag z < 2 ^ 62 → Near v (length v) → wide_at i (differences z (slot_list v p)) ≡ none
unfolding wide_at differences slot_list
near i z [] p f h = refl
near i z (x ∷ v) [] f h = refl
near i z (x ∷ v) (b ∷ p) f h = go (eqb b 0) (λ y g. near (suc i) y v p g (λ k l. h (suc k) (omega arith)))
  where
    go : (t : Bool) → ((y : ℤ) → mag y < 2 ^ 62 → wide_at (suc i) (differences y (slot_list v p)) ≡ none)
        → wide_at i (differences z (cond t none (some x) ∷ slot_list v p)) ≡ none
    go true r = r z f
    go false r = let g : mag x < 2 ^ 62 = h 0 (omega arith) in rw (held-near x z g f) (r x g)

pub near-narrow : (v : List ℤ) (p : List ℕ) → Near v (length v) → wide_at 0 (differences (pos 0) (slot_list v p)) ≡ none
near-narrow v p h = near 0 (pos 0) v p (omega arith) h

-- where none is wide, each is held
abbrev Held : ℕ → ℤ → List ℤ → List ℕ → Type 0
Held i z v p = wide_at i (differences z (slot_list v p)) ≡ none → (k : ℕ) → k < length v → holds (get_or (diffs_of z v p) k (pos 0)) ≡ true

held : (i : ℕ) (z : ℤ) (v : List ℤ) (p : List ℕ) → length p ≡ length v → Held i z v p
unfolding wide_at differences slot_list diffs_of
held i z [] p e h k l = absurd (omega arith)
held i z (x ∷ v) [] e h k l = absurd (omega arith)
held i z (x ∷ v) (b ∷ p) e h k l = go (eqb b 0) h k l (λ y. held (suc i) y v p (omega arith))
  where
    first : (t : Bool) → holds (x -ℤ z) ≡ t → cond t (wide_at (suc i) (differences x (slot_list v p))) (some i) ≡ none
        → (k : ℕ) → k < suc (length v) → ((y : ℤ) → Held (suc i) y v p) → holds (get_or ((x -ℤ z) ∷ diffs_of x v p) k (pos 0)) ≡ true
    first true a h zero l r = a
    first true a h (suc k) l r = r x h k (omega arith)
    first false a h k l r = cc

    go : (t : Bool) → wide_at i (differences z (cond t none (some x) ∷ slot_list v p)) ≡ none
        → (k : ℕ) → k < suc (length v) → ((y : ℤ) → Held (suc i) y v p) → holds (get_or (cond t (pos 0 ∷ diffs_of z v p) ((x -ℤ z) ∷ diffs_of x v p)) k (pos 0)) ≡ true
    go true h zero l r = refl
    go true h (suc k) l r = r z h k (omega arith)
    go false h k l r = first (holds (x -ℤ z)) refl h k l r

pub narrow : (v : List ℤ) (p : List ℕ) → length p ≡ length v → wide_at 0 (differences (pos 0) (slot_list v p)) ≡ none → Narrow v p
narrow v p e h = record { even = e; held = held 0 (pos 0) v p e h }
