-- Laws of a splice in slots, over any element: what the moves of `place` leave, one law for each way out of `splice`, and what an edit cites of a
-- spliced list and of slots. Assumes nothing.
use mathlib.Core.Path.{◌≡◌, refl, sym, ap, ◌∙◌}
use mathlib.Core.List.{List, [], ◌∷◌, ◌++◌, append_assoc, map}
use Prim.Native.Nat.{ℕ, zero, suc, ◌+◌, ◌-◌, ◌≤◌, ◌<◌, max}
use native.Mathlib.Omega.{arith}
use borrow.Author.Tests.{lt-ltb, le-ltb}
use lib.ListN.{length, take, drop, replicate, length-append, length-drop, length-replicate}
use lib.Seq.{paste, length-take-le, take-take, take-add, take_at, drop_at, take-append-le, drop-append-add, drop-drop, take_all, take-length}
use Rattle.leb128.specs.Answer.{Answer, done, refused}
use Rattle.encoding.proofs.Lists.{map-append}
use Rattle.slots.specs.Splice.{spliced, in_slots, spliced_slots, splice_answer}

-- ---- a spliced list, and slots that hold it
map-take : {A B : Type 0} (f : A → B) (n : ℕ) (xs : List A) → map f (take n xs) ≡ take n (map f xs)
map-take f zero xs = refl
map-take f (suc n) [] = refl
map-take f (suc n) (x ∷ xs) = ap (λ l. f x ∷ l) (map-take f n xs)

map-drop : {A B : Type 0} (f : A → B) (n : ℕ) (xs : List A) → map f (drop n xs) ≡ drop n (map f xs)
map-drop f zero xs = refl
map-drop f (suc n) [] = refl
map-drop f (suc n) (x ∷ xs) = map-drop f n xs

pub map-spliced : {A B : Type 0} (f : A → B) (xs : List A) (a e : ℕ) (new : List A) → map f (spliced xs a e new) ≡ spliced (map f xs) a e (map f new)
map-spliced f xs a e new = simp (map-append, map-take, map-drop)

module _ {A : Type 0} where
  pub length-spliced : (xs : List A) (a e : ℕ) (new : List A) → a ≤ e → e ≤ length xs → length (spliced xs a e new) ≡ a + length new + (length xs - e)
  length-spliced xs a e new h b =
      omega (arith, length-append (take a xs) (new ++ drop e xs), length-append new (drop e xs), length-take-le a xs (omega arith), length-drop e xs)

-- ---- the splice where there is room for it: after the move, the put and the clearing
module _ {A : Type 0} (z : A) (d : List A) (old a e : ℕ) (new : List A)
    (room : (a ≤ e) × (e ≤ old) × (old ≤ length d) × (a + length new + (old - e) ≤ length d)) where
  drop-take : drop e (take old d) ≡ take (old - e) (drop e d)
  drop-take =
      let q : old ≡ e + (old - e) = omega arith in
      ap (λ (k : ℕ). drop e (take k d)) q ∙ ap (drop e) (take-add e (old - e) d) ∙ drop_at (take e d) (take (old - e) (drop e d)) e
      (length-take-le e d (omega arith))

  result-is : spliced (take old d) a e new ≡ take a d ++ (new ++ take (old - e) (drop e d))
  result-is = rw (take-take a old d (omega arith), drop-take)

  result-long : length (spliced (take old d) a e new) ≡ a + length new + (old - e)
  result-long =
      let l = length-take-le old d room.2 in
      length-spliced (take old d) a e new room.0 (omega arith) ∙ ap (λ (k : ℕ). a + length new + (k - e)) l

  put-moved : {s₁ s₂ : List A} → s₁ ≡ paste d (a + length new) (drop e d) (old - e) → s₂ ≡ paste s₁ a new (length new)
      → s₂ ≡ spliced (take old d) a e new ++ drop (a + length new + (old - e)) d
  put-moved m p =
      let n = old - e in
      let to = a + length new in
      let b : take a (paste d to (drop e d) n) ≡ take a d =
      ap (take a) (append_assoc (take to d) (take n (drop e d)) (drop (to + n) d))
      ∙ take-append-le a (take to d) (take n (drop e d) ++ drop (to + n) d) (omega (arith, length-take-le to d (omega arith)))
      ∙ take-take a to d (omega arith) in
      let c : drop to (paste d to (drop e d) n) ≡ take n (drop e d) ++ drop (to + n) d =
      ap (drop to) (append_assoc (take to d) (take n (drop e d)) (drop (to + n) d)) ∙ drop_at (take to d) (take n (drop e d) ++ drop (to + n) d) to
      (length-take-le to d (omega arith)) in
      p ∙ ap (λ (x : List A). paste x a new (length new)) m ∙ rw (b, c, take-length new, result-is) (simp append_assoc)

  pub placed : {s₁ s₂ : List A} → s₁ ≡ paste d (a + length new) (drop e d) (old - e) → s₂ ≡ paste s₁ a new (length new)
      → old ≤ a + length new + (old - e) → s₂ ≡ in_slots z d old (spliced (take old d) a e new)
  placed m p h =
      let l = result-long in
      let k : old - length (spliced (take old d) a e new) ≡ 0 = omega arith in
      let q : max old (length (spliced (take old d) a e new)) ≡ a + length new + (old - e) = omega arith in
      put-moved m p ∙ rw (k, q)

  pub placed-cleared : {s₁ s₂ s₃ : List A} → s₁ ≡ paste d (a + length new) (drop e d) (old - e) → s₂ ≡ paste s₁ a new (length new)
      → a + length new + (old - e) < old
      → s₃ ≡ paste s₂ (a + length new + (old - e)) (replicate (old - (a + length new + (old - e))) z) (old - (a + length new + (old - e)))
      → s₃ ≡ in_slots z d old (spliced (take old d) a e new)
  placed-cleared m p h r =
      let result = spliced (take old d) a e new in
      let l = result-long in
      let len = a + length new + (old - e) in
      let q : max old (length result) ≡ old = omega arith in
      let b : take len (result ++ drop len d) ≡ result = take_at result (drop len d) len l in
      let m' : len + (old - len) ≡ old = omega arith in
      let c : drop old (result ++ drop len d) ≡ drop old d =
      ap (λ (k : ℕ). drop k (result ++ drop len d)) (sym (ap (λ (k : ℕ). k + (old - len)) l ∙ m'))
      ∙ drop-append-add result (drop len d) (old - len) ∙ drop-drop (old - len) len d ∙ ap (λ (k : ℕ). drop k d) m' in
      r ∙ ap (λ (x : List A). paste x len (replicate (old - len) z) (old - len)) (put-moved m p)
      ∙ rw (m', b, c, take_all (old - len) (replicate (old - len) z) (omega (arith, length-replicate (old - len) z)), q, l) (simp append_assoc)

-- ---- the ways out of a splice: its answer, and what it leaves in the slots
module _ {A : Type 0} (z : A) (d : List A) (old a e : ℕ) (new : List A) where
  -- the answer r and the slots s are those of a splice
  abbrev pub Spliced : Answer → List A → Type 0
  Spliced r s = (r ≡ splice_answer (length d) old a e (length new)) × (s ≡ spliced_slots z (splice_answer (length d) old a e (length new)) d old a e new)

  unchanged : (number place : ℕ) → splice_answer (length d) old a e (length new) ≡ refused number place → Spliced (refused number place) d
  unfolding spliced_slots
  unchanged number place h = (sym h, ap (λ (r : Answer). spliced_slots z r d old a e new) (sym h))

  pub splice-turned : e < a → Spliced (refused 18 0) d
  unfolding splice_answer
  splice-turned h = unchanged 18 0 (rw (lt-ltb e a h))

  pub splice-past : a ≤ e → old < e → Spliced (refused 18 0) d
  unfolding splice_answer
  splice-past h p = unchanged 18 0 (rw (le-ltb e a h, lt-ltb old e p))

  pub splice-full : a ≤ e → e ≤ old → length d < max old (a + length new + (old - e)) → Spliced (refused 9 0) d
  unfolding splice_answer
  splice-full h p f = unchanged 9 0 (rw (le-ltb e a h, le-ltb old e p, lt-ltb (length d) (max old (a + length new + (old - e))) f))

  pub splice-done : {n : ℕ} {s : List A} → a ≤ e → e ≤ old → max old (a + length new + (old - e)) ≤ length d
      → n ≡ a + length new + (old - e) → s ≡ in_slots z d old (spliced (take old d) a e new) → Spliced (done n) s
  unfolding splice_answer spliced_slots
  splice-done h p f n s =
      let q : splice_answer (length d) old a e (length new) ≡ done (a + length new + (old - e)) =
      rw (le-ltb e a h, le-ltb old e p, le-ltb (length d) (max old (a + length new + (old - e))) f) in
      (ap done n ∙ sym q, s ∙ ap (λ (r : Answer). spliced_slots z r d old a e new) (sym q))
