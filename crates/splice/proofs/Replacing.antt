-- Lists in slots while an edit replaces a range of them, over any element: the new readings put, and what the slots then hold. Assumes nothing.
use Prim.Native.Nat.{ℕ, zero, suc, ◌+◌, ◌-◌, ◌≤◌, ◌<◌, max}
use mathlib.Core.Path.{◌≡◌, refl, sym, ap, ◌∙◌}
use mathlib.Core.List.{List, [], ◌∷◌, ◌++◌, append_assoc, map}
use mathlib.Core.Option.{Option, none, some}
use mathlib.Core.Bool.{Bool, true, false, cond}
use native.Mathlib.Omega.{arith}
use lib.Dec.{leb, eqb}
use lib.ListN.{length, get_or, take, drop, replicate, length-append}
use lib.Seq.{paste, take_at, drop_at, take-length, length-take-le, drop-append-add, drop-drop}
use borrow.Author.Tests.{leb-true, eqb-true, eqb-false, le-ltb, eq-eqb, ne_eqb}
use Rattle.encoding.specs.Given.{given, slot_list, bad_flag}
use Rattle.encoding.specs.Column.{Reading, absent, present, value}
use Rattle.encoding.specs.Slots.{slot_of, flag_of}
use Rattle.slots.specs.Splice.{spliced, in_slots, spliced_slots, splice_answer}
use Rattle.splice.specs.Contract.{slot_in, flag_in}

-- ---- new readings as the slots hold them
pub held_none : {A : Type 0} (z v : A) (flag : ℕ) → flag ≡ 0 → z ≡ slot_in z (given flag v)
held_none z v flag h = rw (eq-eqb flag 0 h)

pub held-some : {A : Type 0} (z v : A) (flag : ℕ) → (flag ≡ 0 → ⊥) → v ≡ slot_in z (given flag v)
held-some z v flag h = rw (ne_eqb flag 0 h)

module _ {A : Type 0} (z : A) where
  pub held-length : (new : List A) (flags : List ℕ) → length flags ≡ length new → length (map (slot_in z) (slot_list new flags)) ≡ length new
  unfolding slot_list
  held-length [] flags h = refl
  held-length (v ∷ new) [] h = absurd (omega arith)
  held-length (v ∷ new) (b ∷ flags) h = ap suc (held-length new flags (omega arith))

  pub held_at : (new : List A) (flags : List ℕ) (i : ℕ) → length flags ≡ length new → i < length new
      → slot_in z (given (get_or flags i 0) (get_or new i z)) ≡ get_or (map (slot_in z) (slot_list new flags)) i z
  unfolding slot_list
  held_at [] flags i h t = absurd (omega arith)
  held_at (v ∷ new) [] i h t = absurd (omega arith)
  held_at (v ∷ new) (b ∷ flags) zero h t = refl
  held_at (v ∷ new) (b ∷ flags) (suc i) h t = held_at new flags i (omega arith) (omega arith)

-- ---- a splice that fits
module _ {A : Type 0} (z : A) (d : List A) (old start end : ℕ) (new : List A) (h : start ≤ end) (e : end ≤ old) (o : old ≤ length d)
    (n : start + length new + (old - end) ≤ length d) where
  pub splice-fits : {s : List A} → s ≡ spliced_slots z (splice_answer (length d) old start end (length new)) d old start end new
      → s ≡ in_slots z d old (spliced (take old d) start end new)
  unfolding splice_answer spliced_slots
  splice-fits s =
      let m : max old (start + length new + (old - end)) ≤ length d = omega arith in
      s ∙ rw (le-ltb end start h, le-ltb old end e, le-ltb (length d) (max old (start + length new + (old - end))) m)

  -- others of the same number put in the place of the new ones
  pub splice-put : {s s' : List A} (src : List A) → length src ≡ length new → s ≡ in_slots z d old (spliced (take old d) start end new)
      → s' ≡ paste s start src (length new) → s' ≡ in_slots z d old (spliced (take old d) start end src)
  splice-put {s} {s'} src l a b =
      let L = take old d in
      let H = take start L in
      let D = drop end L in
      let R : ℕ → List A = λ n. replicate (old - n) z ++ drop (max old n) d in
      let m = length (H ++ (new ++ D)) in
      let k : length H ≡ start = length-take-le start L (omega (arith, length-take-le old d o)) in
      let f : s ≡ H ++ (new ++ (D ++ R m)) = a ∙ simp append_assoc in
      let t : take start s ≡ H = ap (take start) f ∙ take_at H (new ++ (D ++ R m)) start k in
      let u : take (length new) src ≡ src = ap (λ (n : ℕ). take n src) (sym l) ∙ take-length src in
      let w : drop (start + length new) s ≡ D ++ R m =
      ap (drop (start + length new)) f ∙ ap (λ (n : ℕ). drop (n + length new) (H ++ (new ++ (D ++ R m)))) (sym k)
      ∙ drop-append-add H (new ++ (D ++ R m)) (length new) ∙ drop_at new (D ++ R m) (length new) refl in
      let q : m ≡ length (H ++ (src ++ D)) = omega (arith, length-append H (new ++ D), length-append new D, length-append H (src ++ D), length-append src D) in
      let x : (H ++ src) ++ (D ++ R m) ≡ (H ++ (src ++ D)) ++ R m = simp append_assoc in
      b ∙ ap (λ (y : List A). (y ++ take (length new) src) ++ drop (start + length new) s) t
      ∙ ap (λ (y : List A). (H ++ y) ++ drop (start + length new) s) u ∙ ap (λ (y : List A). (H ++ src) ++ y) w ∙ x
      ∙ ap (λ (n : ℕ). (H ++ (src ++ D)) ++ R n) q

-- ---- slots that were filled with the old list
module _ {A : Type 0} (z : A) (v : List A) (old start end : ℕ) (list new : List A) (l : length list ≡ old) where
  pub in-loaded : {v₁ v₂ : List A} → v₁ ≡ list ++ drop old v → v₂ ≡ in_slots z v₁ old (spliced (take old v₁) start end new)
      → v₂ ≡ in_slots z v old (spliced list start end new)
  in-loaded {v₁} {v₂} a b =
      let Y = spliced list start end new in
      let D = drop old v in
      let k : max old (length Y) ≡ old + (length Y - old) = omega arith in
      let t : take old (list ++ D) ≡ list = take_at list D old l in
      let w : drop (max old (length Y)) (list ++ D) ≡ drop (max old (length Y)) v =
      ap (λ (n : ℕ). drop n (list ++ D)) (k ∙ ap (λ (n : ℕ). n + (length Y - old)) (sym l))
      ∙ drop-append-add list D (length Y - old) ∙ drop-drop (length Y - old) old v ∙ ap (λ (n : ℕ). drop n v) (sym k) in
      b ∙ ap (λ (x : List A). in_slots z x old (spliced (take old x) start end new)) a
      ∙ ap (λ (x : List A). in_slots z (list ++ D) old (spliced x start end new)) t
      ∙ ap (λ (x : List A). Y ++ (replicate (old - length Y) z ++ x)) w

-- ---- readings, their values and their presence bytes
module _ {A : Type 0} (z : A) where
  pub values_of : (rs : List (Reading A)) → map (slot_of z) rs ≡ map (slot_in z) (map value rs)
  unfolding value
  values_of [] = refl
  values_of (absent ∷ rs) = ap (λ l. z ∷ l) (values_of rs)
  values_of (present a place ∷ rs) = ap (λ l. a ∷ l) (values_of rs)

  pub back : (xs : List (Option A)) → slot_list (map (slot_in z) xs) (map flag_in xs) ≡ xs
  unfolding slot_list
  back [] = refl
  back (none ∷ xs) = ap (λ l. none ∷ l) (back xs)
  back (some a ∷ xs) = ap (λ l. some a ∷ l) (back xs)

pub flags_of : {A : Type 0} (rs : List (Reading A)) → map flag_of rs ≡ map flag_in (map value rs)
unfolding value
flags_of [] = refl
flags_of (absent ∷ rs) = ap (λ l. 0 ∷ l) (flags_of rs)
flags_of (present a place ∷ rs) = ap (λ l. 1 ∷ l) (flags_of rs)

pub flags-good : {A : Type 0} (i : ℕ) (xs : List (Option A)) → bad_flag i (map flag_in xs) ≡ none
unfolding bad_flag
flags-good i [] = refl
flags-good i (none ∷ xs) = flags-good (suc i) xs
flags-good i (some a ∷ xs) = flags-good (suc i) xs

-- good presence bytes are those of the readings that they stand with
pub flags-kept : {A : Type 0} (i : ℕ) (new : List A) (flags : List ℕ) → length flags ≡ length new → bad_flag i flags ≡ none → map flag_in (slot_list new flags) ≡ flags
unfolding slot_list bad_flag
flags-kept i [] [] h g = refl
flags-kept i [] (b ∷ flags) h g = absurd (omega arith)
flags-kept i (v ∷ new) [] h g = absurd (omega arith)
flags-kept {A} i (v ∷ new) (b ∷ flags) h g = low (leb b 1) refl (λ q. flags-kept (suc i) new flags (omega arith) q) g
  where
    head : (u : Bool) → eqb b 0 ≡ u → b ≤ 1 → flag_in {A = A} (cond u none (some v)) ≡ b
    head true e k = sym (eqb-true b 0 e)
    head false e k = let d = eqb-false b 0 e in omega (arith, k, d)

    low : (t : Bool) → leb b 1 ≡ t → (bad_flag (suc i) flags ≡ none → map flag_in (slot_list new flags) ≡ flags) → cond t (bad_flag (suc i) flags) (some i) ≡ none → flag_in (given b v) ∷ map flag_in (slot_list new flags) ≡ b ∷ flags
    low true e rest q = ap (λ (x : ℕ). x ∷ map flag_in (slot_list new flags)) (head (eqb b 0) refl (leb-true b 1 e)) ∙ ap (λ (l : List ℕ). b ∷ l) (rest q)
    low false e rest q = let y : ◌≡◌ {A = ℕ} 0 1 = cc in absurd (omega arith)
