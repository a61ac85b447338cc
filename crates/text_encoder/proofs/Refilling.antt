-- Slots filled from a column, and cleared behind its readings. Assumes nothing.
use Prim.Native.Nat.{ℕ, zero, suc, ◌+◌, ◌-◌, ◌≤◌, ◌<◌}
use mathlib.Core.Path.{◌≡◌, refl, sym, ◌∙◌, ap, subst}
use mathlib.Core.List.{List, [], ◌∷◌, ◌++◌, map, append_assoc}
use native.Mathlib.Omega.{arith}
use lib.ListN.{length, get_or, take, drop, replicate, length-map, length-replicate}
use lib.Seq.{sets, sets-eq, length-take-le, take_at, drop_at, take_all, drop-append-add, drop-drop}
use borrow.Author.Tests.{le-leb, eq-eqb}
use Rattle.leb128.specs.Answer.{Answer, done, within, left}
use Rattle.encoding.specs.Column.{Reading, trace}
use Rattle.encoding.specs.Slots.{flag_of, decoding}
use Rattle.text.specs.Text.{text_e}
use Rattle.text.specs.Name.{start_of, length_of}
use Rattle.text_decoder.specs.Slots.{decoding_names, DecodedNames}
use Rattle.splice.specs.Ready.{put_behind}
use Rattle.text_encoder.specs.Edits.{cleared, refilled, Refilled, Refillable}

-- bytes put at the front
pub front-put : (out bytes : List ℕ) → length bytes ≤ length out → sets out 0 bytes ≡ bytes ++ drop (length bytes) out
front-put out bytes l =
    let e : 0 + length bytes ≡ length bytes = omega arith in
    sets-eq bytes out 0 (omega arith) ∙ ap (λ (k : ℕ). bytes ++ drop k out) e

cleared-behind : (m n : ℕ) (ys slots : List ℕ) {held : List ℕ} → length ys ≡ n → n ≤ m → held ≡ ys ++ drop n slots
    → cleared n m held ≡ refilled m ys slots
cleared-behind m n ys slots {held} k l e =
    let z : List ℕ = replicate (m - n) 0 in
    let a : take n held ≡ ys = ap (take n) e ∙ take_at ys (drop n slots) n k in
    let b : take (m - n) z ≡ z = take_all (m - n) z (omega (arith, length-replicate {A = ℕ} (m - n) 0)) in
    let i : n + (m - n) ≡ length ys + (m - n) = omega arith in
    let j : n + (m - n) ≡ m = omega arith in
    let c : drop (n + (m - n)) held ≡ drop m slots =
    ap (drop (n + (m - n))) e ∙ ap (λ (q : ℕ). drop q (ys ++ drop n slots)) i ∙ drop-append-add ys (drop n slots) (m - n)
    ∙ drop-drop (m - n) n slots ∙ ap (λ (q : ℕ). drop q slots) j in
    let d : z ≡ replicate {A = ℕ} (m - length ys) 0 = ap (λ (q : ℕ). replicate {A = ℕ} (m - q) 0) (sym k) in
    ap (λ (x : List ℕ). x ++ take (m - n) z ++ drop (n + (m - n)) held) a
    ∙ ap (λ (x : List ℕ). ys ++ x ++ drop (n + (m - n)) held) b
    ∙ ap (λ (x : List ℕ). ys ++ z ++ x) c
    ∙ append_assoc ys z (drop m slots)
    ∙ ap (λ (x : List ℕ). ys ++ (x ++ drop m slots)) d

module _ (column : List ℕ) (m : ℕ) (a l p : List ℕ) (R : Refillable column m (length a) (length l) (length p)) where
  abbrev rs : List (Reading (List ℕ))
  rs = (trace text_e column).readings

  module _ {a₁ l₁ p₁ : List ℕ} {o : Answer} (D : DecodedNames (trace text_e column) a a₁ l l₁ p p₁ o) where
    pub refill-answer : o ≡ done (length rs)
    unfolding decoding_names decoding within
    refill-answer =
        D.answer
        ∙ rw (
          eq-eqb (length a) (length l) (sym R.even),
          eq-eqb (length l) (length p) (R.even ∙ sym R.flagged),
          R.sound,
          le-leb (length rs) (length l) (omega (arith, R.few, R.room, R.even)),
        )

    module _ (n : ℕ) (e : o ≡ done n) where
      pub refill-count : n ≡ length rs
      refill-count = let h : done n ≡ done (length rs) = sym e ∙ refill-answer in cc

      one : (f : Reading (List ℕ) → ℕ) (v : List ℕ) {v₁ v₂ : List ℕ} → v₁ ≡ left o (map f rs) v → v₂ ≡ cleared n m v₁ → v₂ ≡ refilled m (map f rs) v
      unfolding left
      one f v {v₁} {v₂} h c =
          let q : v₁ ≡ map f rs ++ drop n v = h ∙ ap (λ (x : Answer). left x (map f rs) v) e in
          c ∙ cleared-behind m n (map f rs) v (length-map rs f ∙ sym refill-count) (omega (arith, refill-count, R.few)) q

      pub refill-done : {a₂ l₂ p₂ : List ℕ} → a₂ ≡ cleared n m a₁ → l₂ ≡ cleared n m l₁ → p₂ ≡ cleared n m p₁ → Refilled column m a a₂ l l₂ p p₂
      refill-done x y z = record { starts = one start_of a D.starts x; lens = one length_of l D.lens y; presence = one flag_of p D.flags z }

pub refilled-of : {c c' : List ℕ} {m : ℕ} {a a' l l' p p' : List ℕ} → c ≡ c' → Refilled c m a a' l l' p p' → Refilled c' m a a' l l' p p'
refilled-of {m = m} {a = a} {a' = a'} {l = l} {l' = l'} {p = p} {p' = p'} e h = subst (λ (x : List ℕ). Refilled x m a a' l l' p p') e h

-- ---- parts

-- what was put behind a position stands there
pub put-there : (at : ℕ) (w out : List ℕ) → at ≤ length out → take (length w) (drop at (put_behind at w out)) ≡ w
put-there at w out h =
    ap (take (length w)) (drop_at (take at out) (w ++ drop (length w) (drop at out)) at (length-take-le at out h))
    ∙ take_at w (drop (length w) (drop at out)) (length w) refl

-- and is the part of so many bytes
pub put-part : (at : ℕ) (mid w w' : List ℕ) {size room : ℕ} {out' : List ℕ} → out' ≡ put_behind at w' mid → w' ≡ w → size ≡ length w → length mid ≡ room → at + length w ≤ room
    → take size (drop at out') ≡ w
put-part at mid w w' {size} e f g k l =
    ap (λ (x : List ℕ). take size (drop at x)) e
    ∙ ap (λ (x : List ℕ). take size (drop at (put_behind at x mid))) f
    ∙ ap (λ (n : ℕ). take n (drop at (put_behind at w mid))) g
    ∙ put-there at w mid (omega arith)

-- bytes of a part are bytes
pub take-bytes : (n : ℕ) (s : List ℕ) → ((i : ℕ) → get_or s i 0 < 256) → (i : ℕ) → get_or (take n s) i 0 < 256
take-bytes zero s B i = omega arith
take-bytes (suc n) [] B i = omega arith
take-bytes (suc n) (x ∷ s) B zero = B 0
take-bytes (suc n) (x ∷ s) B (suc i) = take-bytes n s (λ j. B (suc j)) i

pub drop-bytes : (n : ℕ) (s : List ℕ) → ((i : ℕ) → get_or s i 0 < 256) → (i : ℕ) → get_or (drop n s) i 0 < 256
drop-bytes zero s B i = B i
drop-bytes (suc n) [] B i = omega arith
drop-bytes (suc n) (x ∷ s) B i = drop-bytes n s (λ j. B (suc j)) i
