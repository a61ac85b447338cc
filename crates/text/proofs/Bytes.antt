-- Bytes compared: one by one; and no two values that can be written have the same, whatever the element. Assumes nothing.
use Prim.Native.Nat.{ℕ, suc, ◌+◌, ◌≤◌, ◌<◌}
use mathlib.Core.Path.{◌≡◌, refl, sym, ◌∙◌, ap}
use mathlib.Core.List.{List, [], ◌∷◌, append-nil}
use mathlib.Core.Bool.{Bool, true, false, ◌&&◌}
use native.Mathlib.Omega.{arith}
use native.Mathlib.Numerals.{add-one}
use lib.Dec.{eqb}
use lib.ListN.{length, get_or, drop, drop_of_length-le}
use lib.Seq.{drop-cons}
use borrow.Author.Tests.{eq-eqb, ne_eqb}
use Rattle.leb128.specs.Got.{got}
use Rattle.encoding.specs.Element.{Element}
use Rattle.encoding.proofs.Elements.{ElementLaws}
use Rattle.text.specs.Text.{same_bytes}
use Rattle.text.proofs.TextLaws.{text-laws}

-- ---- one by one

pub same-uneven : (v w : List ℕ) → (length v ≡ length w → ⊥) → false ≡ same_bytes v w
same-uneven v w f = go (same_bytes v w) refl
  where
    go : (b : Bool) → same_bytes v w ≡ b → false ≡ b
    go true e = absurd (f (ap length (text-laws.same-eq v w e)))
    go false e = refl

module _ (v w : List ℕ) (n : length v ≡ length w) (k : ℕ) where
  -- by the first bytes of what is left
  same_first : k < length v → same_bytes (drop k v) (drop k w) ≡ eqb (get_or v k 0) (get_or w k 0) && same_bytes (drop (k + 1) v) (drop (k + 1) w)
  unfolding same_bytes
  same_first l =
      ap (λ (x : List ℕ). same_bytes x (drop k w)) (drop-cons v k 0 l)
      ∙ ap (same_bytes (get_or v k 0 ∷ drop (suc k) v)) (drop-cons w k 0 (omega arith))
      ∙ ap (λ (j : ℕ). eqb (get_or v k 0) (get_or w k 0) && same_bytes (drop j v) (drop j w)) (sym (add-one k))

  pub same_more : k < length v → get_or v k 0 ≡ get_or w k 0 → same_bytes (drop k v) (drop k w) ≡ same_bytes (drop (k + 1) v) (drop (k + 1) w)
  same_more l e = same_first l ∙ ap (λ (t : Bool). t && same_bytes (drop (k + 1) v) (drop (k + 1) w)) (eq-eqb _ _ e)

  pub same-other : k < length v → (get_or v k 0 ≡ get_or w k 0 → ⊥) → same_bytes (drop k v) (drop k w) ≡ false
  same-other l f = same_first l ∙ ap (λ (t : Bool). t && same_bytes (drop (k + 1) v) (drop (k + 1) w)) (ne_eqb _ _ f)

  pub same_end : length v ≤ k → same_bytes (drop k v) (drop k w) ≡ true
  unfolding same_bytes
  same_end l = ap (λ (x : List ℕ). same_bytes x (drop k w)) (drop_of_length-le v l) ∙ ap (same_bytes []) (drop_of_length-le w {i = k} (omega arith))

-- ---- no two values that can be written have the same bytes

module _ {A : Type 0} (E : Element A) (L : ElementLaws E) where
  write-one : (a b : A) → E.fits a ≡ true → E.fits b ≡ true → E.write a ≡ E.write b → a ≡ b
  write-one a b f g e =
      let s = E.write a in
      let x : E.read s 0 ≡ got a (0 + length s) =
      L.back s 0 a f (record { pre = []; post = []; split = sym (append-nil s); place = refl }) in
      let y : E.read s 0 ≡ got b (0 + length (E.write b)) =
      L.back s 0 b g (record { pre = []; post = []; split = e ∙ sym (append-nil (E.write b)); place = refl }) in
      cc

  pub same-written : (a b : A) → E.fits a ≡ true → E.fits b ≡ true → E.same a b ≡ same_bytes (E.write a) (E.write b)
  same-written a b f g = go (E.same a b) refl (same_bytes (E.write a) (E.write b)) refl
    where
      go : (t : Bool) → E.same a b ≡ t → (u : Bool) → same_bytes (E.write a) (E.write b) ≡ u → t ≡ u
      go true d true e = refl
      go false d false e = refl
      go true d false e =
          let q : same_bytes (E.write a) (E.write b) ≡ true =
          ap (λ (c : A). same_bytes (E.write a) (E.write c)) (sym (L.same-eq a b d)) ∙ text-laws.same_self (E.write a) in
          let z : ◌≡◌ {A = ℕ} 0 1 = cc in absurd (omega arith)
      go false d true e =
          let q : E.same a b ≡ true =
          ap (E.same a) (sym (write-one a b f g (text-laws.same-eq (E.write a) (E.write b) e))) ∙ L.same_self a in
          let z : ◌≡◌ {A = ℕ} 0 1 = cc in absurd (omega arith)
