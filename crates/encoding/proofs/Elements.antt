-- The laws that an element obeys, and bytes that stand somewhere in others. Assumes nothing.
use Prim.Native.Nat.{ℕ, ◌+◌, ◌-◌, ◌≤◌, ◌<◌}
use mathlib.Core.Path.{◌≡◌, sym, ◌∙◌, ap}
use mathlib.Core.List.{List, ◌++◌, append_assoc}
use mathlib.Core.Bool.{true}
use native.Mathlib.Omega.{arith}
use lib.ListN.{length, get_or, take, drop, length-append}
use Rattle.leb128.specs.Got.{got}
use Rattle.encoding.specs.Element.{Element}

-- the bytes w stand in s from p on
pub record Stands (s : List ℕ) (p : ℕ) (w : List ℕ) : Type 0 where
  pub pre : List ℕ
  pub post : List ℕ
  pub split : s ≡ pre ++ (w ++ post)
  pub place : length pre ≡ p

pub record ElementLaws {A : Type 0} (E : Element A) : Type 0 where
  -- what was written reads back
  pub back : (s : List ℕ) (p : ℕ) (a : A) → E.fits a ≡ true → Stands s p (E.write a) → E.read s p ≡ got a (p + length (E.write a))
  -- a value that is read takes a byte at least, and lies within
  pub ahead : (s : List ℕ) (p q : ℕ) (a : A) → E.read s p ≡ got a q → p < q
  pub within : (s : List ℕ) (p q : ℕ) (a : A) → E.read s p ≡ got a q → q ≤ length s
  -- what was read is what would be written, and can be
  pub exact : (s : List ℕ) → ((i : ℕ) → get_or s i 0 < 256) → (p q : ℕ) (a : A) → E.read s p ≡ got a q → (take (q - p) (drop p s) ≡ E.write a) × (E.fits a ≡ true)
  -- the equality test is right
  pub same-eq : (a b : A) → E.same a b ≡ true → a ≡ b
  pub same_self : (a : A) → E.same a a ≡ true

pub stands-left : (s : List ℕ) (p : ℕ) (a b : List ℕ) → Stands s p (a ++ b) → Stands s p a
stands-left s p a b h =
    record {
      pre = h.pre;
      post = b ++ h.post;
      split = h.split ∙ ap (λ (l : List ℕ). h.pre ++ l) (append_assoc a b h.post);
      place = h.place;
    }

pub stands-right : (s : List ℕ) (p : ℕ) (a b : List ℕ) → Stands s p (a ++ b) → Stands s (p + length a) b
stands-right s p a b h =
    record {
      pre = h.pre ++ a;
      post = h.post;
      split = h.split ∙ ap (λ (l : List ℕ). h.pre ++ l) (append_assoc a b h.post) ∙ sym (append_assoc h.pre a (b ++ h.post));
      place = length-append h.pre a ∙ ap (λ (k : ℕ). k + length a) h.place;
    }

pub stands-within : (s : List ℕ) (p : ℕ) (w : List ℕ) → Stands s p w → p + length w ≤ length s
stands-within s p w h =
    let e : length s ≡ length h.pre + length (w ++ h.post) = ap length h.split ∙ length-append h.pre (w ++ h.post) in
    omega (arith, length-append w h.post, h.place)

-- what is read behind any bytes, whatever follows, is read where the bytes stand
pub stands_read : {B : Type 0} (f : List ℕ → ℕ → B) (g : ℕ → B) (w : List ℕ)
    → ((pre rest : List ℕ) → f (pre ++ (w ++ rest)) (length pre) ≡ g (length pre + length w))
    → (s : List ℕ) (p : ℕ) → Stands s p w → f s p ≡ g (p + length w)
stands_read f g w h s p t =
    ap (λ (l : List ℕ). f l p) t.split
    ∙ ap (λ (k : ℕ). f (t.pre ++ (w ++ t.post)) k) (sym t.place)
    ∙ h t.pre t.post
    ∙ ap (λ (k : ℕ). g (k + length w)) t.place
