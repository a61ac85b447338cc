-- Bytes that stand somewhere in others: two parts side by side stand there as one, and a value that is read stands there as its encoding. Assumes nothing.
use Prim.Native.Nat.{ℕ, ◌+◌, ◌-◌, ◌≤◌, ◌<◌}
use mathlib.Core.Path.{◌≡◌, sym, ◌∙◌, ap}
use mathlib.Core.List.{List, ◌++◌, append_assoc}
use native.Mathlib.Omega.{arith}
use lib.ListN.{length, get_or, take, drop, length-append, length-drop, take-append-drop}
use lib.Seq.{drop_at, length-take-le}
use Rattle.leb128.specs.Got.{got}
use Rattle.encoding.specs.Element.{Element}
use Rattle.encoding.proofs.Elements.{Stands, ElementLaws}

-- what stands at a place is what is found there
pub stands-there : (s : List ℕ) (p : ℕ) (w : List ℕ) → take (length w) (drop p s) ≡ w → p ≤ length s → Stands s p w
stands-there s p w e l =
    record {
      pre = take p s;
      post = drop (length w) (drop p s);
      split = sym (take-append-drop p s) ∙ ap (λ (r : List ℕ). take p s ++ r) (sym (take-append-drop (length w) (drop p s)) ∙ ap (λ (r : List ℕ). r ++ drop (length w) (drop p s)) e);
      place = length-take-le p s l;
    }

-- behind it stands the rest
post_is : (s : List ℕ) (p : ℕ) (w : List ℕ) (h : Stands s p w) → drop (p + length w) s ≡ h.post
post_is s p w h =
    ap (drop (p + length w)) (h.split ∙ sym (append_assoc h.pre w h.post))
    ∙ drop_at (h.pre ++ w) h.post (p + length w) (length-append h.pre w ∙ ap (λ (k : ℕ). k + length w) h.place)

pub behind : (s : List ℕ) (p : ℕ) (w : List ℕ) → Stands s p w → drop p s ≡ w ++ drop (p + length w) s
behind s p w h =
    ap (drop p) h.split ∙ drop_at h.pre (w ++ h.post) p h.place ∙ ap (λ (r : List ℕ). w ++ r) (sym (post_is s p w h))

pub stands-join : (s : List ℕ) (p : ℕ) (v w : List ℕ) → Stands s p v → Stands s (p + length v) w → Stands s p (v ++ w)
stands-join s p v w h k =
    let e : h.post ≡ w ++ k.post =
    sym (post_is s p v h)
    ∙ ap (drop (p + length v)) k.split ∙ drop_at k.pre (w ++ k.post) (p + length v) k.place in
    record {
      pre = h.pre;
      post = k.post;
      split = h.split ∙ ap (λ (r : List ℕ). h.pre ++ (v ++ r)) e ∙ ap (λ (r : List ℕ). h.pre ++ r) (sym (append_assoc v w k.post));
      place = h.place;
    }

-- a value that is read at q, up to z
module _ {A : Type 0} (E : Element A) (L : ElementLaws E) (s : List ℕ) (B : (i : ℕ) → get_or s i 0 < 256) where
  pub read-stands : (q z : ℕ) (a : A) → E.read s q ≡ got a z → Stands s q (E.write a) × (z ≡ q + length (E.write a))
  read-stands q z a e =
      let x = (L.exact s B q z a e).0 in
      let l = L.ahead s q z a e in
      let m = L.within s q z a e in
      let d : length (drop q s) ≡ length s - q = length-drop q s in
      let n : z - q ≡ length (E.write a) = sym (length-take-le (z - q) (drop q s) (omega arith)) ∙ ap length x in
      (stands-there s q (E.write a) (ap (λ (k : ℕ). take k (drop q s)) (sym n) ∙ x) (omega arith), omega arith)
