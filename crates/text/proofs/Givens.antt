-- Laws of a given list of names: its names by index, and the checks from an index on. Assumes nothing.
use Prim.Native.Nat.{ℕ, zero, suc, ◌+◌, ◌-◌, ◌^◌, ◌≤◌, ◌<◌}
use mathlib.Core.Path.{◌≡◌, refl, sym, ◌∙◌, ap}
use mathlib.Core.List.{List, [], ◌∷◌}
use mathlib.Core.Option.{Option, none, some}
use mathlib.Core.Bool.{Bool, true, false, cond, ◌&&◌, ◌||◌}
use native.Mathlib.Numerals.{add-one}
use native.Mathlib.Omega.{arith}
use lib.Dec.{ltb, leb, eqb}
use lib.ListN.{length, get_or, drop, drop_of_length-le, length-take, length-drop}
use lib.Seq.{drop-cons}
use borrow.Author.Tests.{lt-ltb, le-leb, lt-leb, leb-true, leb-false, eqb-true, eq-eqb, ne_eqb}
use Rattle.leb128.specs.Answer.{done, refused}
use Rattle.encoding.specs.Given.{given, slot_list}
use Rattle.encoding.specs.Limit.{limit}
use Rattle.encoding.proofs.Back.{ListFits}
use Rattle.encoding.proofs.Looking.{slot-drop, slot-past}
use Rattle.utf8.specs.Utf8.{is_utf8}
use Rattle.text.specs.Text.{bytes_at, is_text, text_e}
use Rattle.text.specs.Given.{cut_names, name_list, good_pair, bad_pair, good_text, bad_text, text_given, pairs_given, names_given, within_limit, names_judged}

module _ (b : List ℕ) where
  pub cut-length : (starts lens : List ℕ) → length lens ≡ length starts → length (cut_names b starts lens) ≡ length starts
  unfolding cut_names
  cut-length [] lens e = refl
  cut-length (a ∷ starts) [] e = absurd (omega arith)
  cut-length (a ∷ starts) (n ∷ lens) e = ap suc (cut-length starts lens (omega arith))

  pub cut_at : (starts lens : List ℕ) (i : ℕ) → i < length starts → length lens ≡ length starts
      → get_or (cut_names b starts lens) i [] ≡ bytes_at b (get_or starts i 0) (get_or lens i 0)
  unfolding cut_names
  cut_at [] lens i l e = absurd (omega arith)
  cut_at (a ∷ starts) [] i l e = absurd (omega arith)
  cut_at (a ∷ starts) (n ∷ lens) zero l e = refl
  cut_at (a ∷ starts) (n ∷ lens) (suc i) l e = cut_at starts lens i (omega arith) (omega arith)

-- ---- the pairs

-- a good pair of a name that is present lies within
pub pair-within : (size start len flag : ℕ) → good_pair size start len flag ≡ true → (flag ≡ 0 → ⊥) → start + len ≤ size
unfolding good_pair
pair-within size start len flag h n = leb-true (start + len) size (go (leb flag 1) h)
  where
    go : (t : Bool) → t && (eqb flag 0 || leb (start + len) size) ≡ true → leb (start + len) size ≡ true
    go true e = sym (ap (λ (u : Bool). u || leb (start + len) size) (ne_eqb flag 0 n)) ∙ e
    go false e = let z : false ≡ true = e in cc

module _ (size : ℕ) where
  pub pairs-at : (k : ℕ) (a l p : List ℕ) (i : ℕ) → bad_pair size k a l p ≡ none → i < length a → length l ≡ length a → length p ≡ length a
      → good_pair size (get_or a i 0) (get_or l i 0) (get_or p i 0) ≡ true
  unfolding bad_pair
  pairs-at k [] l p i h j e f = absurd (omega arith)
  pairs-at k (x ∷ xs) [] p i h j e f = absurd (omega arith)
  pairs-at k (x ∷ xs) (n ∷ l) [] i h j e f = absurd (omega arith)
  pairs-at k (x ∷ xs) (n ∷ l) (b ∷ p) i h j e f = go i (good_pair size x n b) refl h j (λ i z l'. pairs-at (suc k) xs l p i z l' (omega arith) (omega arith))
    where
      go : (i : ℕ) (t : Bool) → good_pair size x n b ≡ t → cond t (bad_pair size (suc k) xs l p) (some k) ≡ none → i < suc (length xs)
          → ((i : ℕ) → bad_pair size (suc k) xs l p ≡ none → i < length xs → good_pair size (get_or xs i 0) (get_or l i 0) (get_or p i 0) ≡ true)
          → good_pair size (get_or (x ∷ xs) i 0) (get_or (n ∷ l) i 0) (get_or (b ∷ p) i 0) ≡ true
      go zero true g z l' ih = g
      go (suc i) true g z l' ih = ih i z (omega arith)
      go i false g z l' ih = let y : some k ≡ none = z in cc

module _ (size : ℕ) (a l p : List ℕ) (i : ℕ) where
  abbrev pairs_from : Option ℕ
  pairs_from = bad_pair size i (drop i a) (drop i l) (drop i p)

  here : i < length a → length l ≡ length a → length p ≡ length a
      → pairs_from ≡ cond (good_pair size (get_or a i 0) (get_or l i 0) (get_or p i 0)) (bad_pair size (suc i) (drop (suc i) a) (drop (suc i) l) (drop (suc i) p)) (some i)
  unfolding bad_pair
  here j e f =
      let el : i < length l = omega arith in
      let ep : i < length p = omega arith in
      rw (drop-cons a i 0 j, drop-cons l i 0 el, drop-cons p i 0 ep)

  pub pair-good : i < length a → length l ≡ length a → length p ≡ length a → good_pair size (get_or a i 0) (get_or l i 0) (get_or p i 0) ≡ true
      → pairs_from ≡ bad_pair size (i + 1) (drop (i + 1) a) (drop (i + 1) l) (drop (i + 1) p)
  pair-good j e f g =
      here j e f
      ∙ ap (λ (t : Bool). cond t (bad_pair size (suc i) (drop (suc i) a) (drop (suc i) l) (drop (suc i) p)) (some i)) g
      ∙ ap (λ (k : ℕ). bad_pair size k (drop k a) (drop k l) (drop k p)) (sym (add-one i))

  pub pair-bad : i < length a → length l ≡ length a → length p ≡ length a → good_pair size (get_or a i 0) (get_or l i 0) (get_or p i 0) ≡ false
      → pairs_from ≡ some i
  pair-bad j e f g =
      here j e f ∙ ap (λ (t : Bool). cond t (bad_pair size (suc i) (drop (suc i) a) (drop (suc i) l) (drop (suc i) p)) (some i)) g

  pub pair_end : length a ≤ i → pairs_from ≡ none
  unfolding bad_pair
  pair_end j = ap (λ (x : List ℕ). bad_pair size i x (drop i l) (drop i p)) (drop_of_length-le a j)

-- ---- the names

module _ (b a l p : List ℕ) (i : ℕ) where
  abbrev text_from : Option ℕ
  text_from = bad_text i (drop i (name_list b a l p))

  module _ (j : i < length a) (e : length l ≡ length a) (f : length p ≡ length a) where
    pub names_at : drop i (name_list b a l p) ≡ given (get_or p i 0) (bytes_at b (get_or a i 0) (get_or l i 0)) ∷ drop (suc i) (name_list b a l p)
    names_at =
        let n = cut-length b a l e in
        slot-drop [] (cut_names b a l) p i (omega arith) (omega arith)
        ∙ ap (λ (v : List ℕ). given (get_or p i 0) v ∷ drop (suc i) (name_list b a l p)) (cut_at b a l i j e)

    on-next : bad_text (suc i) (drop (suc i) (name_list b a l p)) ≡ bad_text (i + 1) (drop (i + 1) (name_list b a l p))
    on-next = ap (λ (k : ℕ). bad_text k (drop k (name_list b a l p))) (sym (add-one i))

    at_name : text_from ≡ cond (good_text (bytes_at b (get_or a i 0) (get_or l i 0)) (get_or p i 0)) (bad_text (suc i) (drop (suc i) (name_list b a l p))) (some i)
    unfolding bad_text good_text
    at_name = ap (bad_text i) names_at ∙ go (eqb (get_or p i 0) 0)
      where
        go : (t : Bool) → bad_text i (cond t none (some (bytes_at b (get_or a i 0) (get_or l i 0))) ∷ drop (suc i) (name_list b a l p))
            ≡ cond (t || is_utf8 (bytes_at b (get_or a i 0) (get_or l i 0))) (bad_text (suc i) (drop (suc i) (name_list b a l p))) (some i)
        go true = refl
        go false = refl

    pub text-good : good_text (bytes_at b (get_or a i 0) (get_or l i 0)) (get_or p i 0) ≡ true → text_from ≡ bad_text (i + 1) (drop (i + 1) (name_list b a l p))
    text-good u = at_name ∙ ap (λ (t : Bool). cond t (bad_text (suc i) (drop (suc i) (name_list b a l p))) (some i)) u ∙ on-next

    pub text-bad : good_text (bytes_at b (get_or a i 0) (get_or l i 0)) (get_or p i 0) ≡ false → text_from ≡ some i
    text-bad u = at_name ∙ ap (λ (t : Bool). cond t (bad_text (suc i) (drop (suc i) (name_list b a l p))) (some i)) u

  pub names-past : length l ≡ length a → length a ≤ i → drop i (name_list b a l p) ≡ []
  names-past e j = let n = cut-length b a l e in slot-past (cut_names b a l) p i (omega arith)

  pub text-end : length l ≡ length a → length a ≤ i → text_from ≡ none
  unfolding bad_text
  text-end e j = ap (bad_text i) (names-past e j)

-- ---- one pair, by each way that it is judged

module _ (size start len flag : ℕ) where
  pub pair-absent : flag ≡ 0 → good_pair size start len flag ≡ true
  unfolding good_pair
  pair-absent z =
      let e : leb flag 1 ≡ true = le-leb flag 1 (omega arith) in
      ap (λ (t : Bool). t && (eqb flag 0 || leb (start + len) size)) e ∙ ap (λ (t : Bool). t || leb (start + len) size) (eq-eqb flag 0 z)

  pub pair-flag : 1 < flag → good_pair size start len flag ≡ false
  unfolding good_pair
  pair-flag l = ap (λ (t : Bool). t && (eqb flag 0 || leb (start + len) size)) (lt-leb flag 1 l)

  pub pair-there : (flag ≡ 0 → ⊥) → flag ≤ 1 → good_pair size start len flag ≡ leb (start + len) size
  unfolding good_pair
  pair-there z l =
      ap (λ (t : Bool). t && (eqb flag 0 || leb (start + len) size)) (le-leb flag 1 l)
      ∙ ap (λ (t : Bool). t || leb (start + len) size) (ne_eqb flag 0 z)

  pub pair-room : (flag ≡ 0 → ⊥) → flag ≤ 1 → len ≤ size → leb start (size - len) ≡ good_pair size start len flag
  pair-room z l m = go (leb start (size - len)) refl ∙ sym (pair-there z l)
    where
      go : (t : Bool) → leb start (size - len) ≡ t → t ≡ leb (start + len) size
      go true e = let k = leb-true start (size - len) e in sym (le-leb (start + len) size (omega arith))
      go false e = let k = leb-false start (size - len) e in sym (lt-leb (start + len) size (omega arith))

  pub pair-long : (flag ≡ 0 → ⊥) → flag ≤ 1 → size < len → good_pair size start len flag ≡ false
  pair-long z l m = pair-there z l ∙ lt-leb (start + len) size (omega arith)

-- ---- one name

pub text-absent : (v : List ℕ) (flag : ℕ) → flag ≡ 0 → good_text v flag ≡ true
unfolding good_text
text-absent v flag z = ap (λ (t : Bool). t || is_utf8 v) (eq-eqb flag 0 z)

pub text-there : (v : List ℕ) (flag : ℕ) → (flag ≡ 0 → ⊥) → good_text v flag ≡ is_utf8 v
unfolding good_text
text-there v flag z = ap (λ (t : Bool). t || is_utf8 v) (ne_eqb flag 0 z)

-- ---- the whole list: one law for each way out

module _ (b a l p : List ℕ) where
  pub given-starts : (length a ≡ length l → ⊥) → names_given b a l p ≡ refused 8 0
  unfolding names_given
  given-starts n = simp (ne_eqb (length a) (length l) n)

  module _ (e : length a ≡ length l) where
    pub given-flags : (length l ≡ length p → ⊥) → names_given b a l p ≡ refused 8 0
    unfolding names_given
    given-flags n = simp (eq-eqb (length a) (length l) e, ne_eqb (length l) (length p) n)

    module _ (f : length l ≡ length p) where
      even : names_given b a l p ≡ pairs_given (bad_pair (length b) 0 a l p) (text_given (bad_text 0 (name_list b a l p)))
      unfolding names_given
      even = simp (eq-eqb (length a) (length l) e, eq-eqb (length l) (length p) f)

      pub given_pair : (i : ℕ) → bad_pair (length b) 0 a l p ≡ some i → names_given b a l p ≡ refused 8 i
      given_pair i h = even ∙ ap (λ (x : Option ℕ). pairs_given x (text_given (bad_text 0 (name_list b a l p)))) h

      pub given-text : (x : Option ℕ) → bad_pair (length b) 0 a l p ≡ none → bad_text 0 (name_list b a l p) ≡ x → names_given b a l p ≡ text_given x
      given-text x h g = even ∙ ap (λ (y : Option ℕ). pairs_given y (text_given (bad_text 0 (name_list b a l p)))) h ∙ ap text_given g

  pub judged-refused : (number place : ℕ) → names_given b a l p ≡ refused number place → names_judged b a l p ≡ refused number place
  unfolding names_judged
  judged-refused number place h = ap (within_limit (length a)) h

  pub judged-good : (g : ℕ) → names_given b a l p ≡ done g → length a ≤ limit → names_judged b a l p ≡ done (length a)
  unfolding names_judged
  judged-good g h k = ap (within_limit (length a)) h ∙ simp (le-leb (length a) limit k)

  pub judged-long : (g : ℕ) → names_given b a l p ≡ done g → limit < length a → names_judged b a l p ≡ refused 5 0
  unfolding names_judged
  judged-long g h k = ap (within_limit (length a)) h ∙ simp (lt-leb (length a) limit k)

-- ---- a list that was taken

pub record GivenGood (b a l p : List ℕ) : Type 0 where
  pub even : length l ≡ length a
  pub flagged : length p ≡ length a
  pub pairs : bad_pair (length b) 0 a l p ≡ none
  pub texts : bad_text 0 (name_list b a l p) ≡ none

pub given-good : (b a l p : List ℕ) {g : ℕ} → names_given b a l p ≡ done g → GivenGood b a l p
unfolding names_given
given-good b a l p {g} e =
    go (eqb (length a) (length l)) (eqb (length l) (length p)) (bad_pair (length b) 0 a l p) (bad_text 0 (name_list b a l p)) refl refl refl refl e
  where
    go : (x y : Bool) (u v : Option ℕ) → eqb (length a) (length l) ≡ x → eqb (length l) (length p) ≡ y → bad_pair (length b) 0 a l p ≡ u
        → bad_text 0 (name_list b a l p) ≡ v → cond (x && y) (pairs_given u (text_given v)) (refused 8 0) ≡ done g → GivenGood b a l p
    go true true none none hx hy hu hv q =
        let e = eqb-true (length a) (length l) hx in
        let f = eqb-true (length l) (length p) hy in
        record { even = sym e; flagged = sym (e ∙ f); pairs = hu; texts = hv }
    go true true none (some i) hx hy hu hv q = let z : ◌≡◌ {A = ℕ} 0 1 = cc in absurd (omega arith)
    go true true (some i) v hx hy hu hv q = let z : ◌≡◌ {A = ℕ} 0 1 = cc in absurd (omega arith)
    go true false u v hx hy hu hv q = let z : ◌≡◌ {A = ℕ} 0 1 = cc in absurd (omega arith)
    go false y u v hx hy hu hv q = let z : ◌≡◌ {A = ℕ} 0 1 = cc in absurd (omega arith)

slots_length : {B : Type 0} (v : List B) (p : List ℕ) → length p ≡ length v → length (slot_list v p) ≡ length v
unfolding slot_list
slots_length [] p e = refl
slots_length (x ∷ v) [] e = absurd (omega arith)
slots_length (x ∷ v) (b ∷ p) e = ap suc (slots_length v p (omega arith))

pub names-length : (b a l p : List ℕ) → length l ≡ length a → length p ≡ length a → length (name_list b a l p) ≡ length a
names-length b a l p e f = let n = cut-length b a l e in slots_length (cut_names b a l) p (f ∙ sym n) ∙ n

-- names that were taken can be written: each is UTF-8, and no longer than the bytes
pub texts-fit : (b : List ℕ) → length b < 2 ^ 64 → (i : ℕ) (a l p : List ℕ) → bad_text i (name_list b a l p) ≡ none → ListFits text_e (name_list b a l p)
unfolding bad_text slot_list cut_names is_text
texts-fit b h i [] l p e = tt
texts-fit b h i (x ∷ a) [] p e = tt
texts-fit b h i (x ∷ a) (n ∷ l) [] e = tt
texts-fit b h i (x ∷ a) (n ∷ l) (f ∷ p) e = go (eqb f 0) (is_utf8 (bytes_at b x n)) refl e (λ e. texts-fit b h (suc i) a l p e)
  where
    short : length (bytes_at b x n) < 2 ^ 64
    short = omega (arith, length-take n (drop x b), length-drop x b)

    go : (t u : Bool) → is_utf8 (bytes_at b x n) ≡ u
        → bad_text i (cond t none (some (bytes_at b x n)) ∷ name_list b a l p) ≡ none
        → (bad_text (suc i) (name_list b a l p) ≡ none → ListFits text_e (name_list b a l p))
        → ListFits text_e (cond t none (some (bytes_at b x n)) ∷ name_list b a l p)
    go true u hu q ih = ih q
    go false true hu q ih =
        (ap (λ (z : Bool). z && ltb (length (bytes_at b x n)) (2 ^ 64)) hu ∙ lt-ltb (length (bytes_at b x n)) (2 ^ 64) short, ih (sym (ap (λ (z : Bool). cond z (bad_text (suc i) (name_list b a l p)) (some i)) hu) ∙ q))
    go false false hu q ih = let y : some i ≡ none = sym (ap (λ (z : Bool). cond z (bad_text (suc i) (name_list b a l p)) (some i)) hu) ∙ q in let z : ◌≡◌ {A = ℕ} 0 1 = cc in absurd (omega arith)
