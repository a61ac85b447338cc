-- What was kept is certain, where it lasts (`kept-certain`): the list of every sound column that begins with the bytes begins with it. Where a run-length
-- column ends at a number that is due, all is open behind it (`column-open`), over any element with two values that are written as bytes: of integers and
-- of names. For 1 it is not so: `Examples`. Assumes nothing.
use Prim.Native.Nat.{ℕ, zero, suc, ◌≤◌, ◌<◌}
use mathlib.Core.Path.{◌≡◌, refl, sym, ◌∙◌, ap, subst}
use mathlib.Core.List.{List, [], ◌∷◌, ◌++◌, map}
use mathlib.Core.Option.{Option, some}
use mathlib.Core.Bool.{true}
use native.Mathlib.Omega.{arith}
use lib.ListN.{length, replicate}
use Rattle.leb128.specs.Got.{bad}
use Rattle.leb128.specs.Write.{encoded}
use Rattle.encoding.specs.Walk.{sound, fault, Trace}
use Rattle.encoding.specs.Element.{Element}
use Rattle.encoding.specs.Column.{Reading, value, trace}
use Rattle.encoding.proofs.Lists.{map-append}
use Rattle.encoding.proofs.Elements.{ElementLaws}
use Rattle.rle_decoder.specs.Word.{u64_e}
use Rattle.rle_decoder.proofs.WordLaws.{u64-laws}
use Rattle.utf8.specs.Utf8.{follow, goes_on, is_utf8}
use Rattle.text.specs.Text.{text_bytes, is_text, text_e}
use Rattle.text.proofs.TextLaws.{text-laws}
use Rattle.salvage.specs.Kept.{Prefix, Lasting, Bytes, Certain, Open}
use Rattle.salvage.proofs.Staying.{Staying, u64-stays, text-stays}
use Rattle.salvage.proofs.Keeping.{prefix-nil, prefix-behind}
use Rattle.salvage.proofs.Due.{u64-due, text-due}
use Rattle.salvage.proofs.Mended.{Mends, mended}

-- ---- what was kept is certain

pub prefix-map : {R B : Type 0} (f : R → B) (xs ys : List R) → Prefix xs ys → Prefix (map f xs) (map f ys)
prefix-map f xs ys h = record { rest = map f h.rest; split = ap (map f) h.split ∙ map-append f xs h.rest }

pub kept-certain : {R B : Type 0} (read : List ℕ → Trace R) (f : R → B) → Lasting read → (s : List ℕ) → Certain read f s (map f (read s).readings)
kept-certain read f l s u b e = prefix-map f (read s).readings (read (s ++ u)).readings (l.prefix s u)

-- ---- two lists that differ at once, or of which one is at its end

abbrev pub Apart : {B : Type 0} → List B → List B → Type 0
Apart [] ys = Unit {0}
Apart (x ∷ xs) [] = Unit {0}
Apart (x ∷ xs) (y ∷ ys) = x ≡ y → ⊥

prefix-none : {B : Type 0} (x : B) (xs : List B) → Prefix (x ∷ xs) [] → ⊥
prefix-none x xs h = let e = ap length h.split in omega (arith, e)

prefix_head : {B : Type 0} (x y : B) (xs ys : List B) → Prefix (x ∷ xs) (y ∷ ys) → y ≡ x
prefix_head x y xs ys h = let e : y ∷ ys ≡ x ∷ (xs ++ h.rest) = h.split in cc

prefix-tail : {B : Type 0} (x y : B) (xs ys : List B) → Prefix (x ∷ xs) (y ∷ ys) → Prefix xs ys
prefix-tail x y xs ys h = let e : y ∷ ys ≡ x ∷ (xs ++ h.rest) = h.split in record { rest = h.rest; split = cc }

-- what both begin with ends where they part
pub in-common : {B : Type 0} (xs ks ys zs : List B) → Apart ys zs → Prefix xs (ks ++ ys) → Prefix xs (ks ++ zs) → Prefix xs ks
in-common [] ks ys zs d p q = prefix-nil ks
in-common (x ∷ xs) [] [] zs d p q = absurd (prefix-none x xs p)
in-common (x ∷ xs) [] (y ∷ ys) [] d p q = absurd (prefix-none x xs q)
in-common (x ∷ xs) [] (y ∷ ys) (z ∷ zs) d p q = absurd (d (prefix_head x y xs ys p ∙ sym (prefix_head x z xs zs q)))
in-common (x ∷ xs) (k ∷ ks) ys zs d p q =
    let h : Prefix xs ks = in-common xs ks ys zs d (prefix-tail x k xs (ks ++ ys) p) (prefix-tail x k xs (ks ++ zs) q) in
    let e : k ≡ x = prefix_head x k xs (ks ++ ys) p in
    rw e (prefix-behind (x ∷ []) xs ks h)

pub apart-copies : {B : Type 0} (c : ℕ) (x y : B) → (x ≡ y → ⊥) → Apart (replicate c x) (replicate c y)
apart-copies zero x y d = tt
apart-copies (suc c) x y d = d

-- two sound columns that begin with s and part behind ks
pub parted : {R B : Type 0} (read : List ℕ → Trace R) (f : R → B) (s u v : List ℕ) (ks ys zs : List B) → Apart ys zs → Bytes u → Bytes v
    → (read (s ++ u)).ending ≡ sound → (read (s ++ v)).ending ≡ sound
    → map f (read (s ++ u)).readings ≡ ks ++ ys → map f (read (s ++ v)).readings ≡ ks ++ zs
    → (xs : List B) → Certain read f s xs → Prefix xs ks
parted read f s u v ks ys zs d bu bv su sv eu ev xs h =
    in-common xs ks ys zs d (subst (Prefix xs) eu (h u bu su)) (subst (Prefix xs) ev (h v bv sv))

-- ---- nothing longer

-- two values that are written as bytes
pub record Two {A : Type 0} (E : Element A) : Type 0 where
  pub one : A
  pub other : A
  pub differ : some one ≡ some other → ⊥
  pub fits_one : E.fits one ≡ true
  pub fits-other : E.fits other ≡ true
  pub bytes_one : Bytes (E.write one)
  pub bytes-other : Bytes (E.write other)

module _ {A : Type 0} (s : List ℕ) (read : List ℕ → Trace (Reading A)) (c : ℕ) (a : A) (w : List ℕ) (m : Mends s read c a w) where
  pub mends-sound : (read (s ++ m.u)).ending ≡ sound
  mends-sound = ap (λ (t : Trace (Reading A)). t.ending) m.reads

  pub mends-list : map value (read (s ++ m.u)).readings ≡ map value (read s).readings ++ replicate c (some a)
  mends-list =
      ap (λ (t : Trace (Reading A)). map value t.readings) m.reads
      ∙ map-append value (read s).readings m.more
      ∙ ap (λ (l : List (Option A)). map value (read s).readings ++ l) m.same

-- THE LAW of a run-length column
module _ {A : Type 0} (E : Element A) (L : ElementLaws E) (stays : Staying E.read)
    (due : (s : List ℕ) (p place : ℕ) → E.read s p ≡ bad 21 place → length s ≤ p) (t : Two E) where
  a-column : (s : List ℕ) (place : ℕ) → (trace E s).ending ≡ fault 21 place → (u : List ℕ) × Bytes u × ((trace E (s ++ u)).ending ≡ sound)
  a-column s place e =
      let k = mended E L stays due s place e in
      let m = k.2 t.one t.fits_one in
      (m.u, m.bytes t.bytes_one, mends-sound s (trace E) k.0 t.one (E.write t.one) m)

  none-longer : (s : List ℕ) (place : ℕ) → (trace E s).ending ≡ fault 21 place
      → (xs : List (Option A)) → Certain (trace E) value s xs → Prefix xs (map value (trace E s).readings)
  none-longer s place e =
      let k = mended E L stays due s place e in
      let c : ℕ = k.0 in
      let m = k.2 t.one t.fits_one in
      let n = k.2 t.other t.fits-other in
      parted (trace E) value s m.u n.u (map value (trace E s).readings) (replicate c (some t.one)) (replicate c (some t.other))
      (apart-copies c (some t.one) (some t.other) t.differ) (m.bytes t.bytes_one) (n.bytes t.bytes-other)
      (mends-sound s (trace E) c t.one (E.write t.one) m) (mends-sound s (trace E) c t.other (E.write t.other) n)
      (mends-list s (trace E) c t.one (E.write t.one) m) (mends-list s (trace E) c t.other (E.write t.other) n)

  pub column-open : Open (trace E) value
  column-open = record { mended = a-column; longest = none-longer }

-- ---- of integers, and of names

integers : Two u64_e
unfolding encoded
integers =
    record {
      one = 0;
      other = 1;
      differ = λ e. let z : ◌≡◌ {A = ℕ} 0 1 = cc in omega arith;
      fits_one = refl;
      fits-other = refl;
      bytes_one = small 0 (omega arith);
      bytes-other = small 1 (omega arith);
    }
  where
    small : (b : ℕ) → b < 256 → Bytes (b ∷ [])
    small b l zero = l
    small b l (suc i) = omega arith

pub integer-open : Open (trace u64_e) value
integer-open = column-open u64_e u64-laws u64-stays u64-due integers

names : Two text_e
unfolding encoded text_bytes is_text is_utf8 goes_on follow
names =
    record {
      one = [];
      other = 0x61 ∷ [];
      differ = λ e. let z : ◌≡◌ {A = List ℕ} [] (0x61 ∷ []) = cc in let y : ◌≡◌ {A = ℕ} 0 1 = ap length z in omega arith;
      fits_one = refl;
      fits-other = refl;
      bytes_one = empty;
      bytes-other = letter;
    }
  where
    empty : Bytes (0 ∷ [])
    empty zero = omega arith
    empty (suc i) = omega arith

    letter : Bytes (1 ∷ 0x61 ∷ [])
    letter zero = omega arith
    letter (suc zero) = omega arith
    letter (suc (suc i)) = omega arith

pub name-open : Open (trace text_e) value
name-open = column-open text_e text-laws text-stays text-due names
