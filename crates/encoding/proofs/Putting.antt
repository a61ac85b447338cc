-- The bytes of a given list as the writers' loops go through them: stretch by stretch, value by value, one part put behind another; and one law
-- for each way out of encoding a list. Assumes nothing.
use Prim.Native.Nat.{ℕ, zero, suc, ◌+◌, ◌-◌, ◌*◌, ◌≤◌, ◌<◌}
use mathlib.Core.Path.{◌≡◌, refl, sym, ◌∙◌, ap, subst}
use mathlib.Core.List.{List, [], ◌∷◌, ◌++◌}
use mathlib.Core.Option.{Option, none, some}
use mathlib.Core.Bool.{Bool, true, false, cond}
use native.Mathlib.Omega.{arith}
use native.Mathlib.Numerals.{add-one}
use lib.ListN.{length, get_or, drop, length-append}
use lib.Seq.{sets, slice, slice-cons, slice_empty, length-slice, sets-eq}
use lib.IntN.{pos, negsuc}
use lib.Dec.{eqb, leb}
use borrow.Author.Tests.{le-leb, lt-leb, eqb-true, leb-true}
use Rattle.leb128.specs.Answer.{Answer, done, refused, within, left}
use Rattle.leb128.specs.Write.{u64_bytes, i64_bytes}
use Rattle.encoding.specs.Limit.{limit}
use Rattle.encoding.specs.Element.{Element}
use Rattle.encoding.specs.Stretches.{stretches}
use Rattle.encoding.specs.Writer.{all_bytes, stretch_bytes, stretches_bytes, any_present, column_bytes}
use Rattle.encoding.specs.Given.{slot_list, bad_flag, flags_judged, list_judged, sized, Encoded}
use Rattle.encoding.specs.Ahead.{from, bytes_from, end_of, stretch_of, StretchAt, PutAt}
use Rattle.encoding.specs.Flags.{any_flag, minus}
use Rattle.encoding.specs.declared.StretchEnd.{StretchEnd}
use Rattle.encoding.specs.declared.StretchEnd.TheVariants as stretch
use Rattle.encoding.proofs.Lists.{sets-append}
use Rattle.encoding.proofs.Elements.{ElementLaws}
use Rattle.encoding.proofs.Looking.{slot-past}
use Rattle.encoding.proofs.Sizes.{eleven}

-- a value is present in the list where a presence byte is not 0
pub any-list : {B : Type 0} (v : List B) (p : List ℕ) → length p ≡ length v → any_present (slot_list v p) ≡ any_flag p
unfolding any_present slot_list any_flag
any-list [] [] e = refl
any-list [] (b ∷ p) e = absurd (omega arith)
any-list (x ∷ v) [] e = absurd (omega arith)
any-list (x ∷ v) (b ∷ p) e = go (eqb b 0) (any-list v p (omega arith))
  where
    go : (t : Bool) → any_present (slot_list v p) ≡ any_flag p → any_present (cond t none (some x) ∷ slot_list v p) ≡ cond t (any_flag p) true
    go true h = h
    go false h = refl

slot-length : {B : Type 0} (v : List B) (p : List ℕ) → length p ≡ length v → length (slot_list v p) ≡ length v
unfolding slot_list
slot-length [] p e = refl
slot-length (x ∷ v) [] e = absurd (omega arith)
slot-length (x ∷ v) (b ∷ p) e = ap suc (slot-length v p (omega arith))

-- the count of a literal run that has a value
pub minus-some : (n : ℕ) → 0 < n → negsuc (n - 1) ≡ minus n
unfolding minus
minus-some zero h = absurd (omega arith)
minus-some (suc n) h = let e : suc n - 1 ≡ n = omega arith in ap negsuc e

-- ---- values of a literal run, one by one

module _ {A : Type 0} (E : Element A) (d : A) where
  pub literal-bytes : (i k : ℕ) (v : List A) → i < k → k ≤ length v → all_bytes E (slice i k v) ≡ E.write (get_or v i d) ++ all_bytes E (slice (i + 1) k v)
  unfolding all_bytes
  literal-bytes i k v l h = ap (all_bytes E) (slice-cons i k v d l h) ∙ ap (λ (j : ℕ). E.write (get_or v i d) ++ all_bytes E (slice j k v)) (sym (add-one i))

  pub literal-over : (i k : ℕ) (v : List A) → i ≡ k → all_bytes E (slice i k v) ≡ []
  unfolding all_bytes
  literal-over i k v e = ap (λ (j : ℕ). all_bytes E (slice j k v)) e ∙ ap (all_bytes E) (slice_empty k v)

  pub literal-length : (i k : ℕ) (v : List A) → i < k → k ≤ length v
      → length (all_bytes E (slice i k v)) ≡ length (E.write (get_or v i d)) + length (all_bytes E (slice (i + 1) k v))
  literal-length i k v l h = ap length (literal-bytes i k v l h) ∙ length-append (E.write (get_or v i d)) (all_bytes E (slice (i + 1) k v))

  -- a stretch's run in its two parts: its count, and what the count announces
  module _ (v : List A) (i k : ℕ) (x : StretchEnd) where
    pub absent-bytes : x ≡ stretch.Absent k → i64_bytes (pos 0) ++ u64_bytes (k - i) ≡ stretch_bytes E (stretch_of d v i x)
    unfolding stretch_bytes
    absent-bytes e = sym (ap (λ (y : StretchEnd). stretch_bytes E (stretch_of d v i y)) e)

    pub repeat-bytes : x ≡ stretch.Repeat k → i64_bytes (pos (k - i)) ++ E.write (get_or v i d) ≡ stretch_bytes E (stretch_of d v i x)
    unfolding stretch_bytes
    repeat-bytes e = sym (ap (λ (y : StretchEnd). stretch_bytes E (stretch_of d v i y)) e)

    pub literals-bytes : x ≡ stretch.Literal k → i < end_of x → end_of x ≤ length v
        → i64_bytes (negsuc (k - i - 1)) ++ all_bytes E (slice i k v) ≡ stretch_bytes E (stretch_of d v i x)
    unfolding stretch_bytes all_bytes
    literals-bytes e l h =
        let z = ap end_of e in
        let n : length (slice (i + 1) k v) ≡ k - i - 1 = omega (arith, length-slice (i + 1) k v (omega arith)) in
        sym
        (ap (λ (y : StretchEnd). stretch_bytes E (stretch_of d v i y)) e
        ∙ ap (λ (m : ℕ). i64_bytes (negsuc m) ++ (E.write (get_or v i d) ++ all_bytes E (slice (i + 1) k v))) n
        ∙ ap (λ (b : List ℕ). i64_bytes (negsuc (k - i - 1)) ++ b) (sym (literal-bytes i k v (omega arith) (omega arith))))

-- room for two parts is room for each
pub both-fit : (w₁ w₂ w : List ℕ) (at n : ℕ) → w₁ ++ w₂ ≡ w → at + length w ≤ n → (at + length w₁ ≤ n) × (at + length w₁ + length w₂ ≤ n)
both-fit w₁ w₂ w at n e h = let z = ap length e in (omega (arith, length-append w₁ w₂), omega (arith, length-append w₁ w₂))

-- ---- the loops over stretches

module _ {A : Type 0} (E : Element A) (d : A) (v : List A) (p : List ℕ) where
  pub bytes_cut : (i : ℕ) (x : StretchEnd) → StretchAt E.same d v p i x → bytes_from E v p i ≡ stretch_bytes E (stretch_of d v i x) ++ bytes_from E v p (end_of x)
  unfolding bytes_from stretches_bytes
  bytes_cut i x h = ap (stretches_bytes E) h.cuts

  pub bytes-length : (i : ℕ) (x : StretchEnd) → StretchAt E.same d v p i x
      → length (bytes_from E v p i) ≡ length (stretch_bytes E (stretch_of d v i x)) + length (bytes_from E v p (end_of x))
  bytes-length i x h = ap length (bytes_cut i x h) ∙ length-append (stretch_bytes E (stretch_of d v i x)) (bytes_from E v p (end_of x))

  pub bytes-end : (i : ℕ) → length v ≤ i → bytes_from E v p i ≡ []
  unfolding bytes_from stretches_bytes from stretches
  bytes-end i l = ap (λ (xs : List (Option A)). stretches_bytes E (stretches E.same xs)) (slot-past v p i l)

  -- the column's bytes where a value is present, and where none is
  pub bytes-all : any_present (slot_list v p) ≡ true → column_bytes E (slot_list v p) ≡ bytes_from E v p 0
  unfolding column_bytes bytes_from from
  bytes-all e = rw e

  pub bytes-none : any_present (slot_list v p) ≡ false → column_bytes E (slot_list v p) ≡ []
  unfolding column_bytes
  bytes-none e = rw e

pub bytes-short : {A : Type 0} (E : Element A) (L : ElementLaws E) (short : (a : A) → length (E.write a) ≤ 10) (v : List A) (p : List ℕ)
    → length p ≡ length v → length (bytes_from E v p 0) ≤ 11 * length v
unfolding bytes_from from
bytes-short E L short v p e = omega (arith, eleven E L short (slot_list v p), slot-length v p e)

-- ---- bytes put one part after another

put_next : (out out' : List ℕ) (at at' : ℕ) (b w r : List ℕ) → b ≡ w ++ r → at' ≡ at + length w → out' ≡ sets out at w → sets out at b ≡ sets out' at' r
put_next out out' at at' b w r e f g =
    ap (λ (x : List ℕ). sets out at x) e ∙ sets-append out at w r
    ∙ ap (λ (k : ℕ). sets (sets out at w) k r) (sym f) ∙ ap (λ (o : List ℕ). sets o at' r) (sym g)

pub put-done : (out : List ℕ) (at : ℕ) (b : List ℕ) → b ≡ [] → sets out at b ≡ out
put-done out at b e = ap (λ (x : List ℕ). sets out at x) e

pub put_two : {out mid out' : List ℕ} {at q r : ℕ} {w₁ w₂ : List ℕ} → PutAt out mid at q w₁ → PutAt mid out' q r w₂ → PutAt out out' at r (w₁ ++ w₂)
put_two {out = out} {mid = mid} {out' = out'} {at = at} {q = q} {r = r} {w₁ = w₁} {w₂ = w₂} a b =
    record {
      after = omega (arith, a.after, b.after, length-append w₁ w₂);
      bytes = b.bytes ∙ sym (put_next out mid at q (w₁ ++ w₂) w₁ w₂ refl a.after a.bytes);
    }

pub put_as : {out out' : List ℕ} {at r : ℕ} {w w' : List ℕ} → w ≡ w' → PutAt out out' at r w → PutAt out out' at r w'
put_as {out = out} {out' = out'} {at = at} {r = r} e a = subst (PutAt out out' at r) e a

pub put-part : {out out' : List ℕ} {at r : ℕ} {w : List ℕ} (b t : List ℕ) → b ≡ w ++ t → PutAt out out' at r w → sets out at b ≡ sets out' r t
put-part {out = out} {out' = out'} {at = at} {r = r} {w = w} b t e a = put_next out out' at r b w t e a.after a.bytes

-- ---- the answers of encoding: one law for each way out

-- a list that is judged good has as many bytes as values, and is within the limit
pub judged-good : (n m : ℕ) (p : List ℕ) → list_judged n p ≡ done m → (length p ≡ n) × (n ≤ limit)
unfolding list_judged flags_judged
judged-good n m p e = go (eqb n (length p)) refl e
  where
    size : (t : Bool) → leb n limit ≡ t → length p ≡ n → cond t (done n) (refused 5 0) ≡ done m → (length p ≡ n) × (n ≤ limit)
    size true h k z = (k, leb-true n limit h)
    size false h k z = let y : ◌≡◌ {A = ℕ} 0 1 = cc in absurd (omega arith)

    flags : (b : Option ℕ) → length p ≡ n → flags_judged n b ≡ done m → (length p ≡ n) × (n ≤ limit)
    flags none k z = size (leb n limit) refl k z
    flags (some i) k z = let y : ◌≡◌ {A = ℕ} 0 1 = cc in absurd (omega arith)

    go : (t : Bool) → eqb n (length p) ≡ t → cond t (flags_judged n (bad_flag 0 p)) (refused 8 0) ≡ done m → (length p ≡ n) × (n ≤ limit)
    go true h z = flags (bad_flag 0 p) (sym (eqb-true n (length p) h)) z
    go false h z = let y : ◌≡◌ {A = ℕ} 0 1 = cc in absurd (omega arith)

module _ (bytes : List ℕ) (judged : Answer) where
  pub sized-refused : (number place : ℕ) → judged ≡ refused number place → refused number place ≡ sized bytes judged
  unfolding sized
  sized-refused number place e = sym (ap (sized bytes) e)

  pub sized-done : (m n : ℕ) → judged ≡ done m → n ≡ length bytes → done n ≡ sized bytes judged
  unfolding sized
  sized-done m n e k = ap done k ∙ sym (ap (sized bytes) e)

  -- a size that is answered is the length of the bytes, of a list that was judged good
  pub sized-is : (n : ℕ) → sized bytes judged ≡ done n → (n ≡ length bytes) × ((m : ℕ) × (judged ≡ done m))
  unfolding sized
  sized-is n e = go judged refl e
    where
      go : (o : Answer) → judged ≡ o → sized bytes o ≡ done n → (n ≡ length bytes) × ((m : ℕ) × (judged ≡ done m))
      go (done m) h k = (cc, (m, h))
      go (refused number place) h k = let z : ◌≡◌ {A = ℕ} 0 1 = cc in absurd (omega arith)

  module _ (out : List ℕ) where
    pub encode-refused : (number place : ℕ) → sized bytes judged ≡ refused number place → Encoded bytes judged out out (refused number place)
    unfolding within left
    encode-refused number place e = record { answer = simp e; output = refl }

    pub encode-short : (n : ℕ) → sized bytes judged ≡ done n → length out < n → Encoded bytes judged out out (refused 10 0)
    unfolding within left
    encode-short n e l = record { answer = simp (e, lt-leb n (length out) l); output = refl }

    pub encode-done : (out' : List ℕ) (n : ℕ) → sized bytes judged ≡ done n → n ≤ length out → out' ≡ sets out 0 bytes → Encoded bytes judged out out' (done n)
    unfolding within left
    encode-done out' n e l w =
        let k = (sized-is n e).0 in
        let z : 0 + length bytes ≡ n = omega arith in
        record {
          answer = simp (e, le-leb n (length out) l);
          output = w ∙ sets-eq bytes out 0 (omega arith) ∙ ap (λ (j : ℕ). bytes ++ drop j out) z;
        }
