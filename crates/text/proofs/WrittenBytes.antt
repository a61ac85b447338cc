-- What the writer of names writes is bytes: numbers and UTF-8 are below 256. Assumes nothing.
use Prim.Native.Nat.{ℕ, zero, suc, ◌+◌, ◌/◌, ◌%◌, ◌^◌, ◌≤◌, ◌<◌}
use mathlib.Core.Path.{◌≡◌, refl}
use mathlib.Core.List.{List, [], ◌∷◌, ◌++◌}
use mathlib.Core.Option.{Option, none, some}
use mathlib.Core.Bool.{Bool, true, false, ◌&&◌}
use native.Mathlib.Omega.{arith}
use lib.Dec.{ltb}
use lib.IntN.{ℤ, pos, negsuc}
use lib.ListN.{length, get_or}
use borrow.Author.Tests.{ltb-true}
use Rattle.leb128.specs.Write.{group, encoded_from, encoded, u64_bytes, i64_bytes}
use Rattle.encoding.specs.Element.{Element}
use Rattle.encoding.specs.Stretches.{Stretch, literal_of, join_none, join_some, stretches}
use Rattle.encoding.specs.Writer.{all_bytes, stretch_bytes, stretches_bytes, any_present, column_bytes}
use Rattle.encoding.proofs.Back.{ListFits}
use Rattle.encoding.proofs.Lists.{cond-by}
use Rattle.utf8.specs.Utf8.{Range, range, among, follow, begun, goes_on, is_utf8}
use Rattle.utf8.proofs.Table.{among-yes}
use Rattle.text.specs.Text.{text_bytes, is_text, text_e}

abbrev Bytes : List ℕ → Type 0
Bytes s = (i : ℕ) → get_or s i 0 < 256

bytes_one : (b : ℕ) (s : List ℕ) → b < 256 → Bytes s → (i : ℕ) → get_or (b ∷ s) i 0 < 256
bytes_one b s h k zero = h
bytes_one b s h k (suc i) = k i

bytes-append : (s t : List ℕ) → Bytes s → Bytes t → (i : ℕ) → get_or (s ++ t) i 0 < 256
bytes-append [] t h k i = k i
bytes-append (b ∷ s) t h k zero = h 0
bytes-append (b ∷ s) t h k (suc i) = bytes-append s t (λ j. h (suc j)) k i

-- ---- numbers

group-low : (neg : Bool) (d : ℕ) → d < 128 → group neg d < 128
group-low true d h = omega arith
group-low false d h = h

encoded-bytes : (f limit : ℕ) (neg : Bool) (v : ℕ) → limit ≤ 128 → Bytes (encoded_from f limit neg v)
encoded-bytes zero limit neg v h = λ i. omega arith
encoded-bytes (suc f) limit neg v h =
    cond-by Bytes (ltb v limit)
    (λ e. bytes_one (group neg v) [] (let k = ltb-true v limit e in omega (arith, group-low neg v (omega arith))) (λ i. omega arith))
    (λ e. bytes_one (128 + group neg (v % 128)) (encoded_from f limit neg (v / 128)) (omega (arith, group-low neg (v % 128) (omega arith)))
    (encoded-bytes f limit neg (v / 128) h))

u64-bytes : (n : ℕ) → Bytes (u64_bytes n)
unfolding encoded
u64-bytes n = encoded-bytes 10 128 false n (omega arith)

i64-bytes : (x : ℤ) → Bytes (i64_bytes x)
unfolding encoded
i64-bytes (pos n) = encoded-bytes 10 64 false n (omega arith)
i64-bytes (negsuc n) = encoded-bytes 10 64 true n (omega arith)

-- ---- names

abbrev Low : List Range → Type 0
Low [] = Unit {0}
Low (range low high ∷ due) = (high < 256) × Low due

-- a byte that begins a character, and what is due behind it
abbrev Begins : ℕ → Option (List Range) → Type 0
Begins b none = Unit {0}
Begins b (some due) = (b < 256) × Low due

begins : (b : ℕ) → Begins b (follow b)
unfolding follow
begins b =
    cond-by (Begins b) (among (range 0x00 0x7f) b) (λ e. let k = among-yes 0x00 0x7f b e in (omega arith, tt))
    (λ e. cond-by (Begins b) (among (range 0xc2 0xdf) b) (λ e. let k = among-yes 0xc2 0xdf b e in (omega arith, omega arith))
    (λ e. cond-by (Begins b) (among (range 0xe0 0xe0) b) (λ e. let k = among-yes 0xe0 0xe0 b e in (omega arith, omega arith))
    (λ e. cond-by (Begins b) (among (range 0xe1 0xec) b) (λ e. let k = among-yes 0xe1 0xec b e in (omega arith, omega arith))
    (λ e. cond-by (Begins b) (among (range 0xed 0xed) b) (λ e. let k = among-yes 0xed 0xed b e in (omega arith, omega arith))
    (λ e. cond-by (Begins b) (among (range 0xee 0xef) b) (λ e. let k = among-yes 0xee 0xef b e in (omega arith, omega arith))
    (λ e. cond-by (Begins b) (among (range 0xf0 0xf0) b) (λ e. let k = among-yes 0xf0 0xf0 b e in (omega arith, omega arith))
    (λ e. cond-by (Begins b) (among (range 0xf1 0xf3) b) (λ e. let k = among-yes 0xf1 0xf3 b e in (omega arith, omega arith))
    (λ e. cond-by (Begins b) (among (range 0xf4 0xf4) b) (λ e. let k = among-yes 0xf4 0xf4 b e in (omega arith, omega arith))
    (λ e. tt)))))))))

goes-bytes : (due : List Range) (s : List ℕ) → Low due → goes_on due s ≡ true → Bytes s
unfolding goes_on
goes-bytes [] [] d h = λ i. omega arith
goes-bytes [] (b ∷ s) d h = go (follow b) (begins b) (λ due k e. goes-bytes due s k e) h
  where
    go : (f : Option (List Range)) → Begins b f → ((due : List Range) → Low due → goes_on due s ≡ true → Bytes s)
        → begun f (λ due. goes_on due s) ≡ true → Bytes (b ∷ s)
    go none k ih e = let z : false ≡ true = e in let y : ◌≡◌ {A = ℕ} 0 1 = cc in absurd (omega arith)
    go (some due) k ih e = bytes_one b s k.0 (ih due k.1 e)
goes-bytes (range low high ∷ due) [] d h = λ i. omega arith
goes-bytes (range low high ∷ due) (b ∷ s) d h = go (among (range low high) b) refl (λ e. goes-bytes due s d.1 e) h
  where
    go : (t : Bool) → among (range low high) b ≡ t → (goes_on due s ≡ true → Bytes s) → t && goes_on due s ≡ true → Bytes (b ∷ s)
    go true e ih k = let j = among-yes low high b e in bytes_one b s (omega arith) (ih k)
    go false e ih k = let z : false ≡ true = k in let y : ◌≡◌ {A = ℕ} 0 1 = cc in absurd (omega arith)

utf8-bytes : (v : List ℕ) → is_utf8 v ≡ true → Bytes v
unfolding is_utf8
utf8-bytes v h = goes-bytes [] v tt h

text-bytes : (v : List ℕ) → is_text v ≡ true → Bytes (text_bytes v)
unfolding is_text text_bytes
text-bytes v h = go (is_utf8 v) refl h
  where
    go : (t : Bool) → is_utf8 v ≡ t → t && ltb (length v) (2 ^ 64) ≡ true → Bytes (u64_bytes (length v) ++ v)
    go true e k = bytes-append (u64_bytes (length v)) v (u64-bytes (length v)) (utf8-bytes v e)
    go false e k = let z : false ≡ true = k in let y : ◌≡◌ {A = ℕ} 0 1 = cc in absurd (omega arith)

-- ---- columns, over any element that writes bytes

module _ {A : Type 0} (E : Element A) where
  -- the values of each stretch are written in bytes
  abbrev AllIn : List A → Type 0
  AllIn [] = Unit {0}
  AllIn (a ∷ l) = Bytes (E.write a) × AllIn l

  abbrev In : Stretch A → Type 0
  In (Stretch.absent n) = Unit {0}
  In (Stretch.repeat n a) = Bytes (E.write a)
  In (Stretch.literal a more) = Bytes (E.write a) × AllIn more

  abbrev InAll : List (Stretch A) → Type 0
  InAll [] = Unit {0}
  InAll (x ∷ r) = In x × InAll r

  join-none : (r : List (Stretch A)) → InAll r → InAll (join_none r)
  unfolding join_none
  join-none [] h = (tt, tt)
  join-none (Stretch.absent n ∷ r) h = h
  join-none (Stretch.repeat n b ∷ r) h = (tt, h)
  join-none (Stretch.literal b bs ∷ r) h = (tt, h)

  literal-of : (l : List A) (r : List (Stretch A)) → AllIn l → InAll r → InAll (literal_of l r)
  unfolding literal_of
  literal-of [] r h k = k
  literal-of (b ∷ l) r h k = (h, k)

  join-some : (a : A) (r : List (Stretch A)) → Bytes (E.write a) → InAll r → InAll (join_some E.same a r)
  unfolding join_some
  join-some a [] h k = ((h, tt), tt)
  join-some a (Stretch.absent n ∷ r) h k = ((h, tt), k)
  join-some a (Stretch.repeat n b ∷ r) h k = cond-by InAll (E.same a b) (λ e. k) (λ e. ((h, tt), k))
  join-some a (Stretch.literal b bs ∷ r) h k =
      cond-by InAll (E.same a b) (λ e. (k.0.0, literal-of bs r k.0.1 k.1)) (λ e. ((h, k.0), k.1))

  all-bytes : (l : List A) → AllIn l → Bytes (all_bytes E l)
  unfolding all_bytes
  all-bytes [] h = λ i. omega arith
  all-bytes (a ∷ l) h = bytes-append (E.write a) (all_bytes E l) h.0 (all-bytes l h.1)

  stretch-bytes : (x : Stretch A) → In x → Bytes (stretch_bytes E x)
  unfolding stretch_bytes
  stretch-bytes (Stretch.absent n) h = bytes-append (i64_bytes (pos 0)) (u64_bytes n) (i64-bytes (pos 0)) (u64-bytes n)
  stretch-bytes (Stretch.repeat n a) h = bytes-append (i64_bytes (pos n)) (E.write a) (i64-bytes (pos n)) h
  stretch-bytes (Stretch.literal a more) h =
      bytes-append (i64_bytes (negsuc (length more))) (all_bytes E (a ∷ more)) (i64-bytes (negsuc (length more))) (all-bytes (a ∷ more) h)

  stretches-bytes : (r : List (Stretch A)) → InAll r → Bytes (stretches_bytes E r)
  unfolding stretches_bytes
  stretches-bytes [] h = λ i. omega arith
  stretches-bytes (x ∷ r) h = bytes-append (stretch_bytes E x) (stretches_bytes E r) (stretch-bytes x h.0) (stretches-bytes r h.1)

  module _ (writes : (a : A) → E.fits a ≡ true → Bytes (E.write a)) where
    in_all : (xs : List (Option A)) → ListFits E xs → InAll (stretches E.same xs)
    unfolding stretches
    in_all [] h = tt
    in_all (none ∷ xs) h = join-none (stretches E.same xs) (in_all xs h)
    in_all (some a ∷ xs) h = join-some a (stretches E.same xs) (writes a h.0) (in_all xs h.1)

    column-bytes : (xs : List (Option A)) → ListFits E xs → Bytes (column_bytes E xs)
    unfolding column_bytes
    column-bytes xs h =
        cond-by Bytes (any_present xs) (λ e. stretches-bytes (stretches E.same xs) (in_all xs h)) (λ e i. omega arith)

pub names-bytes : (xs : List (Option (List ℕ))) → ListFits text_e xs → (i : ℕ) → get_or (column_bytes text_e xs) i 0 < 256
names-bytes xs h = column-bytes text_e text-bytes xs h
