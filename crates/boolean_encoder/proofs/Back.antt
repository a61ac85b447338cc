-- THE ROUND TRIP: what the writer writes reads soundly as the list that was written. The all-false form writes nothing when no value is true,
-- and nothing reads as the empty list. n booleans take at most n + 1 bytes. Assumes nothing.
use Prim.Native.Nat.{ℕ, suc, ◌+◌, ◌-◌, ◌^◌, ◌≤◌, ◌<◌}
use mathlib.Core.Path.{◌≡◌, refl, sym, ◌∙◌, ap}
use mathlib.Core.List.{List, [], ◌∷◌, ◌++◌, append-nil}
use mathlib.Core.Bool.{Bool, true, false, cond}
use native.Mathlib.Decide.{dec_lt}
use native.Mathlib.Nat.{zero-add}
use native.Mathlib.Omega.{arith}
use lib.Dec.{eqb}
use lib.ListN.{length, replicate, length-append, length-replicate}
use borrow.Author.Tests.{eqb-true, eqb-false}
use Rattle.leb128.specs.Got.{got}
use Rattle.leb128.specs.Read.{u64_at}
use Rattle.leb128.specs.Write.{u64_bytes}
use Rattle.leb128.proofs.Encoded.{encoded-last}
use Rattle.leb128.proofs.Laws.{u64-back, u64-short}
use Rattle.encoding.specs.Flags.{any_flag}
use Rattle.encoding.specs.Limit.{limit}
use Rattle.encoding.specs.Walk.{over, on, Trace, sound, walk, before, after}
use Rattle.encoding.proofs.Elements.{Stands, stands-left, stands-right, stands-within, stands_read}
use Rattle.encoding.proofs.Lists.{cond-by}
use Rattle.encoding.proofs.Walking.{rest, rest-is, next-eq, readings-eq}
use Rattle.boolean_encoder.specs.Ahead.{Flags}
use Rattle.boolean_decoder.specs.Turns.{turn, turn_at, turns_from, bool_trace}
use Rattle.boolean_encoder.specs.Writer.{add_one, counts, counts_bytes, bool_bytes, maybe_bytes}
use Rattle.boolean_encoder.proofs.Counting.{flags-tail}
use Rattle.boolean_decoder.proofs.Turning.{turns, trace-rest, counted-whole, turn-read, turn_end}

-- ---- the list that counts stand for, the first of them of the byte `flag`

unfoldable spread : ℕ → List ℕ → List ℕ
spread flag [] = []
spread flag (n ∷ ns) = replicate n flag ++ spread (1 - flag) ns

spread-add : (flag : ℕ) (ns : List ℕ) → spread flag (add_one ns) ≡ flag ∷ spread flag ns
unfolding spread add_one
spread-add flag [] = refl
spread-add flag (n ∷ ns) = refl

-- the counts of a list stand for that list
spread-counts : (flag : ℕ) (xs : List ℕ) → flag ≤ 1 → Flags xs → spread flag (counts flag xs) ≡ xs
unfolding spread counts
spread-counts flag [] f h = refl
spread-counts flag (b ∷ xs) f h =
    let t = flags-tail b xs h in
    go (eqb b flag) refl (spread-counts flag xs f t) (spread-counts (1 - flag) xs (omega arith) t)
  where
    go : (t : Bool) → eqb b flag ≡ t → spread flag (counts flag xs) ≡ xs → spread (1 - flag) (counts (1 - flag) xs) ≡ xs
        → spread flag (cond t (add_one (counts flag xs)) (0 ∷ add_one (counts (1 - flag) xs))) ≡ b ∷ xs
    go true e r q = spread-add flag (counts flag xs) ∙ ap (λ (l : List ℕ). flag ∷ l) r ∙ ap (λ (a : ℕ). a ∷ xs) (sym (eqb-true b flag e))
    go false e r q =
        let n : b ≡ flag → ⊥ = eqb-false b flag e in
        let k : 1 - flag ≡ b = omega (arith, h 0 (omega arith)) in
        spread-add (1 - flag) (counts (1 - flag) xs) ∙ ap (λ (l : List ℕ). (1 - flag) ∷ l) q ∙ ap (λ (a : ℕ). a ∷ xs) k

-- ---- counts that fill the rest of the bytes read as their list

u64-stands : (s : List ℕ) (p n : ℕ) → n < 2 ^ 64 → Stands s p (u64_bytes n) → u64_at s p ≡ got n (p + length (u64_bytes n))
u64-stands s p n l h = stands_read u64_at (got n) (u64_bytes n) (λ pre post. u64-back pre post n l) s p h

module _ (s : List ℕ) where
  rest_back : (p n flag : ℕ) (ns : List ℕ) → n + length (spread flag ns) ≤ limit → Stands s p (counts_bytes ns) → p + length (counts_bytes ns) ≡ length s
      → rest (turns s) (turn p n flag) ≡ record { readings = spread flag ns; ending = sound }
  unfolding spread counts_bytes
  rest_back p n flag [] m h e =
      let t = turn_end s (turn p n flag) (omega arith) in
      rest-is (turns s) (turn p n flag) over (next-eq t) ∙ ap (λ (xs : List ℕ). before xs (after over (rest (turns s)))) (readings-eq t)
  rest_back p n flag (c ∷ ns) m h e =
      let w = u64_bytes c in
      let q : ℕ = p + length w in
      let l = length-append (replicate c flag) (spread (1 - flag) ns) in
      let k = length-replicate c flag in
      let first = stands-left s p w (counts_bytes ns) h in
      let here : p < length s = omega (arith, stands-within s p w first, u64-short c) in
      let read = turn-read s (turn p n flag) (got c q) here (u64-stands s p c (omega arith) first) in
      let t = read ∙ counted-whole (turn p n flag) c q (omega arith) in
      let ih = rest_back q (n + c) (1 - flag) ns (omega arith) (stands-right s p w (counts_bytes ns) h) (omega (arith, length-append w (counts_bytes ns))) in
      rest-is (turns s) (turn p n flag) (on (turn q (n + c) (1 - flag))) (next-eq t)
      ∙ ap (λ (xs : List ℕ). before xs (rest (turns s) (turn q (n + c) (1 - flag)))) (readings-eq t)
      ∙ ap (before (replicate c flag)) ih

-- a list within the limit reads back soundly as itself
pub round_trip : (xs : List ℕ) → Flags xs → length xs ≤ limit → ((bool_trace (bool_bytes xs)).readings ≡ xs) × ((bool_trace (bool_bytes xs)).ending ≡ sound)
unfolding bool_bytes
round_trip xs h m =
    let s = counts_bytes (counts 0 xs) in
    let r = spread-counts 0 xs (omega arith) h in
    let all : Stands s 0 s = record { pre = []; post = []; split = sym (append-nil s); place = refl } in
    let t = trace-rest s ∙ rest_back s 0 0 0 (counts 0 xs) (omega (arith, ap length r)) all (zero-add (length s)) in
    (ap (λ (t : Trace ℕ). t.readings) t ∙ r, ap (λ (t : Trace ℕ). t.ending) t)

-- ---- the all-false form

-- a list with no value true writes nothing
pub all-false : (xs : List ℕ) → any_flag xs ≡ false → maybe_bytes xs ≡ []
unfolding maybe_bytes
all-false xs e = rw e

-- any other list writes the same bytes as the plain form
pub some-true : (xs : List ℕ) → any_flag xs ≡ true → maybe_bytes xs ≡ bool_bytes xs
unfolding maybe_bytes
some-true xs e = rw e

-- no bytes read soundly as the empty list
pub nothing-reads : bool_trace [] ≡ record { readings = []; ending = sound }
unfolding bool_trace turns_from turn_at walk
nothing-reads = refl

-- with no value true a list of so many zeros, which its length alone gives back
zeros-all : (xs : List ℕ) → any_flag xs ≡ false → xs ≡ replicate (length xs) 0
unfolding any_flag
zeros-all [] e = refl
zeros-all (b ∷ xs) e = go (eqb b 0) refl e (λ k. zeros-all xs k)
  where
    go : (t : Bool) → eqb b 0 ≡ t → cond t (any_flag xs) true ≡ false → (any_flag xs ≡ false → xs ≡ replicate (length xs) 0)
        → b ∷ xs ≡ 0 ∷ replicate (length xs) 0
    go true h k r = ap (λ (a : ℕ). a ∷ xs) (eqb-true b 0 h) ∙ ap (λ (l : List ℕ). 0 ∷ l) (r k)
    go false h k r = let z : ◌≡◌ {A = ℕ} 0 1 = cc in absurd (omega arith)

-- THE ALL-FALSE FORM: what it gives reads back soundly as the list, or is no bytes, and the list has no true in it
pub data MaybeBack (xs : List ℕ) : Type 0 where
  reads-back : (bool_trace (maybe_bytes xs)).readings ≡ xs → (bool_trace (maybe_bytes xs)).ending ≡ sound → MaybeBack xs
  no_bytes : maybe_bytes xs ≡ [] → xs ≡ replicate (length xs) 0 → MaybeBack xs

pub maybe_back : (xs : List ℕ) → Flags xs → length xs ≤ limit → MaybeBack xs
maybe_back xs h m = go (any_flag xs) refl
  where
    go : (t : Bool) → any_flag xs ≡ t → MaybeBack xs
    go true e =
        let r = rw (← some-true xs e) at (round_trip xs h m) in
        reads-back r.0 r.1
    go false e = no_bytes (all-false xs e) (zeros-all xs e)

-- ---- at most n + 1 bytes

-- no count but the first is 0
abbrev Some : List ℕ → Type 0
Some [] = Unit {0}
Some (n ∷ ns) = (0 < n) × Some ns

abbrev Later : List ℕ → Type 0
Later [] = Unit {0}
Later (n ∷ ns) = Some ns

later-add : (ns : List ℕ) → Later ns → Some (add_one ns) × Later (add_one ns)
unfolding add_one
later-add [] h = ((omega arith, tt), tt)
later-add (n ∷ ns) h = ((omega arith, h), h)

counts-later : (flag : ℕ) (xs : List ℕ) → Later (counts flag xs)
unfolding counts
counts-later flag [] = tt
counts-later flag (b ∷ xs) =
    cond-by Later (eqb b flag) (λ e. (later-add (counts flag xs) (counts-later flag xs)).1)
    (λ e. (later-add (counts (1 - flag) xs) (counts-later (1 - flag) xs)).0)

-- the counts add up to the list's length
abbrev sum : List ℕ → ℕ
sum [] = 0
sum (n ∷ ns) = n + sum ns

sum-add : (ns : List ℕ) → sum (add_one ns) ≡ suc (sum ns)
unfolding add_one
sum-add [] = refl
sum-add (n ∷ ns) = omega arith

sum-counts : (flag : ℕ) (xs : List ℕ) → sum (counts flag xs) ≡ length xs
unfolding counts
sum-counts flag [] = refl
sum-counts flag (b ∷ xs) =
    cond-by (λ (ns : List ℕ). sum ns ≡ suc (length xs)) (eqb b flag)
    (λ e. sum-add (counts flag xs) ∙ ap suc (sum-counts flag xs))
    (λ e. zero-add (sum (add_one (counts (1 - flag) xs))) ∙ sum-add (counts (1 - flag) xs) ∙ ap suc (sum-counts (1 - flag) xs))

-- a count takes at most as many bytes as it counts, and 0 takes one
count-short : (n : ℕ) → length (u64_bytes n) ≤ n + 1
count-short n = elim (dec_lt n 128) [ yes h ↦ omega (arith, ap length (encoded-last 128 false n h)) | no h ↦ omega (arith, u64-short n) ]

count-some : (n : ℕ) → 0 < n → length (u64_bytes n) ≤ n
count-some n l = elim (dec_lt n 128) [ yes h ↦ omega (arith, ap length (encoded-last 128 false n h)) | no h ↦ omega (arith, u64-short n) ]

some-short : (ns : List ℕ) → Some ns → length (counts_bytes ns) ≤ sum ns
unfolding counts_bytes
some-short [] h = omega arith
some-short (n ∷ ns) h = omega (arith, length-append (u64_bytes n) (counts_bytes ns), count-some n h.0, some-short ns h.1)

later-short : (ns : List ℕ) → Later ns → length (counts_bytes ns) ≤ sum ns + 1
unfolding counts_bytes
later-short [] h = omega arith
later-short (n ∷ ns) h = omega (arith, length-append (u64_bytes n) (counts_bytes ns), count-short n, some-short ns h)

pub one_more : (xs : List ℕ) → length (bool_bytes xs) ≤ length xs + 1
unfolding bool_bytes
one_more xs = omega (arith, later-short (counts 0 xs) (counts-later 0 xs), sum-counts 0 xs)
