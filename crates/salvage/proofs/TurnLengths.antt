-- How long a boolean column gets that is written again: at most 11 times as long as it was. A count in front of others adds to the first of them or is one
-- more, and with it there may come a 0. Assumes nothing.
use Prim.Native.Nat.{ℕ, zero, suc, ◌+◌, ◌*◌, ◌-◌, ◌≤◌}
use mathlib.Core.Path.{◌≡◌, refl, ap}
use mathlib.Core.List.{List, [], ◌∷◌, ◌++◌}
use mathlib.Core.Bool.{false}
use native.Mathlib.Omega.{arith}
use lib.Dec.{ltb, leb}
use lib.ListN.{length, replicate, length-append}
use borrow.Author.Tests.{eq-eqb, ne_eqb}
use Rattle.leb128.specs.Got.{Got, got, bad}
use Rattle.leb128.specs.Read.{u64_at}
use Rattle.leb128.specs.Write.{u64_bytes}
use Rattle.leb128.proofs.Encoded.{encoded-last}
use Rattle.leb128.proofs.Laws.{u64-next, u64-short}
use Rattle.encoding.specs.Limit.{limit}
use Rattle.encoding.specs.Walk.{Run, Trace, onward, walk}
use Rattle.encoding.proofs.Lists.{cond-by}
use Rattle.boolean_decoder.specs.Turns.{Turn, turn, counted, turn_at, turns_from, bool_trace}
use Rattle.boolean_encoder.specs.Writer.{add_one, counts, counts_bytes, bool_bytes}

-- ---- the bytes of counts

abbrev size : List ℕ → ℕ
size ns = length (counts_bytes ns)

none-size : size [] ≡ 0
unfolding counts_bytes
none-size = refl

count-size : (n : ℕ) (ns : List ℕ) → (1 + size ns ≤ size (n ∷ ns)) × (size (n ∷ ns) ≤ 10 + size ns)
unfolding counts_bytes
count-size n ns =
    let a = length-append (u64_bytes n) (counts_bytes ns) in
    (omega (arith, u64-short n), omega (arith, u64-short n))

zero-size : (ns : List ℕ) → size (0 ∷ ns) ≡ 1 + size ns
unfolding counts_bytes
zero-size ns = omega (arith, length-append (u64_bytes 0) (counts_bytes ns), ap length (encoded-last 128 false 0 (omega arith)))

-- ---- equal readings in front: they are counted by the first count, whatever it is

counts_same : (flag : ℕ) (xs : List ℕ) → counts flag (flag ∷ xs) ≡ add_one (counts flag xs)
unfolding counts
counts_same flag xs = rw (eq-eqb flag flag refl) refl

counts-other : (flag : ℕ) (xs : List ℕ) → flag ≤ 1 → counts (1 - flag) (flag ∷ xs) ≡ 0 ∷ add_one (counts flag xs)
unfolding counts
counts-other flag xs l =
    let n : flag ≡ 1 - flag → ⊥ = λ e. omega arith in
    let z : 1 - (1 - flag) ≡ flag = omega arith in
    rw (ne_eqb flag (1 - flag) n, z) refl

record Counted (k : ℕ) (ns : List ℕ) : Type 0 where
  count : ℕ
  behind : List ℕ
  is : ns ≡ count ∷ behind
  most : 10 + size behind ≤ k

counted-first : (ns : List ℕ) → Counted (10 + size ns) (add_one ns)
unfolding add_one
counted-first [] = record { count = 1; behind = []; is = refl; most = omega arith }
counted-first (n ∷ ns) = record { count = suc n; behind = ns; is = refl; most = omega (arith, count-size n ns) }

counted-more : (k : ℕ) (ns : List ℕ) → Counted k ns → Counted k (add_one ns)
unfolding add_one
counted-more k ns h = rw h.is (record { count = suc h.count; behind = h.behind; is = refl; most = h.most })

counted-run : (c flag : ℕ) (xs : List ℕ) → Counted (10 + size (counts flag xs)) (counts flag (replicate (suc c) flag ++ xs))
counted-run zero flag xs = rw (counts_same flag xs) (counted-first (counts flag xs))
counted-run (suc c) flag xs =
    rw (counts_same flag (replicate (suc c) flag ++ xs)) (counted-more _ (counts flag (replicate (suc c) flag ++ xs)) (counted-run c flag xs))

front-size : (c flag : ℕ) (xs : List ℕ) → size (counts flag (replicate c flag ++ xs)) ≤ 10 + size (counts flag xs)
front-size zero flag xs = omega arith
front-size (suc c) flag xs =
    let h = counted-run c flag xs in
    rw h.is (omega (arith, count-size h.count h.behind, h.most))

-- a list of which the first count is of a byte, in k bytes; and with one more, a 0, where it is of the other
record Within (flag k : ℕ) (xs : List ℕ) : Type 0 where
  straight : size (counts flag xs) ≤ k
  turned : size (counts (1 - flag) xs) ≤ 1 + k

none_within : (flag k : ℕ) → Within flag k []
unfolding counts
none_within flag k = record { straight = omega (arith, none-size); turned = omega (arith, none-size) }

run-within : (c flag k : ℕ) (xs : List ℕ) → flag ≤ 1 → Within (1 - flag) k xs → Within flag (11 + k) (replicate c flag ++ xs)
run-within c flag k xs l h =
    let z : 1 - (1 - flag) ≡ flag = omega arith in
    let t : size (counts flag xs) ≤ 1 + k = rw z at h.turned in
    let w : size (counts flag (replicate c flag ++ xs)) ≤ 11 + k = omega (arith, front-size c flag xs) in
    record { straight = w; turned = go c w }
  where
    go : (c : ℕ) → size (counts flag (replicate c flag ++ xs)) ≤ 11 + k → size (counts (1 - flag) (replicate c flag ++ xs)) ≤ 1 + (11 + k)
    go zero w = omega (arith, h.straight)
    go (suc c) w =
        let ys = replicate c flag ++ xs in
        let v : size (add_one (counts flag ys)) ≤ 11 + k = rw (counts_same flag ys) at w in
        rw (counts-other flag ys l) (omega (arith, zero-size (add_one (counts flag ys))))

within_more : (flag j k : ℕ) (xs : List ℕ) → j ≤ k → Within flag j xs → Within flag k xs
within_more flag j k xs l h = record { straight = omega (arith, h.straight); turned = omega (arith, h.turned) }

-- ---- a column, from a state on

module _ (s : List ℕ) where
  abbrev Left : Turn → List ℕ → Type 0
  Left st xs = Within st.flag (11 * (length s - st.at)) xs

  abbrev Onward : (Turn → Trace ℕ) → Type 0
  Onward k = (z : Turn) → z.flag ≤ 1 → Left z (k z).readings

  counted-left : (st : Turn) (g : Got ℕ) (k : Turn → Trace ℕ) → st.flag ≤ 1 → u64_at s st.at ≡ g → Onward k
      → Left st (onward (counted st g) k).readings
  unfolding counted
  counted-left st (got c next) k l e h =
      let n = u64-next s st.at c next e in
      let z : Turn = turn next (st.had + c) (1 - st.flag) in
      cond-by (λ (r : Run ℕ Turn). Left st (onward r k).readings) (leb (st.had + c) limit)
      (λ f. within_more st.flag (11 + 11 * (length s - next)) (11 * (length s - st.at)) _ (omega arith)
      (run-within c st.flag (11 * (length s - next)) (k z).readings l (h z (omega arith))))
      (λ f. none_within st.flag (11 * (length s - st.at)))
  counted-left st (bad number place) k l e h = none_within st.flag (11 * (length s - st.at))

  turn-left : (st : Turn) (k : Turn → Trace ℕ) → st.flag ≤ 1 → Onward k → Left st (onward (turn_at s st) k).readings
  unfolding turn_at
  turn-left st k l h =
      cond-by (λ (r : Run ℕ Turn). Left st (onward r k).readings) (ltb st.at (length s))
      (λ e. counted-left st (u64_at s st.at) k l refl h) (λ e. none_within st.flag (11 * (length s - st.at)))

  walk-left : (f : ℕ) (st : Turn) → st.flag ≤ 1 → Left st (walk (turn_at s) f st).readings
  unfolding walk
  walk-left zero st l = turn-left st _ l (λ z m. none_within z.flag (11 * (length s - z.at)))
  walk-left (suc f) st l = turn-left st _ l (λ z m. walk-left f z m)

  -- THE LAW of a boolean column
  pub eleven-turns : length (bool_bytes (bool_trace s).readings) ≤ 11 * length s
  unfolding bool_bytes bool_trace turns_from
  eleven-turns =
      (within_more 0 (11 * (length s - 0)) (11 * length s) _ (omega arith) (walk-left (length s - 0) (turn 0 0 0) (omega arith))).straight
