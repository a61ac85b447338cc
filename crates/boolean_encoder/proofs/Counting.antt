-- The counts of a list of bytes 0 and 1 as the writer's loops go through them: one by one, the first found by looking ahead; where a loop
-- stands, and that it goes on. Assumes nothing.
use Prim.Native.Nat.{ℕ, zero, suc, ◌+◌, ◌-◌, ◌*◌, ◌≤◌, ◌<◌}
use mathlib.Core.Path.{◌≡◌, refl, sym, ◌∙◌, ap}
use mathlib.Core.List.{List, [], ◌∷◌, ◌++◌}
use mathlib.Core.Bool.{Bool, true, false, cond}
use native.Mathlib.Decide.{dec_lt}
use native.Mathlib.Numerals.{add-one}
use native.Mathlib.Omega.{arith}
use lib.Dec.{eqb}
use lib.ListN.{length, get_or, drop, length-append, length-drop, drop_of_length-le}
use lib.Seq.{drop-cons, drop-drop, get_or-drop}
use borrow.Author.Tests.{eq-eqb, ne_eqb, eqb-false}
use Rattle.leb128.specs.Write.{u64_bytes}
use Rattle.leb128.proofs.Laws.{u64-short}
use Rattle.boolean_encoder.specs.Ahead.{alike, Flags}
use Rattle.boolean_encoder.specs.Writer.{add_one, counts, counts_bytes, bool_bytes}

-- ---- bytes 0 and 1

pub flags-tail : (b : ℕ) (xs : List ℕ) → Flags (b ∷ xs) → Flags xs
flags-tail b xs h k l = h (suc k) (omega arith)

flags-drop : (i : ℕ) (xs : List ℕ) → Flags xs → Flags (drop i xs)
flags-drop zero xs h = h
flags-drop (suc i) [] h = h
flags-drop (suc i) (b ∷ xs) h = flags-drop i xs (flags-tail b xs h)

-- ---- looking ahead for the first byte that differs

module _ (flag : ℕ) where
  alike-most : (xs : List ℕ) → alike flag xs ≤ length xs
  unfolding alike
  alike-most [] = omega arith
  alike-most (b ∷ xs) = go (eqb b flag) (alike-most xs)
    where
      go : (t : Bool) → alike flag xs ≤ length xs → cond t (suc (alike flag xs)) 0 ≤ suc (length xs)
      go true h = omega arith
      go false h = omega arith

  alike-differs : (xs : List ℕ) → alike flag xs < length xs → get_or xs (alike flag xs) 0 ≡ flag → ⊥
  unfolding alike
  alike-differs [] l e = omega arith
  alike-differs (b ∷ xs) l e = go (eqb b flag) refl (alike-differs xs) l e
    where
      go : (t : Bool) → eqb b flag ≡ t → (alike flag xs < length xs → get_or xs (alike flag xs) 0 ≡ flag → ⊥)
          → cond t (suc (alike flag xs)) 0 < suc (length xs) → get_or (b ∷ xs) (cond t (suc (alike flag xs)) 0) 0 ≡ flag → ⊥
      go true h r l e = r (omega arith) e
      go false h r l e = eqb-false b flag h e

  -- the end of the equal bytes, from an index among them
  abbrev pub end_from : List ℕ → ℕ → ℕ
  end_from xs k = k + alike flag (drop k xs)

  module _ (xs : List ℕ) (k : ℕ) where
    pub alike-more : k < length xs → get_or xs k 0 ≡ flag → k + alike flag (drop k xs) ≡ k + 1 + alike flag (drop (k + 1) xs)
    unfolding alike
    alike-more l h =
        let e : alike flag (drop k xs) ≡ suc (alike flag (drop (k + 1) xs)) =
        ap (alike flag) (drop-cons xs k 0 l) ∙ simp (eq-eqb (get_or xs k 0) flag h, add-one) in
        omega arith

    pub alike-stop : k < length xs → (get_or xs k 0 ≡ flag → ⊥) → k + alike flag (drop k xs) ≡ k
    unfolding alike
    alike-stop l h = let e : alike flag (drop k xs) ≡ 0 = ap (alike flag) (drop-cons xs k 0 l) ∙ simp (ne_eqb (get_or xs k 0) flag h) in omega arith

    pub alike-over : length xs ≤ k → k + alike flag (drop k xs) ≡ k
    unfolding alike
    alike-over l = let e : alike flag (drop k xs) ≡ 0 = ap (alike flag) (drop_of_length-le xs l) in omega arith

-- ---- the first count is of the bytes that are alike, and the others are the counts behind them

module _ (flag : ℕ) (bit : flag ≤ 1) where
  other : (b : ℕ) (xs : List ℕ) → Flags (b ∷ xs) → eqb b flag ≡ false → counts (1 - flag) (b ∷ xs) ≡ add_one (counts (1 - flag) xs)
  unfolding counts
  other b xs h e =
      let n : b ≡ flag → ⊥ = eqb-false b flag e in
      let k : b ≡ 1 - flag = omega (arith, h 0 (omega arith)) in
      simp (eq-eqb b (1 - flag) k)

  -- one byte `flag` more in front of any list
  add-cut : (xs : List ℕ) → Flags xs → add_one (counts flag xs) ≡ suc (alike flag xs) ∷ counts (1 - flag) (drop (alike flag xs) xs)
  unfolding counts alike add_one
  add-cut [] h = refl
  add-cut (b ∷ xs) h = go (eqb b flag) refl (add-cut xs (flags-tail b xs h))
    where
      go : (t : Bool) → eqb b flag ≡ t → add_one (counts flag xs) ≡ suc (alike flag xs) ∷ counts (1 - flag) (drop (alike flag xs) xs)
          → add_one (cond t (add_one (counts flag xs)) (0 ∷ add_one (counts (1 - flag) xs)))
          ≡ suc (cond t (suc (alike flag xs)) 0) ∷ counts (1 - flag) (drop (cond t (suc (alike flag xs)) 0) (b ∷ xs))
      go true e r = ap add_one r
      go false e r = ap (λ (ns : List ℕ). 1 ∷ ns) (sym (other b xs h e))

  counts-cut : (xs : List ℕ) → Flags xs → 0 < length xs → counts flag xs ≡ alike flag xs ∷ counts (1 - flag) (drop (alike flag xs) xs)
  unfolding counts alike
  counts-cut [] h l = absurd (omega arith)
  counts-cut (b ∷ xs) h l = go (eqb b flag) refl
    where
      go : (t : Bool) → eqb b flag ≡ t
          → cond t (add_one (counts flag xs)) (0 ∷ add_one (counts (1 - flag) xs))
          ≡ cond t (suc (alike flag xs)) 0 ∷ counts (1 - flag) (drop (cond t (suc (alike flag xs)) 0) (b ∷ xs))
      go true e = add-cut xs (flags-tail b xs h)
      go false e = ap (λ (ns : List ℕ). 0 ∷ ns) (sym (other b xs h e))

-- ---- the loops over counts

-- the bytes from an index on, where the bytes `flag` are counted first
unfoldable pub bytes_from : List ℕ → ℕ → ℕ → List ℕ
bytes_from xs i flag = counts_bytes (counts flag (drop i xs))

-- where a loop stands: at the start, or before a byte that is counted next; and how far it has to go
pub record Stood (xs : List ℕ) (i flag : ℕ) : Type 0 where
  pub within : i ≤ length xs
  pub bit : flag ≤ 1
  pub first : 0 < i + flag → i < length xs → get_or xs i 0 ≡ flag

abbrev pub to_go : List ℕ → ℕ → ℕ → ℕ
to_go xs i flag = 2 * (length xs - i) + (1 - flag)

pub stood-start : (xs : List ℕ) → Stood xs 0 0
stood-start xs = record { within = omega arith; bit = omega arith; first = λ l. absurd (omega arith) }

pub bytes-start : (xs : List ℕ) → bytes_from xs 0 0 ≡ bool_bytes xs
unfolding bytes_from bool_bytes
bytes-start xs = refl

-- the bytes `flag` from i on end at k: where the loop then stands, that it has less to go, and what it has put
pub record CutAt (xs : List ℕ) (i flag k : ℕ) : Type 0 where
  pub stood : Stood xs k (1 - flag)
  pub less : to_go xs k (1 - flag) < to_go xs i flag
  pub bytes : bytes_from xs i flag ≡ u64_bytes (k - i) ++ bytes_from xs k (1 - flag)
  pub size : length (bytes_from xs i flag) ≡ length (u64_bytes (k - i)) + length (bytes_from xs k (1 - flag))

module _ (xs : List ℕ) (i flag k : ℕ) (h : Flags xs) (s : Stood xs i flag) (l : i < length xs) (e : k ≡ i + alike flag (drop i xs)) where
  stood-off : k < length xs → get_or xs k 0 ≡ flag → ⊥
  stood-off m y =
      let d = length-drop i xs in
      alike-differs flag (drop i xs) (omega arith) (get_or-drop i xs _ 0 ∙ ap (λ (j : ℕ). get_or xs j 0) (sym e) ∙ y)

  stood_on : Stood xs k (1 - flag)
  stood_on =
      record {
        within = omega (arith, s.within, alike-most flag (drop i xs), length-drop i xs);
        bit = omega arith;
        first = λ n m. let y = stood-off m in omega (arith, h k m, s.bit);
      }

  stood-less : to_go xs k (1 - flag) < to_go xs i flag
  stood-less =
      elim (dec_lt 0 (i + flag)) [ yes m ↦ omega (arith, alike-more flag xs i l (s.first m l), s.bit) | no m ↦ omega arith ]

  bytes_cut : bytes_from xs i flag ≡ u64_bytes (k - i) ++ bytes_from xs k (1 - flag)
  unfolding bytes_from counts_bytes
  bytes_cut =
      let n : ℕ = alike flag (drop i xs) in
      let z : n ≡ k - i = omega arith in
      let d = length-drop i xs in
      ap counts_bytes (counts-cut flag s.bit (drop i xs) (flags-drop i xs h) (omega arith))
      ∙ ap (λ (ys : List ℕ). u64_bytes n ++ counts_bytes (counts (1 - flag) ys)) (drop-drop n i xs)
      ∙ ap (λ (j : ℕ). u64_bytes n ++ counts_bytes (counts (1 - flag) (drop j xs))) (sym e)
      ∙ ap (λ (j : ℕ). u64_bytes j ++ counts_bytes (counts (1 - flag) (drop k xs))) z

  pub cut_at : CutAt xs i flag k
  cut_at =
      record {
        stood = stood_on;
        less = stood-less;
        bytes = bytes_cut;
        size = ap length bytes_cut ∙ length-append (u64_bytes (k - i)) (bytes_from xs k (1 - flag));
      }

pub bytes-end : (xs : List ℕ) (i flag : ℕ) → length xs ≤ i → bytes_from xs i flag ≡ []
unfolding bytes_from counts counts_bytes
bytes-end xs i flag l = ap (λ (ys : List ℕ). counts_bytes (counts flag ys)) (drop_of_length-le xs l)

-- ---- the run that a loop over bytes is in at k: it begins at i, and the bytes of the counts before it are n
pub record Running (xs : List ℕ) (n i flag k : ℕ) : Type 0 where
  pub stood : Stood xs i flag
  pub some : i < length xs
  pub behind : i ≤ k
  pub within : k ≤ length xs
  pub same : i + alike flag (drop i xs) ≡ k + alike flag (drop k xs)
  pub total : n + length (bytes_from xs i flag) ≡ length (bool_bytes xs)

pub run-start : (xs : List ℕ) → 0 < length xs → Running xs 0 0 0 0
run-start xs l =
    record {
      stood = stood-start xs;
      some = l;
      behind = omega arith;
      within = omega arith;
      same = refl;
      total = omega (arith, ap length (bytes-start xs));
    }

module _ (xs : List ℕ) (n i flag k : ℕ) (r : Running xs n i flag k) where
  pub run-skip : (j : ℕ) → k + alike flag (drop k xs) ≡ j + alike flag (drop j xs) → k ≤ j → j ≤ length xs → Running xs n i flag j
  run-skip j e l m =
      record { stood = r.stood; some = r.some; behind = omega (arith, r.behind); within = m; same = r.same ∙ e; total = r.total }

  pub run_on : (m : ℕ) → m ≡ 0 → k < length xs → get_or xs k 0 ≡ flag → Running xs (n + m) i (get_or xs k 0) (k + 1)
  run_on m z l e =
      let s = run-skip (k + 1) (alike-more flag xs k l e) (omega arith) (omega arith) in
      let t : n ≡ n + m = omega arith in
      rw e (rw t at s)

  module _ (h : Flags xs) (m : ℕ) (e : m ≡ length (u64_bytes (k - i))) where
    pub run-turn : k < length xs → (get_or xs k 0 ≡ flag → ⊥) → Running xs (n + m) k (get_or xs k 0) (k + 1)
    run-turn l d =
        let c = cut_at xs i flag k h r.stood r.some (sym (r.same ∙ alike-stop flag xs k l d)) in
        let b : 1 - flag ≡ get_or xs k 0 = omega (arith, h k l, r.stood.bit) in
        rw b at (turned c l (sym b))
      where
        turned : CutAt xs i flag k → k < length xs → get_or xs k 0 ≡ 1 - flag → Running xs (n + m) k (1 - flag) (k + 1)
        turned c l b =
            record {
              stood = c.stood;
              some = l;
              behind = omega arith;
              within = omega arith;
              same = alike-more (1 - flag) xs k l b;
              total = omega (arith, r.total, c.size);
            }

    pub run_end : length xs ≤ k → n + m ≡ length (bool_bytes xs)
    run_end l =
        let c = cut_at xs i flag k h r.stood r.some (sym (r.same ∙ alike-over flag xs k l)) in
        omega (arith, r.total, c.size, ap length (bytes-end xs k (1 - flag) l))

-- a number takes few bytes
pub ten-most : (n v : ℕ) → n ≡ length (u64_bytes v) → n ≤ 10
ten-most n v e = omega (arith, u64-short v)
