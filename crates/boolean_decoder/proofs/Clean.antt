-- Bytes that are 0 or 1: a list of them has no bad one wherever it is counted from, its parts too, and whatever a boolean column reads as is such
-- a list, so that what was read can be written. Assumes nothing.
use Prim.Native.Nat.{ℕ, zero, suc, ◌+◌, ◌-◌, ◌≤◌}
use mathlib.Core.Path.{◌≡◌, refl, sym, ap, ◌∙◌}
use mathlib.Core.List.{List, [], ◌∷◌, ◌++◌}
use mathlib.Core.Option.{none, some}
use mathlib.Core.Bool.{Bool, true, false, cond}
use native.Mathlib.Omega.{arith}
use lib.Dec.{leb, ltb}
use lib.ListN.{length, take, drop, replicate}
use borrow.Author.Tests.{le-leb}
use Rattle.leb128.specs.Got.{Got, got, bad}
use Rattle.leb128.specs.Read.{u64_at}
use Rattle.encoding.specs.Limit.{limit}
use Rattle.encoding.specs.Given.{bad_flag}
use Rattle.encoding.specs.Walk.{Run, Next, over, on, off, Trace, walk, after}
use Rattle.encoding.proofs.Lists.{cond-by}
use Rattle.boolean_decoder.specs.Turns.{Turn, turn, counted, turn_at, turns_from, bool_trace}

abbrev pub Clean : List ℕ → Type 0
Clean xs = (i : ℕ) → bad_flag i xs ≡ none

head-low : (i b : ℕ) (xs : List ℕ) → bad_flag i (b ∷ xs) ≡ none → leb b 1 ≡ true
unfolding bad_flag
head-low i b xs e = go (leb b 1) refl e
  where
    go : (t : Bool) → leb b 1 ≡ t → cond t (bad_flag (suc i) xs) (some i) ≡ none → leb b 1 ≡ true
    go true h q = h
    go false h q = let z : ◌≡◌ {A = ℕ} 0 1 = cc in absurd (omega arith)

rest-clean : (i b : ℕ) (xs : List ℕ) → bad_flag i (b ∷ xs) ≡ none → bad_flag (suc i) xs ≡ none
unfolding bad_flag
rest-clean i b xs e = sym (ap (λ (t : Bool). cond t (bad_flag (suc i) xs) (some i)) (head-low i b xs e)) ∙ e

join : (i b : ℕ) (xs : List ℕ) → leb b 1 ≡ true → bad_flag (suc i) xs ≡ none → bad_flag i (b ∷ xs) ≡ none
unfolding bad_flag
join i b xs h e = ap (λ (t : Bool). cond t (bad_flag (suc i) xs) (some i)) h ∙ e

pub clean-from : (j : ℕ) (xs : List ℕ) → bad_flag j xs ≡ none → Clean xs
unfolding bad_flag
clean-from j [] e i = refl
clean-from j (b ∷ xs) e i = join i b xs (head-low j b xs e) (clean-from (suc j) xs (rest-clean j b xs e) (suc i))

pub clean-append : (xs ys : List ℕ) → Clean xs → Clean ys → Clean (xs ++ ys)
clean-append [] ys h k i = k i
clean-append (b ∷ xs) ys h k i =
    join i b (xs ++ ys) (head-low i b xs (h i)) (clean-append xs ys (clean-from (suc i) xs (rest-clean i b xs (h i))) k (suc i))

pub clean-take : (n : ℕ) (xs : List ℕ) → Clean xs → Clean (take n xs)
unfolding bad_flag
clean-take zero xs h i = refl
clean-take (suc n) [] h i = refl
clean-take (suc n) (b ∷ xs) h i = join i b (take n xs) (head-low i b xs (h i)) (clean-take n xs (clean-from (suc i) xs (rest-clean i b xs (h i))) (suc i))

pub clean_drop : (n : ℕ) (xs : List ℕ) → Clean xs → Clean (drop n xs)
clean_drop zero xs h i = h i
clean_drop (suc n) [] h i = h i
clean_drop (suc n) (b ∷ xs) h i = clean_drop n xs (clean-from (suc i) xs (rest-clean i b xs (h i))) i

clean-same : (c flag : ℕ) → flag ≤ 1 → Clean (replicate c flag)
unfolding bad_flag
clean-same zero flag h i = refl
clean-same (suc c) flag h i = join i flag (replicate c flag) (le-leb flag 1 h) (clean-same c flag h (suc i))

-- ---- a column's readings
abbrev Low : Next Turn → Type 0
Low over = Unit {0}
Low (on z) = z.flag ≤ 1
Low (off number place) = Unit {0}

abbrev CleanRun : Run ℕ Turn → Type 0
CleanRun r = Clean r.readings × Low r.next

none-clean : Clean []
unfolding bad_flag
none-clean i = refl

counted-clean : (st : Turn) (g : Got ℕ) → st.flag ≤ 1 → CleanRun (counted st g)
unfolding counted
counted-clean st (got c q) h =
    cond-by CleanRun (leb (st.had + c) limit) (λ e. (clean-same c st.flag h, omega arith)) (λ e. (none-clean, tt))
counted-clean st (bad number place) h = (none-clean, tt)

turn-clean : (s : List ℕ) (st : Turn) → st.flag ≤ 1 → CleanRun (turn_at s st)
unfolding turn_at
turn-clean s st h = cond-by CleanRun (ltb st.at (length s)) (λ e. counted-clean st (u64_at s st.at) h) (λ e. (none-clean, tt))

onward-clean : (xs : List ℕ) (n : Next Turn) (k : Turn → Trace ℕ) → Clean xs → Low n → ((z : Turn) → z.flag ≤ 1 → Clean (k z).readings)
    → Clean (xs ++ (after n k).readings)
onward-clean xs over k h l f = clean-append xs [] h none-clean
onward-clean xs (on z) k h l f = clean-append xs (k z).readings h (f z l)
onward-clean xs (off number place) k h l f = clean-append xs [] h none-clean

walk-clean : (s : List ℕ) (f : ℕ) (st : Turn) → st.flag ≤ 1 → Clean (walk (turn_at s) f st).readings
unfolding walk
walk-clean s zero st h =
    let r = turn-clean s st h in
    onward-clean (turn_at s st).readings (turn_at s st).next _ r.0 r.1 (λ z l. none-clean)
walk-clean s (suc f) st h =
    let r = turn-clean s st h in
    onward-clean (turn_at s st).readings (turn_at s st).next _ r.0 r.1 (λ z l. walk-clean s f z l)

pub read-clean : (s : List ℕ) → Clean (bool_trace s).readings
unfolding bool_trace turns_from
read-clean s = walk-clean s (length s - 0) (turn 0 0 0) (omega arith)
