-- A log judged by lengths: one law for each way out of `judge_entry`, the turns of `judge_log`, and that lengths say what the lists do. Assumes
-- nothing.
use Prim.Native.Nat.{ℕ, zero, suc, ◌+◌, ◌-◌, ◌≤◌, ◌<◌, max}
use mathlib.Core.Path.{◌≡◌, refl, sym, ap, ◌∙◌}
use mathlib.Core.List.{List, [], ◌∷◌}
use mathlib.Core.Option.{Option}
use mathlib.Core.Bool.{Bool, true, false, cond}
use native.Mathlib.Omega.{arith}
use lib.Dec.{ltb, leb}
use lib.IntN.{ℤ}
use lib.ListN.{length}
use borrow.Author.Tests.{lt-ltb, le-ltb, le-leb, lt-leb, leb-true, ltb-true}
use Rattle.leb128.specs.Answer.{Answer, done, refused}
use Rattle.leb128.specs.Got.{Got, got, bad}
use Rattle.encoding.specs.Limit.{limit}
use Rattle.encoding.specs.Walk.{Ending, sound, fault, Trace, before, outcome_of}
use Rattle.slots.specs.Splice.{spliced}
use Rattle.slots.proofs.Splicing.{length-spliced}
use Rattle.pen_log.specs.Entry.{Entry, insert, insert_absent, remove, change, applied, stands, entry_at}
use Rattle.pen_log.specs.Lengths.{length_after, entry_judged, on_length, lengths_judged, judged_from, Onward, on, off, onward, judged_at}
use Rattle.pen_log.specs.Log.{Placed, placed, ended, on_entry, entries_up_to, entries_from, entries}
use Rattle.pen_log.specs.Replay.{judge}
use Rattle.pen_log.specs.Spans.{start_of, end_of, new_of}
use Rattle.pen_log.proofs.Bytes.{entry-within}

-- ---- an entry as a splice

pub start-end : (e : Entry) → start_of e ≤ end_of e
start-end (insert i x) = omega arith
start-end (insert_absent i) = omega arith
start-end (remove i) = omega arith
start-end (change i x) = omega arith

pub few-new : (e : Entry) → length (new_of e) ≤ 1
few-new (insert i x) = omega arith
few-new (insert_absent i) = omega arith
few-new (remove i) = omega arith
few-new (change i x) = omega arith

-- it stands where its range ends within the list
pub stands-within : (e : Entry) (n : ℕ) → end_of e ≤ n → stands e n ≡ true
stands-within (insert i x) n h = le-leb i n h
stands-within (insert_absent i) n h = le-leb i n h
stands-within (remove i) n h = lt-ltb i n (omega arith)
stands-within (change i x) n h = lt-ltb i n (omega arith)

pub stands-not : (e : Entry) (n : ℕ) → n < end_of e → stands e n ≡ false
stands-not (insert i x) n h = lt-leb i n h
stands-not (insert_absent i) n h = lt-leb i n h
stands-not (remove i) n h = le-ltb i n (omega arith)
stands-not (change i x) n h = le-ltb i n (omega arith)

pub stands-then : (e : Entry) (n : ℕ) → stands e n ≡ true → end_of e ≤ n
stands-then (insert i x) n h = leb-true i n h
stands-then (insert_absent i) n h = leb-true i n h
stands-then (remove i) n h = let q = ltb-true i n h in omega arith
stands-then (change i x) n h = let q = ltb-true i n h in omega arith

-- ---- the ways out of judging one

module _ (slots n at : ℕ) {e : Entry} {next : ℕ} {g : Got Entry} (is : g ≡ got e next) where
  by : {o : Onward} → onward next (entry_judged slots n e at) ≡ o → o ≡ judged_at slots n at g
  by q = rw is (sym q)

  pub judged-23 : n < end_of e → off 23 at ≡ judged_at slots n at g
  unfolding entry_judged
  judged-23 h = by (rw (stands-not e n h))

  pub judged-5 : end_of e ≤ n → limit < length_after e n → off 5 0 ≡ judged_at slots n at g
  unfolding entry_judged
  judged-5 h l = by (rw (stands-within e n h, lt-leb (length_after e n) limit l))

  pub judged-9 : end_of e ≤ n → length_after e n ≤ limit → slots < length_after e n → off 9 0 ≡ judged_at slots n at g
  unfolding entry_judged
  judged-9 h l r = by (rw (stands-within e n h, le-leb (length_after e n) limit l, lt-leb (length_after e n) slots r))

  pub judged-on : end_of e ≤ n → length_after e n ≤ limit → length_after e n ≤ slots → on next (length_after e n) ≡ judged_at slots n at g
  unfolding entry_judged
  judged-on h l r = by (rw (stands-within e n h, le-leb (length_after e n) limit l, le-leb (length_after e n) slots r))

-- and what an entry that was judged good says
pub record GoodEntry (slots n : ℕ) (e : Entry) (m : ℕ) : Type 0 where
  pub within : end_of e ≤ n
  pub long : m ≡ length_after e n
  pub few : m ≤ limit
  pub fits : m ≤ slots

pub entry-good : (slots n : ℕ) (e : Entry) (place m : ℕ) → entry_judged slots n e place ≡ done m → GoodEntry slots n e m
unfolding entry_judged
entry-good slots n e place m q = go (stands e n) (leb (length_after e n) limit) (leb (length_after e n) slots) refl refl refl q
  where
    go : (a b c : Bool) → stands e n ≡ a → leb (length_after e n) limit ≡ b → leb (length_after e n) slots ≡ c
        → cond a (cond b (cond c (done (length_after e n)) (refused 9 0)) (refused 5 0)) (refused 23 place) ≡ done m → GoodEntry slots n e m
    go true true true x y z q =
        let l : length_after e n ≡ m = cc in
        let y' = leb-true (length_after e n) limit y in
        let z' = leb-true (length_after e n) slots z in
        record { within = stands-then e n x; long = sym l; few = omega arith; fits = omega arith }
    go true true false x y z q = let w : ◌≡◌ {A = ℕ} 0 1 = cc in absurd (omega arith)
    go true false c x y z q = let w : ◌≡◌ {A = ℕ} 0 1 = cc in absurd (omega arith)
    go false b c x y z q = let w : ◌≡◌ {A = ℕ} 0 1 = cc in absurd (omega arith)

-- ---- the entries from a position on

module _ (s : List ℕ) where
  on-eq : (at : ℕ) (g : Got Entry) (k l : ℕ → Trace Placed) → ((e : Entry) (next : ℕ) → g ≡ got e next → k next ≡ l next) → on_entry at g k ≡ on_entry at g l
  on-eq at (got e next) k l h = ap (before (placed e at ∷ [])) (h e next refl)
  on-eq at (bad number place) k l h = refl

  -- the fuel does not matter
  fuel : (f g at : ℕ) → length s - at ≤ f → length s - at ≤ g → entries_up_to s f at ≡ entries_up_to s g at
  unfolding entries_up_to
  fuel zero zero at hf hg = refl
  fuel zero (suc g) at hf hg = sym (rw (le-ltb at (length s) (omega arith)))
  fuel (suc f) zero at hf hg = rw (le-ltb at (length s) (omega arith))
  fuel (suc f) (suc g) at hf hg = go (ltb at (length s)) refl (λ next a b. fuel f g next a b)
    where
      go : (t : Bool) → ltb at (length s) ≡ t → ((next : ℕ) → length s - next ≤ f → length s - next ≤ g → entries_up_to s f next ≡ entries_up_to s g next)
          → cond t (on_entry at (entry_at s at) (λ next. entries_up_to s f next)) (ended sound) ≡ cond t (on_entry at (entry_at s at) (λ next. entries_up_to s g next)) (ended sound)
      go false q r = refl
      go true q r =
          let l = ltb-true at (length s) q in
          on-eq at (entry_at s at) (entries_up_to s f) (entries_up_to s g) (λ e next k. let w = entry-within s at k in r next (omega arith) (omega arith))

  pub entries-on : (at : ℕ) → at < length s → entries_from s at ≡ on_entry at (entry_at s at) (entries_from s)
  unfolding entries_up_to entries_from
  entries-on at h =
      let f = length s - at - 1 in
      let q : length s - at ≡ suc f = omega arith in
      ap (λ (n : ℕ). entries_up_to s n at) q ∙ rw (lt-ltb at (length s) h)
      (on-eq at (entry_at s at) (entries_up_to s f) (entries_from s) (λ e next k. let w = entry-within s at k in fuel f (length s - next) next (omega arith) (omega arith)))

  pub entries-end : (at : ℕ) → length s ≤ at → entries_from s at ≡ ended sound
  unfolding entries_up_to entries_from
  entries-end at h = let q : length s - at ≡ 0 = omega arith in ap (λ (n : ℕ). entries_up_to s n at) q

  -- ---- the turns of judging a log: what is owed from a position on

  module _ (slots n at : ℕ) (h : at < length s) where
    turn : judged_from slots n (entries_from s at) ≡ judged_from slots n (on_entry at (entry_at s at) (entries_from s))
    turn = ap (judged_from slots n) (entries-on at h)

    pub judge-on : {next m : ℕ} → on next m ≡ judged_at slots n at (entry_at s at) → judged_from slots n (entries_from s at) ≡ judged_from slots m (entries_from s next)
    unfolding lengths_judged
    judge-on {next} {m} q = turn ∙ go (entry_at s at) q
      where
        step : (e : Entry) (k : ℕ) (a : Answer) → entry_judged slots n e at ≡ a → on next m ≡ onward k a
            → lengths_judged slots n (placed e at ∷ (entries_from s k).readings) (entries_from s k).ending ≡ judged_from slots m (entries_from s next)
        step e k (done j) w q =
            let a : j ≡ m = cc in
            let b : k ≡ next = cc in
            rw (w, a, b)
        step e k (refused number place) w q = let z : ◌≡◌ {A = ℕ} 0 1 = cc in absurd (omega arith)

        go : (g : Got Entry) → on next m ≡ judged_at slots n at g → judged_from slots n (on_entry at g (entries_from s)) ≡ judged_from slots m (entries_from s next)
        go (got e k) q = step e k (entry_judged slots n e at) refl q
        go (bad number place) q = let z : ◌≡◌ {A = ℕ} 0 1 = cc in absurd (omega arith)

    pub judge-off : {number place : ℕ} → off number place ≡ judged_at slots n at (entry_at s at) → judged_from slots n (entries_from s at) ≡ refused number place
    unfolding lengths_judged outcome_of
    judge-off {number} {place} q = turn ∙ go (entry_at s at) q
      where
        step : (e : Entry) (k : ℕ) (a : Answer) → entry_judged slots n e at ≡ a → off number place ≡ onward k a
            → lengths_judged slots n (placed e at ∷ (entries_from s k).readings) (entries_from s k).ending ≡ refused number place
        step e k (done j) w q = let z : ◌≡◌ {A = ℕ} 0 1 = cc in absurd (omega arith)
        step e k (refused a b) w q =
            let x : a ≡ number = cc in
            let y : b ≡ place = cc in
            rw (w, x, y)

        go : (g : Got Entry) → off number place ≡ judged_at slots n at g → judged_from slots n (on_entry at g (entries_from s)) ≡ refused number place
        go (got e k) q = step e k (entry_judged slots n e at) refl q
        go (bad a b) q =
            let x : a ≡ number = cc in
            let y : b ≡ place = cc in
            rw (x, y)

  pub judge-end : (slots n at : ℕ) → length s ≤ at → judged_from slots n (entries_from s at) ≡ done n
  unfolding lengths_judged outcome_of
  judge-end slots n at h = ap (judged_from slots n) (entries-end at h)

  -- behind an entry one stands further on, and the list has its length within the limit
  pub judged-further : (slots n at : ℕ) {next m : ℕ} → on next m ≡ judged_at slots n at (entry_at s at) → (at < next) × (next ≤ length s) × (m ≤ limit)
  judged-further slots n at {next} {m} q = go (entry_at s at) refl q
    where
      step : (e : Entry) (k : ℕ) (a : Answer) → entry_at s at ≡ got e k → entry_judged slots n e at ≡ a → on next m ≡ onward k a → (at < next) × (next ≤ length s) × (m ≤ limit)
      step e k (done j) is w q =
          let a : j ≡ m = cc in
          let b : k ≡ next = cc in
          let t = entry-within s at is in
          let l = (entry-good slots n e at j w).few in
          (omega arith, omega arith, omega arith)
      step e k (refused number place) is w q = let z : ◌≡◌ {A = ℕ} 0 1 = cc in absurd (omega arith)

      go : (g : Got Entry) → entry_at s at ≡ g → on next m ≡ judged_at slots n at g → (at < next) × (next ≤ length s) × (m ≤ limit)
      go (got e k) is q = step e k (entry_judged slots n e at) is refl q
      go (bad number place) is q = let z : ◌≡◌ {A = ℕ} 0 1 = cc in absurd (omega arith)

-- ---- lengths say what the lists do

pub applied-is : (e : Entry) (xs : List (Option ℤ)) → applied e xs ≡ spliced xs (start_of e) (end_of e) (new_of e)
applied-is (insert i x) xs = refl
applied-is (insert_absent i) xs = refl
applied-is (remove i) xs = refl
applied-is (change i x) xs = refl

pub applied-length : (e : Entry) (xs : List (Option ℤ)) → end_of e ≤ length xs → length (applied e xs) ≡ length_after e (length xs)
applied-length e xs h = ap length (applied-is e xs) ∙ length-spliced xs (start_of e) (end_of e) (new_of e) (start-end e) h

pub judge-lengths : (slots : ℕ) (xs : List (Option ℤ)) (es : List Placed) (end : Ending) → judge slots xs es end ≡ lengths_judged slots (length xs) es end
unfolding judge lengths_judged entry_judged
judge-lengths slots xs [] end = refl
judge-lengths slots xs (e ∷ es) end = go (stands e.entry (length xs)) refl (judge-lengths slots (applied e.entry xs) es end)
  where
    ys : List (Option ℤ)
    ys = applied e.entry xs

    m : ℕ
    m = length_after e.entry (length xs)

    fits : (b c : Bool) → length ys ≡ m → judge slots ys es end ≡ lengths_judged slots (length ys) es end
        → cond b (cond c (judge slots ys es end) (refused 9 0)) (refused 5 0)
        ≡ on_length (cond b (cond c (done m) (refused 9 0)) (refused 5 0)) (λ k. lengths_judged slots k es end)
    fits true true l r = r ∙ ap (λ (k : ℕ). lengths_judged slots k es end) l
    fits true false l r = refl
    fits false c l r = refl

    go : (t : Bool) → stands e.entry (length xs) ≡ t → judge slots ys es end ≡ lengths_judged slots (length ys) es end
        → cond t (cond (leb (length ys) limit) (cond (leb (length ys) slots) (judge slots ys es end) (refused 9 0)) (refused 5 0)) (refused 23 e.place)
        ≡ on_length (cond t (cond (leb m limit) (cond (leb m slots) (done m) (refused 9 0)) (refused 5 0)) (refused 23 e.place)) (λ k. lengths_judged slots k es end)
    go false q r = refl
    go true q r =
        let l = applied-length e.entry xs (stands-then e.entry (length xs) q) in
        ap (λ (k : ℕ). cond (leb k limit) (cond (leb k slots) (judge slots ys es end) (refused 9 0)) (refused 5 0)) l ∙ fits (leb m limit) (leb m slots) l r
