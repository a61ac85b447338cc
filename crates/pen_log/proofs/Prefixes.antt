-- 02, [11]: "The list after k entries is what a plain definition of the four kinds says, for every k." THE THEOREM over prefixes of a log (`after-k`): of a
-- good log the bytes of its first k entries are a good log too, and replaying them comes to the list after k entries. Assumes nothing.
use Prim.Native.Nat.{ℕ, zero, suc, ◌+◌, ◌-◌, ◌≤◌, ◌<◌}
use mathlib.Core.Path.{◌≡◌, refl, sym, ap, ◌∙◌, subst}
use mathlib.Core.List.{List, [], ◌∷◌}
use mathlib.Core.Option.{Option}
use mathlib.Core.Bool.{Bool, true, false, cond}
use native.Mathlib.Omega.{arith}
use lib.Dec.{ltb, leb}
use lib.IntN.{ℤ}
use lib.ListN.{length, take}
use lib.Seq.{length-take-le, take-nil}
use borrow.Author.Tests.{ltb-true, ltb-false}
use Rattle.leb128.specs.Answer.{Answer, done, refused}
use Rattle.leb128.specs.Got.{Got, got, bad}
use Rattle.encoding.specs.Limit.{limit}
use Rattle.encoding.specs.Slots.{decoding}
use Rattle.encoding.specs.Walk.{Ending, sound, fault, Trace, before, outcome_of}
use Rattle.delta_decoder.specs.Sums.{delta_trace}
use Rattle.splice.specs.Contract.{itself}
use Rattle.splice.specs.Edit.{Edited, finished}
use Rattle.splice.specs.Kinds.{delta}
use Rattle.pen_log.specs.Entry.{Entry, applied, stands, entry_at}
use Rattle.pen_log.specs.Log.{Placed, placed, ended, on_entry, entries_from, entries, all_applied, longest, list_after, cut_by, first_entries}
use Rattle.pen_log.specs.Replay.{judge, old_list, replayed_by, replayed}
use Rattle.pen_log.proofs.Bytes.{entry-within, entry_place, entry_kept}
use Rattle.pen_log.proofs.Judging.{entries-on, entries-end}

-- ---- the bytes of the first k entries are a log of these entries, sound

module _ (s : List ℕ) where
  abbrev cut_from : ℕ → ℕ → ℕ
  cut_from k at = cut_by k (entries_from s at).readings (entries_from s at).ending (length s)

  -- of the entries from a position on, cut at m
  record Cut (k at m : ℕ) : Type 0 where
    low : at ≤ m
    high : m ≤ length s
    is : entries_from (take m s) at ≡ record { readings = take k (entries_from s at).readings; ending = sound }

  none_left : (k at : ℕ) → at ≤ length s → take k (entries_from s at).readings ≡ [] → Cut k at at
  none_left k at h q =
      let e = entries-end (take at s) at (omega (arith, length-take-le at s h)) in
      record { low = omega arith; high = h; is = e ∙ ap (λ (l : List Placed). record { readings = l; ending = sound }) (sym q) }

  -- the same where that is how it is cut
  none_here : (k at : ℕ) (t : Trace Placed) → at ≤ length s → entries_from s at ≡ t → take k t.readings ≡ [] → cut_by k t.readings t.ending (length s) ≡ at
      → Cut k at (cut_from k at)
  none_here k at t h e q c =
      let m : at ≡ cut_from k at = sym (ap (λ (t : Trace Placed). cut_by k t.readings t.ending (length s)) e ∙ c) in
      subst (Cut k at) m (none_left k at h (ap (λ (t : Trace Placed). take k t.readings) e ∙ q))

  over : (k at : ℕ) → length s ≤ at → at ≤ length s → Cut k at (cut_from k at)
  over k at l h = none_here k at (ended sound) h (entries-end s at l) (take-nil k) (omega arith)

  one_more : (j at next : ℕ) (e : Entry) → at < length s → entry_at s at ≡ got e next → Cut j next (cut_from j next) → Cut (suc j) at (cut_from (suc j) at)
  one_more j at next e l q C =
      let m = cut_from j next in
      let t = entries-on s at l ∙ ap (λ (g : Got Entry). on_entry at g (entries_from s)) q in
      let w = entry-within s at q in
      let n : at < length (take m s) = omega (arith, length-take-le m s C.high, C.low) in
      let here =
      entries-on (take m s) at n ∙ ap (λ (g : Got Entry). on_entry at g (entries_from (take m s))) (sym (entry_kept s m at C.high q C.low))
      ∙ ap (before (placed e at ∷ [])) C.is ∙ sym (ap (λ (t : Trace Placed). record { readings = take (suc j) t.readings; ending = sound }) t) in
      let c : m ≡ cut_from (suc j) at = sym (ap (λ (t : Trace Placed). cut_by (suc j) t.readings t.ending (length s)) t) in
      subst (Cut (suc j) at) c (record { low = omega (arith, C.low); high = C.high; is = here })

  cuts : (f k at : ℕ) → length s - at ≤ f → at ≤ length s → Cut k at (cut_from k at)
  cuts zero k at hf h = over k at (omega arith) h
  cuts (suc f) k at hf h = go (ltb at (length s)) refl
      (λ next j l w. cuts f j next (omega arith) w)
    where
      step : (k : ℕ) (g : Got Entry) → at < length s → entry_at s at ≡ g → ((next j : ℕ) → at < next → next ≤ length s → Cut j next (cut_from j next)) → Cut k at (cut_from k at)
      step k (bad number place) l q r =
          none_here k at (ended (fault number place)) h (entries-on s at l ∙ ap (λ (g : Got Entry). on_entry at g (entries_from s)) q) (take-nil k) (entry_place s at q)
      step zero (got e next) l q r = none_here zero at _ h (entries-on s at l ∙ ap (λ (g : Got Entry). on_entry at g (entries_from s)) q) refl refl
      step (suc j) (got e next) l q r = let w = entry-within s at q in one_more j at next e l q (r next j w.0 w.1)

      go : (t : Bool) → ltb at (length s) ≡ t → ((next j : ℕ) → at < next → next ≤ length s → Cut j next (cut_from j next)) → Cut k at (cut_from k at)
      go true q r = step k (entry_at s at) (ltb-true at (length s) q) refl r
      go false q r = over k at (ltb-false at (length s) q) h

pub first-entries : (k : ℕ) (s : List ℕ) → entries (first_entries k s) ≡ record { readings = take k (entries s).readings; ending = sound }
unfolding first_entries
first-entries k s = (cuts s (length s) k 0 (omega arith) (omega arith)).is

-- ---- of entries that are good the first k are

good-first : (slots : ℕ) (xs : List (Option ℤ)) (es : List Placed) (end : Ending) {final : ℕ} → judge slots xs es end ≡ done final
    → (k : ℕ) → judge slots xs (take k es) sound ≡ done (length (list_after k es xs))
unfolding judge all_applied outcome_of
good-first slots xs es end g zero = refl
good-first slots xs [] end g (suc k) = refl
good-first slots xs (e ∷ es) end {final} g (suc k) =
    go (stands e.entry (length xs)) (leb (length ys) limit) (leb (length ys) slots) g (λ w. good-first slots (applied e.entry xs) es end w k)
  where
    ys : List (Option ℤ)
    ys = applied e.entry xs

    go : (a b c : Bool) → cond a (cond b (cond c (judge slots ys es end) (refused 9 0)) (refused 5 0)) (refused 23 e.place) ≡ done final
        → (judge slots ys es end ≡ done final → judge slots ys (take k es) sound ≡ done (length (list_after k es ys)))
        → cond a (cond b (cond c (judge slots ys (take k es) sound) (refused 9 0)) (refused 5 0)) (refused 23 e.place) ≡ done (length (list_after k es ys))
    go true true true g r = r g
    go true true false g r = let z : ◌≡◌ {A = ℕ} 0 1 = cc in absurd (omega arith)
    go true false c g r = let z : ◌≡◌ {A = ℕ} 0 1 = cc in absurd (omega arith)
    go false b c g r = let z : ◌≡◌ {A = ℕ} 0 1 = cc in absurd (omega arith)

-- ---- THE THEOREM: a log that is good over a column, replayed up to any of its entries

module _ (column log : List ℕ) (values flags room : ℕ) where
  abbrev es : List Placed
  es = (entries log).readings

  abbrev xs : List (Option ℤ)
  xs = old_list column

  pub after-k : {n final : ℕ} → decoding (delta_trace column) values flags ≡ done n → judge values xs es (entries log).ending ≡ done final → (k : ℕ)
      → replayed column (first_entries k log) values flags room
      ≡ finished delta (longest (take k es) xs) (list_after k es xs) room itself (delta.wide (list_after k es xs))
  unfolding replayed
  after-k d g k =
      rw d (ap (λ (t : Trace Placed). replayed_by xs t values room) (first-entries k log)
      ∙ rw (good-first values xs es (entries log).ending g k))
