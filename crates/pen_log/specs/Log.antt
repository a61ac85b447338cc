-- A log is a row of entries. Its meaning is a trace of them, each with the place of its first byte: those before the first that cannot be read, and
-- how it ends. Then what a row of entries makes of a list.
use Rattle.std.specs.Prelude.{ℕ, zero, suc, ◌-◌, max, List, [], ◌∷◌, cond, ltb, ℤ, length, take}
use Rattle.std.proofs.Math.Option.{Option}
use Rattle.leb128.specs.Got.{Got, got, bad}
use Rattle.encoding.specs.Walk.{Ending, sound, fault, Trace, before}
use Rattle.pen_log.specs.Entry.{Entry, applied, entry_at}

pub record Placed : Type 0 where
  pub entry : Entry
  pub place : ℕ

abbrev pub placed : Entry → ℕ → Placed
placed e place = record { entry = e; place = place }

abbrev pub ended : Ending → Trace Placed
ended e = record { readings = []; ending = e }

abbrev pub on_entry : ℕ → Got Entry → (ℕ → Trace Placed) → Trace Placed
on_entry at (got e next) k = before (placed e at ∷ []) (k next)
on_entry at (bad number place) k = ended (fault number place)

-- entry after entry, at most so many
unfoldable pub entries_up_to : List ℕ → ℕ → ℕ → Trace Placed
entries_up_to s zero at = ended sound
entries_up_to s (suc f) at = let rest = on_entry at (entry_at s at) (λ next. entries_up_to s f next) in cond (ltb at (length s)) rest (ended sound)

-- those from a position on, and all of them
unfoldable pub entries_from : List ℕ → ℕ → Trace Placed
entries_from s at = entries_up_to s (length s - at) at

abbrev pub entries : List ℕ → Trace Placed
entries s = entries_from s 0

-- ---- what they make of a list: entry by entry, and the longest list on the way, the first counted

unfoldable pub all_applied : List Placed → List (Option ℤ) → List (Option ℤ)
all_applied [] xs = xs
all_applied (e ∷ es) xs = all_applied es (applied e.entry xs)

unfoldable pub longest : List Placed → List (Option ℤ) → ℕ
longest [] xs = length xs
longest (e ∷ es) xs = max (length xs) (longest es (applied e.entry xs))

-- "The list after k entries is what a plain definition of the four kinds says, for every k."
abbrev pub list_after : ℕ → List Placed → List (Option ℤ) → List (Option ℤ)
list_after k es xs = all_applied (take k es) xs

-- where the entry at an index begins, or else where the entries end; and a log's first k entries
abbrev pub cut_by : ℕ → List Placed → Ending → ℕ → ℕ
cut_by k [] sound n = n
cut_by k [] (fault number place) n = place
cut_by zero (e ∷ es) end n = e.place
cut_by (suc k) (e ∷ es) end n = cut_by k es end n

unfoldable pub first_entries : ℕ → List ℕ → List ℕ
first_entries k s = take (cut_by k (entries s).readings (entries s).ending (length s)) s
