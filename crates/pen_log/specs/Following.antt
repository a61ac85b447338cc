-- What the private functions that follow a log ask and promise. No public promise cites it.
use Rattle.std.specs.Prelude.{ℕ, ◌+◌, ◌-◌, ◌≤◌, ◌≡◌, List, [], ◌∷◌, map, ℤ, pos, length, take}
use Rattle.std.proofs.Math.Option.{Option}
use Rattle.leb128.specs.Answer.{done}
use Rattle.encoding.specs.Given.{slot_list}
use Rattle.encoding.specs.Limit.{limit}
use Rattle.encoding.specs.Walk.{outcome}
use Rattle.delta_decoder.specs.Sums.{delta_trace}
use Rattle.slots.specs.Splice.{spliced, in_slots}
use Rattle.splice.specs.Contract.{slot_in, flag_in, itself}
use Rattle.splice.specs.Edit.{finished, out_left}
use Rattle.splice.specs.Kinds.{delta}
use Rattle.pen_log.specs.Lengths.{judged_from}
use Rattle.pen_log.specs.Log.{entries, all_applied, longest}
use Rattle.pen_log.specs.Replay.{Told, told}
use Rattle.pen_log.specs.declared.Span.{Span}

-- ---- one entry

pub record Fits (sp : Span) (len values present : ℕ) : Type 0 where
  pub ordered : sp.start ≤ sp.end
  pub within : sp.end ≤ len
  pub one : sp.new ≤ 1
  pub few : len ≤ limit
  pub old_fits : len ≤ values
  pub new_fits : sp.start + sp.new + (len - sp.end) ≤ values
  pub even : present ≡ values

pub record Applied (sp : Span) (len : ℕ) (v v' : List ℤ) (p p' : List ℕ) (r : ℕ) : Type 0 where
  pub long : r ≡ sp.start + sp.new + (len - sp.end)
  pub values : v' ≡ in_slots (pos 0) v len (spliced (take len v) sp.start sp.end (take sp.new (sp.value ∷ [])))
  pub presence : p' ≡ in_slots 0 p len (spliced (take len p) sp.start sp.end (take sp.new (sp.flag ∷ [])))

-- ---- the log

-- the list in the first n slots
abbrev pub list_in : ℕ → List ℤ → List ℕ → List (Option ℤ)
list_in n v p = slot_list (take n v) (take n p)

-- slots that hold a list as it is decoded, and a log that was judged good over it
pub record Ready (log : List ℕ) (old : ℕ) (v : List ℤ) (p : List ℕ) : Type 0 where
  pub fits : old ≤ length v
  pub few : old ≤ limit
  pub even : length p ≡ length v
  pub values : take old v ≡ map (slot_in (pos 0)) (list_in old v p)
  pub presence : take old p ≡ map flag_in (list_in old v p)
  pub final : ℕ
  pub good : judged_from (length v) old (entries log) ≡ done final

-- the list that the log makes of xs stands in both slices, and zeros up to the longest one
pub record Followed (log : List ℕ) (xs : List (Option ℤ)) (v v' : List ℤ) (p p' : List ℕ) (r : ℕ) : Type 0 where
  pub long : r ≡ length (all_applied (entries log).readings xs)
  pub few : r ≤ limit
  pub fits : r ≤ length v
  pub values : v' ≡ in_slots (pos 0) v (longest (entries log).readings xs) (map (slot_in (pos 0)) (all_applied (entries log).readings xs))
  pub presence : p' ≡ in_slots 0 p (longest (entries log).readings xs) (map flag_in (all_applied (entries log).readings xs))

-- ---- the end

-- a list written: 7, 10, or its column
pub record Finishes (xs : List (Option ℤ)) (out out' : List ℕ) (o : Told) : Type 0 where
  pub answer : o ≡ told (finished delta 0 xs (length out) itself (delta.wide xs))
  pub output : out' ≡ out_left (finished delta 0 xs (length out) itself (delta.wide xs)) out

-- ---- before it

-- a column of `old` readings that fit, and a log that is good over them
pub record Judged (column log : List ℕ) (old values present : ℕ) : Type 0 where
  pub reads : outcome (delta_trace column) ≡ done old
  pub fits : old ≤ values
  pub even : values ≡ present
  pub final : ℕ
  pub good : judged_from values old (entries log) ≡ done final
