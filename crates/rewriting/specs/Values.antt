-- The values of a run-length column as the bytes that stand for them, whatever they are: our encoding is the only one that is read, so values are
-- equal where their bytes are, and are written as they stand. Private functions promise by it; no public promise cites it.
use Rattle.std.specs.Prelude.{ℕ, ◌+◌, ◌-◌, ◌≤◌, List, map, true, length, take, drop, Some, None}
use Rattle.std.proofs.Math.Option.{Option, none, some}
use Rattle.leb128.specs.Got.{bad}
use Rattle.encoding.specs.Cases.{answer_of}
use Rattle.encoding.specs.Element.{Element}
use Rattle.encoding.specs.Column.{Reading, absent, present, spot, repeated, literals, trace_from}
use Rattle.encoding.specs.Walk.{Trace, onward}
use Rattle.text.specs.Text.{same_bytes}
use Rattle.runs.specs.Pieces.{Held}
use Rattle.rewriting.specs.declared.cutter.Cutter.{Cutter}
use Rattle.rewriting.specs.declared.cutter.Shut.{Shut}
use Rattle.rewriting.specs.Cutter.{Cut}
use Rattle.rewriting.specs.Cutter as spec

-- bytes as an element, for its writer: written as they are
abbrev pub plain_e : Element (List ℕ)
plain_e = record { read = λ s p. bad 0 0; write = λ w. w; same = same_bytes; fits = λ w. true }

-- a reading as the bytes of its value
abbrev pub bytes_in : {A : Type 0} → Element A → Reading A → Option (List ℕ)
bytes_in E absent = none
bytes_in E (present a place) = some (E.write a)

-- a reading that is held: the bytes of s from one position up to another
abbrev pub held_in : List ℕ → Held → Option (List ℕ)
held_in s None = none
held_in s (Some (from, till)) = some (take (till - from) (drop from s))

-- it lies within
abbrev pub Within : List ℕ → Held → Type 0
Within s None = Unit {0}
Within s (Some (from, till)) = (from ≤ till) × (till ≤ length s)

-- what is known of the list so far, as the code has it
abbrev pub cut_of : List ℕ → Cutter → Cut (List ℕ)
cut_of s c =
    record { used = answer_of c.used; any = c.any; literals = c.literals; held = held_in s c.held; times = c.times }

abbrev pub shut_of : Shut → spec.Shut
shut_of d = record { used = answer_of d.used; literals = d.literals }

-- what is held lies within, and is of at most `had` readings
pub record Kept (s : List ℕ) (c : Cutter) (had : ℕ) : Type 0 where
  pub inside : Within s c.held
  pub few : c.literals + c.times ≤ had

-- ---- what is still to come of a column's first `most` readings

abbrev pub bytes_of : {A : Type 0} → Element A → ℕ → Trace (Reading A) → List (Option (List ℕ))
bytes_of E n t = take n (map (bytes_in E) t.readings)

-- from the run at a position on, behind `had` readings; where it repeats n times the value at q; and from a literal value on, the i-th of `total`
unfoldable pub owed_from : {A : Type 0} → Element A → List ℕ → ℕ → ℕ → ℕ → List (Option (List ℕ))
owed_from E s most at had = bytes_of E (most - had) (trace_from E s (spot at had))

unfoldable pub owed_repeat : {A : Type 0} → Element A → List ℕ → ℕ → ℕ → ℕ → ℕ → List (Option (List ℕ))
owed_repeat E s most n had q = bytes_of E (most - had) (onward (repeated had n q (E.read s q)) (λ z. trace_from E s z))

unfoldable pub owed_literals : {A : Type 0} → Element A → List ℕ → ℕ → ℕ → ℕ → ℕ → List (Option (List ℕ))
owed_literals E s most total i q = bytes_of E (most - i) (onward (literals E s total (total - i) q) (λ z. trace_from E s z))
