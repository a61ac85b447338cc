-- A kind of column as far as a salvage needs it: what bytes read as, what our writer gives for a list, and which lists have a reading that is present. The
-- four kinds. 02, [7]: "any served one".
use Rattle.std.specs.Prelude.{ℕ, List, [], ◌∷◌, Bool, true, false, ℤ}
use Rattle.std.proofs.Math.Option.{Option}
use Rattle.encoding.specs.Column.{trace, values}
use Rattle.encoding.specs.Walk.{Trace}
use Rattle.encoding.specs.Writer.{any_present, column_bytes}
use Rattle.rle_decoder.specs.Word.{u64_e}
use Rattle.delta_decoder.specs.Sums.{delta_trace}
use Rattle.delta_encoder.specs.Differences.{delta_bytes}
use Rattle.boolean_decoder.specs.Turns.{bool_trace}
use Rattle.boolean_encoder.specs.Writer.{bool_bytes}
use Rattle.text.specs.Text.{text_e}

pub record Way (A : Type 0) : Type 0 where
  pub reads : List ℕ → Trace A
  pub writes : List A → List ℕ
  pub present : List A → Bool

abbrev pub integers : Way (Option ℕ)
integers = record { reads = λ s. values (trace u64_e s); writes = column_bytes u64_e; present = any_present }

abbrev pub deltas : Way (Option ℤ)
deltas = record { reads = λ s. values (delta_trace s); writes = delta_bytes; present = any_present }

-- a boolean is present, be it false or true
abbrev pub any_at_all : {A : Type 0} → List A → Bool
any_at_all [] = false
any_at_all (x ∷ xs) = true

abbrev pub booleans : Way ℕ
booleans = record { reads = bool_trace; writes = bool_bytes; present = any_at_all }

abbrev pub names : Way (Option (List ℕ))
names = record { reads = λ s. values (trace text_e s); writes = column_bytes text_e; present = any_present }

-- "writes them as a fresh column": the readings before the first faulty one, by our writer
abbrev pub fresh_of : {A : Type 0} → Way A → List ℕ → List ℕ
fresh_of W s = W.writes (W.reads s).readings
