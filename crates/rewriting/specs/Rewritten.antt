-- 02, [7] and [13]: a column read, and what it reads as written again by our writer. What salvage writes, and what a column in our form is.
use Rattle.std.specs.Prelude.{ℕ, List, map, take}
use Rattle.encoding.specs.Element.{Element}
use Rattle.encoding.specs.Column.{value, trace}
use Rattle.encoding.specs.Writer.{column_bytes}
use Rattle.rle_decoder.specs.Word.{u64_e}
use Rattle.delta_decoder.specs.Difference.{i64_e}
use Rattle.text.specs.Text.{text_e}
use Rattle.boolean_decoder.specs.Turns.{bool_trace}
use Rattle.boolean_encoder.specs.Writer.{bool_bytes}
use Rattle.runs.specs.declared.Values.{Values}
use Rattle.runs.specs.declared.Values.TheVariants as values

-- the first `most` of the readings before the first faulty one, as a fresh column
unfoldable pub rewritten : {A : Type 0} → Element A → List ℕ → ℕ → List ℕ
rewritten E s most = column_bytes E (take most (map value (trace E s).readings))

-- by what the values of a run-length column are: numbers, the differences of a delta column, names
unfoldable pub rewritten_as : Values → List ℕ → ℕ → List ℕ
rewritten_as values.Words s most = rewritten u64_e s most
rewritten_as values.Differences s most = rewritten i64_e s most
rewritten_as values.Names s most = rewritten text_e s most

-- and of a boolean column, in the plain form
unfoldable pub rewritten_turns : List ℕ → List ℕ
rewritten_turns s = bool_bytes (bool_trace s).readings
