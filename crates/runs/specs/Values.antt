-- 01, "Columns", and 02, [1]: what the values of a run-length column can be, and where one ends.
use Rattle.std.specs.Prelude.{ℕ, List}
use Rattle.leb128.specs.Got.{Got, got, bad}
use Rattle.encoding.specs.Element.{Element}
use Rattle.encoding.specs.Walk.{Next, on, off}
use Rattle.rle_decoder.specs.Word.{u64_e}
use Rattle.delta_decoder.specs.Difference.{i64_e}
use Rattle.text.specs.Text.{text_e}
use Rattle.runs.specs.declared.Values.{Values}
use Rattle.runs.specs.declared.Values.TheVariants as values

-- an element, whatever its values are
pub record Some : Type 1 where
  pub A : Type 0
  pub E : Element A

abbrev pub element_of : Values → Some
element_of values.Words = record { A = ℕ; E = u64_e }
element_of values.Differences = record { A = _; E = i64_e }
element_of values.Names = record { A = List ℕ; E = text_e }

-- the position behind a value that was read, or its refusal
abbrev pub behind : {A : Type 0} → Got A → Next ℕ
behind (got a next) = on next
behind (bad number place) = off number place
