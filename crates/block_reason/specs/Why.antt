-- 02, [3], as 02-readings has it: one call "over a block and a position, which passes on the first, 16, 17 or the second": the table's reason, or the column's.
use Rattle.std.specs.Prelude.{ℕ, List, cond, eqb}
use Rattle.std.proofs.Math.Option.{Option, none, some}
use Rattle.column_part.specs.Part.{part_at, bytes_of, Part}
use Rattle.column_specification.specs.Specification.{type_of}
use Rattle.reason.specs.Columns.{Told, because, faultless, refused, column_reason}
use Rattle.reason.specs.Reason.{Reason}
use Rattle.table_reason.specs.TableReason.{TableReason, table_reason}

-- nothing is wrong; the reason of the table's fault; "which names the column": its position, and the reason of its fault; or a refusal of the call's own
pub data Why : Type 0 where
  nothing : Why
  table : TableReason → Why
  column : ℕ → Reason → Why
  refusal : ℕ → ℕ → Why

abbrev pub of_column : ℕ → Told → Why
of_column position (because r) = column position r
of_column position faultless = nothing
of_column position (refused number place) = refusal number place

-- the column at a position, where its part is found
abbrev pub of_part : List ℕ → ℕ → Part → Why
of_part s position p = cond (eqb p.number 0) (of_column position (column_reason (type_of p.spec) (bytes_of s p))) (refusal p.number p.place)

-- table faults, 16, 17, column faults
abbrev pub of_block : List ℕ → ℕ → Option TableReason → Why
of_block s position (some r) = table r
of_block s position none = of_part s position (part_at s position)

unfoldable pub block_reason : List ℕ → ℕ → Why
block_reason s position = of_block s position (table_reason s)
