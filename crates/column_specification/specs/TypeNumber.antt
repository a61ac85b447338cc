-- The number of each column type.
use Rattle.std.specs.Prelude.{ℕ}
use Rattle.column_specification.specs.declared.ColumnType.{ColumnType}
use Rattle.column_specification.specs.declared.ColumnType.TheVariants as T

-- 01, "Specifications": 0 Group, 1 Actor, 2 Integer, 3 DeltaInteger, 4 Boolean, 5 String, 6 ValueMetadata, 7 Value
abbrev pub type_number : ColumnType → ℕ
type_number T.Group = 0
type_number T.Actor = 1
type_number T.Integer = 2
type_number T.DeltaInteger = 3
type_number T.Boolean = 4
type_number T.String = 5
type_number T.ValueMetadata = 6
type_number T.Value = 7
