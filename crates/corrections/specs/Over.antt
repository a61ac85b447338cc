-- 02, [10]: "Lookup by specification should show a column's bytes from our later block of corrections if that has the row, else from the first
-- scan, as a part of whichever block holds it. A correction row of length 0 hides the older column. If neither has the row the part is empty.
-- A fault in either table is refused with an empty part and the answer says which block, the corrections judged first."
use Rattle.std.specs.Prelude.{ℕ, List, [], Bool, cond, length, ltb}
use Rattle.raw_column.specs.Table.{Tab, tab, faulty, parse}
use Rattle.column_part.specs.Part.{no_part, row_part, row_of, bytes_of, Part}

-- "the answer says which block": a part of the corrections or of the first scan, or the refusal of its table; or neither has the row
pub data Over : Type 0 where
  corrected : Part → Over
  scanned : Part → Over
  neither : Over

-- "if that has the row", of whatever length
abbrev pub has_row : ℕ → List ℕ → Bool
has_row spec specs = ltb (row_of spec specs) (length specs)

-- the two tables, the corrections first
abbrev pub over_in : ℕ → Tab → Tab → Over
over_in spec (faulty number place) first = corrected (no_part number place)
over_in spec (tab specs lens next) (faulty number place) = scanned (no_part number place)
over_in spec (tab specs lens next) (tab specs₀ lens₀ next₀) =
    cond (has_row spec specs) (corrected (row_part specs lens next (row_of spec specs)))
    (cond (has_row spec specs₀) (scanned (row_part specs₀ lens₀ next₀ (row_of spec specs₀))) neither)

unfoldable pub over : List ℕ → List ℕ → ℕ → Over
over corrections first spec = over_in spec (parse corrections) (parse first)

-- where the column lies in that block; "If neither has the row the part is empty."
abbrev pub part_of : Over → Part
part_of (corrected p) = p
part_of (scanned p) = p
part_of neither = no_part 0 0

-- "as a part of whichever block holds it"
abbrev pub part_over : List ℕ → List ℕ → Over → List ℕ
part_over corrections first (corrected p) = bytes_of corrections p
part_over corrections first (scanned p) = bytes_of first p
part_over corrections first neither = []

abbrev pub bytes_over : List ℕ → List ℕ → ℕ → List ℕ
bytes_over corrections first spec = part_over corrections first (over corrections first spec)
