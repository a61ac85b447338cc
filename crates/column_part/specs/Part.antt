-- 01, "Table and block": "Each column is handed on as its own part of the block, wherever that begins. Lookup by specification gives the
-- bytes of the first row with exactly that number, or an empty part; by position the checks are table faults, 16. A refusal gives an empty
-- part."
use Rattle.std.specs.Prelude.{ℕ, suc, ◌+◌, List, [], ◌∷◌, cond, length, get_or, take, drop, ltb, eqb, Option, Some, None, Result, Ok, Err}
use Rattle.refusal.specs.Number.{number_of}
use Rattle.refusal.specs.declared.Refusal.{Refusal}
use Rattle.raw_column.specs.Table.{Tab, tab, faulty, sum, parse}
use Rattle.column_part.specs.declared.Part as code

-- where a column lies in its block, and its specification; or a refusal's number and place, and an empty part
pub record Part : Type 0 where
  pub number : ℕ
  pub place : ℕ
  pub start : ℕ
  pub len : ℕ
  pub spec : ℕ

-- where the column at a position begins in its block, whose data begin at next
abbrev pub start_of : List ℕ → ℕ → ℕ → ℕ
start_of lens next position = next + sum (take position lens)

abbrev pub no_part : ℕ → ℕ → Part
no_part number place = record { number = number; place = place; start = 0; len = 0; spec = 0 }

-- the part of row i, with its specification
abbrev pub row_part : List ℕ → List ℕ → ℕ → ℕ → Part
row_part specs lens next i = record { number = 0; place = 0; start = start_of lens next i; len = get_or lens i 0; spec = get_or specs i 0 }

abbrev pub part_in : ℕ → Tab → Part
part_in position (tab specs lens next) = cond (ltb position (length specs)) (row_part specs lens next position) (no_part 16 0)
part_in position (faulty number place) = no_part number place

-- the first row with exactly that specification; the number of rows where there is none
unfoldable pub row_of : ℕ → List ℕ → ℕ
row_of spec [] = 0
row_of spec (x ∷ xs) = cond (eqb x spec) 0 (suc (row_of spec xs))

abbrev pub spec_part_in : ℕ → Tab → Part
spec_part_in spec (tab specs lens next) = cond (ltb (row_of spec specs) (length specs)) (row_part specs lens next (row_of spec specs)) (no_part 0 0)
spec_part_in spec (faulty number place) = no_part number place

unfoldable pub part_at : List ℕ → ℕ → Part
part_at s position = part_in position (parse s)

unfoldable pub part_for : List ℕ → ℕ → Part
part_for s spec = spec_part_in spec (parse s)

-- what the lookup by specification finds, which tells a block without the row from an empty part
pub data Sought : Type 0 where
  there : Part → Sought
  nowhere : Sought
  refused : ℕ → ℕ → Sought

abbrev pub sought_in : ℕ → Tab → Sought
sought_in spec (tab specs lens next) = cond (ltb (row_of spec specs) (length specs)) (there (row_part specs lens next (row_of spec specs))) nowhere
sought_in spec (faulty number place) = refused number place

unfoldable pub sought : List ℕ → ℕ → Sought
sought s spec = sought_in spec (parse s)

-- the bytes of a part
abbrev pub bytes_of : List ℕ → Part → List ℕ
bytes_of s p = take p.len (drop p.start s)

-- what the code's answers stand for: a part, or the refusal; and one that may be nowhere
abbrev pub taken : code.Part → Part
taken p = record { number = 0; place = 0; start = p.start; len = p.len; spec = p.spec }

abbrev pub part_of : Result code.Part Refusal → Part
part_of (Ok p) = taken p
part_of (Err e) = no_part (number_of e.0) e.1

abbrev pub found_of : Result (Option code.Part) Refusal → Part
found_of (Ok (Some p)) = taken p
found_of (Ok None) = no_part 0 0
found_of (Err e) = no_part (number_of e.0) e.1

abbrev pub sought_of : Result (Option code.Part) Refusal → Sought
sought_of (Ok (Some p)) = there (taken p)
sought_of (Ok None) = nowhere
sought_of (Err e) = refused (number_of e.0) e.1
