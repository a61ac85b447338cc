-- A block that is saved of any bytes that have a whole table: each column that is whole and sound as it is; of every other the readings before the first
-- fault in the bytes that are there, as our writer writes them (02, [7]). Of a type that no call reads a column is kept where it is whole, and else it is
-- empty. The table's own refusal where it is not 14.
use Rattle.std.specs.Prelude.{ℕ, List, [], ◌∷◌, Bool, true, false, cond, eqb, length}
use Rattle.column_specification.specs.Served.{integer_type, delta_type, boolean_type, text_type}
use Rattle.column_specification.specs.Specification.{type_of}
use Rattle.encoding.specs.Walk.{Ending, sound, fault}
use Rattle.raw_column.specs.Table.{Tab, tab, faulty, parse}
use Rattle.block_frame.specs.Columns.{block_bytes}
use Rattle.salvage.specs.Way.{Way, integers, deltas, booleans, names, fresh_of}
use Rattle.cut_block.specs.Rows.{rows_of, parts_of}

-- ---- a column

-- bytes c that are whole or not and end so, of which our writer gives f
abbrev pub mended_if : Bool → Ending → List ℕ → List ℕ → List ℕ
mended_if true sound c f = c
mended_if true (fault number place) c f = f
mended_if false e c f = f

unfoldable pub mended : {A : Type 0} → Way A → Bool → List ℕ → List ℕ
mended W whole c = mended_if whole (W.reads c).ending c (fresh_of W c)

-- by the type's number
unfoldable pub mended_of : ℕ → Bool → List ℕ → List ℕ
mended_of t whole c =
    cond (integer_type t) (mended integers whole c)
    (cond (delta_type t) (mended deltas whole c)
    (cond (boolean_type t) (mended booleans whole c)
    (cond (text_type t) (mended names whole c)
    (cond whole c []))))

-- ---- a block

-- of rows with these specifications and lengths, of whose columns this is there
unfoldable pub mended_all : List ℕ → List ℕ → List (List ℕ) → List (List ℕ)
mended_all [] lens cs = []
mended_all (spec ∷ specs) [] cs = []
mended_all (spec ∷ specs) (len ∷ lens) [] = []
mended_all (spec ∷ specs) (len ∷ lens) (c ∷ cs) = mended_of (type_of spec) (eqb (length c) len) c ∷ mended_all specs lens cs

-- its columns, and the block of them
unfoldable pub saved_columns : List ℕ → List (List ℕ)
saved_columns s = mended_all (rows_of s).specs (rows_of s).lens (parts_of s)

unfoldable pub saved_block : List ℕ → List ℕ
saved_block s = block_bytes (rows_of s).specs (saved_columns s)

pub data Saved : Type 0 where
  saved : List ℕ → Saved
  refused : ℕ → ℕ → Saved

abbrev pub saved_by : List ℕ → Tab → Saved
saved_by block (tab specs lens next) = saved block
saved_by block (faulty number place) = cond (eqb number 14) (saved block) (refused number place)

-- THE SALVAGE OF A BLOCK
unfoldable pub salvaged : List ℕ → Saved
salvaged s = saved_by (saved_block s) (parse s)
