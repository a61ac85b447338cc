-- A block as a table and its columns (01: "a block, which is a table followed directly by its column data and nothing more").
use Rattle.std.specs.Prelude.{ℕ, List, [], ◌∷◌, ◌++◌, map, length, take, drop, set}
use Rattle.leb128.specs.Write.{u64_bytes}

-- data cut into columns of these lengths
unfoldable pub cut : List ℕ → List ℕ → List (List ℕ)
cut [] d = []
cut (len ∷ lens) d = take len d ∷ cut lens (drop len d)

unfoldable pub joined : List (List ℕ) → List ℕ
joined [] = []
joined (c ∷ cs) = c ++ joined cs

-- the rows of a table written
unfoldable pub rows_bytes : List ℕ → List ℕ → List ℕ
rows_bytes [] lens = []
rows_bytes (spec ∷ specs) [] = []
rows_bytes (spec ∷ specs) (len ∷ lens) = u64_bytes spec ++ (u64_bytes len ++ rows_bytes specs lens)

unfoldable pub table_bytes : List ℕ → List ℕ → List ℕ
table_bytes specs lens = u64_bytes (length specs) ++ rows_bytes specs lens

-- the bytes of a block of these specifications and columns: the table of their lengths, and the columns joined
unfoldable pub block_bytes : List ℕ → List (List ℕ) → List ℕ
block_bytes specs columns = table_bytes specs (map length columns) ++ joined columns

-- THE NEW BLOCK of an edit: the columns of the old one, with the one at a position replaced
unfoldable pub new_block : List ℕ → List ℕ → List ℕ → ℕ → ℕ → List ℕ → List ℕ
new_block s specs lens next position column = block_bytes specs (set (cut lens (drop next s)) position column)
