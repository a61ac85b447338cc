-- A BLOCK THAT WAS CUT, salvaged: nothing in any column is invented, no absent reading is made, and every column of which all was there is as it was.
-- Assumes nothing.
use Prim.Native.Nat.{ℕ, zero, suc, ◌+◌, ◌-◌, ◌≤◌, ◌<◌, min}
use mathlib.Core.Path.{◌≡◌, refl, sym, ◌∙◌, ap}
use mathlib.Core.List.{List, [], ◌∷◌, ◌++◌, append-nil}
use mathlib.Core.Bool.{Bool, true}
use native.Mathlib.Decide.{dec_lt}
use native.Mathlib.Omega.{arith}
use lib.Dec.{eqb}
use lib.ListN.{length, get_or, take, drop, length-append, length-take, length-drop, take-append-drop, get_or-eq_default}
use lib.Seq.{length-take-le, get_or-take, get_or-drop, drop-append-le}
use borrow.Author.Tests.{eq-eqb, eqb-true}
use Rattle.column_specification.specs.Served.{integer_type, delta_type, boolean_type, text_type}
use Rattle.column_specification.specs.Specification.{type_of}
use Rattle.raw_column.specs.Table.{tab, sum, parse}
use Rattle.raw_column.proofs.Opening.{sum_to}
use Rattle.column_part.specs.Part.{start_of}
use Rattle.block_frame.specs.Columns.{cut}
use Rattle.block_frame.proofs.Blocks.{columns_of, columns-are}
use Rattle.block_frame.proofs.Cutting.{cut_at, cut-count}
use Rattle.block_frame.proofs.Tables.{Below, table-fills}
use Rattle.salvage.specs.Kept.{Prefix, Bytes}
use Rattle.salvage.specs.Way.{Way, integers, deltas, booleans, names}
use Rattle.cut_block.specs.Rows.{parts_in, parts_of}
use Rattle.cut_block.specs.CutBlock.{Kept}
use Rattle.cut_block.specs.Salvaged.{mended, mended_of, mended_all, saved_columns}
use Rattle.cut_block.proofs.Columns.{WayLaws, kept}
use Rattle.cut_block.proofs.Rows.{rows-kept, part-prefix, part-whole, part_length}

-- ---- parts of bytes are bytes

pub bytes_take : (n : ℕ) (s : List ℕ) → Bytes s → Bytes (take n s)
bytes_take n s B i = elim (dec_lt i n) [
  | yes l ↦ rw (get_or-take n s i 0 l) (B i)
  | no l ↦
      let m : length (take n s) ≤ i = omega (arith, length-take n s) in
      rw (get_or-eq_default (take n s) 0 m) (omega arith)
]

bytes_drop : (n : ℕ) (s : List ℕ) → Bytes s → Bytes (drop n s)
bytes_drop n s B i = rw (get_or-drop n s i 0) (B (n + i))

pub bytes-part : (lens s : List ℕ) (next i : ℕ) → Bytes s → Bytes (get_or (cut lens (drop next s)) i [])
bytes-part lens s next i B =
    let o : ℕ = sum (take i lens) in
    rw (cut_at lens (drop next s) i) (bytes_take (get_or lens i 0) (drop o (drop next s)) (bytes_drop o (drop next s) (bytes_drop next s B)))

-- ---- which kind a type is of

pub Serves : {A : Type 0} → Way A → ℕ → Type 0
Serves W t = (whole : Bool) (c : List ℕ) → mended_of t whole c ≡ mended W whole c

pub serves-integers : (t : ℕ) → integer_type t ≡ true → Serves integers t
unfolding mended_of Serves
serves-integers t h whole c = rw h refl

pub serves-deltas : (t : ℕ) → delta_type t ≡ true → Serves deltas t
unfolding mended_of Serves
serves-deltas t h whole c = let z : t ≡ 3 = eqb-true t 3 h in rw z refl

pub serves-booleans : (t : ℕ) → boolean_type t ≡ true → Serves booleans t
unfolding mended_of Serves
serves-booleans t h whole c = let z : t ≡ 4 = eqb-true t 4 h in rw z refl

pub serves-names : (t : ℕ) → text_type t ≡ true → Serves names t
unfolding mended_of Serves
serves-names t h whole c = let z : t ≡ 5 = eqb-true t 5 h in rw z refl

-- ---- a column of the salvage

pub mended-at : (specs lens : List ℕ) (cs : List (List ℕ)) (i : ℕ) → length lens ≡ length specs → length cs ≡ length specs → i < length specs
    → get_or (mended_all specs lens cs) i [] ≡ mended_of (type_of (get_or specs i 0)) (eqb (length (get_or cs i [])) (get_or lens i 0)) (get_or cs i [])
unfolding mended_all
mended-at [] lens cs i a b h = absurd (omega arith)
mended-at (spec ∷ specs) [] cs i a b h = absurd (omega arith)
mended-at (spec ∷ specs) (len ∷ lens) [] i a b h = absurd (omega arith)
mended-at (spec ∷ specs) (len ∷ lens) (c ∷ cs) zero a b h = refl
mended-at (spec ∷ specs) (len ∷ lens) (c ∷ cs) (suc i) a b h = mended-at specs lens cs i (omega arith) (omega arith) (omega arith)

none_left : (xs : List ℕ) → length xs ≡ 0 → xs ≡ []
none_left [] e = refl
none_left (x ∷ xs) e = absurd (omega arith)

-- a block b that is accepted, cut behind k bytes, among which its table is
module _ (b specs lens : List ℕ) (next k : ℕ) (bytes : Below 256 b) (e : parse b ≡ tab specs lens next) (l : next ≤ k) (inside : k ≤ length b) where
  pub parts_are : parts_of (take k b) ≡ cut lens (drop next (take k b))
  unfolding parts_of
  parts_are = ap (parts_in (take k b)) (rows-kept b specs lens next k e l inside)

  data-split : drop next b ≡ drop next (take k b) ++ drop k b
  data-split =
      let n : length (take k b) ≡ k = length-take-le k b inside in
      ap (drop next) (sym (take-append-drop k b)) ∙ drop-append-le next (take k b) (drop k b) (omega arith)

  -- what is there of a column is what it begins with, and all of it where it ends within the k bytes
  pub there-prefix : (i : ℕ) → Prefix (get_or (parts_of (take k b)) i []) (get_or (columns_of b) i [])
  there-prefix i = rw (parts_are, columns-are b specs lens next e, data-split) (part-prefix lens (drop next (take k b)) (drop k b) i)

  pub there-whole : (i : ℕ) → start_of lens next i + get_or lens i 0 ≤ k → get_or (parts_of (take k b)) i [] ≡ get_or (columns_of b) i []
  there-whole i h =
      let n : length (take k b) ≡ k = length-take-le k b inside in
      let m : sum (take i lens) + get_or lens i 0 ≤ length (drop next (take k b)) = omega (arith, length-drop next (take k b)) in
      rw (parts_are, columns-are b specs lens next e, data-split) (part-whole lens (drop next (take k b)) (drop k b) i m)

  pub column-length : (i : ℕ) → i < length specs → length (get_or (columns_of b) i []) ≡ get_or lens i 0
  column-length i h =
      let f = table-fills b specs lens next e in
      let w = sum_to lens i (omega (arith, f.even)) in
      ap (λ (z : List (List ℕ)). length (get_or z i [])) (columns-are b specs lens next e)
      ∙ part_length lens (drop next b) i
      ∙ (let m : min (get_or lens i 0) (length (drop next b) - sum (take i lens)) ≡ get_or lens i 0 = omega (arith, w, f.whole, length-drop next b) in m)

  -- a part that is as long as its column is the column
  pub there-length : (i : ℕ) → i < length specs → length (get_or (parts_of (take k b)) i []) ≡ get_or lens i 0
      → get_or (parts_of (take k b)) i [] ≡ get_or (columns_of b) i []
  there-length i h q =
      let p = there-prefix i in
      let n : length p.rest ≡ 0 =
      omega (arith, ap length p.split, length-append (get_or (parts_of (take k b)) i []) p.rest, column-length i h) in
      sym (p.split ∙ ap (λ (z : List ℕ). get_or (parts_of (take k b)) i [] ++ z) (none_left p.rest n) ∙ append-nil (get_or (parts_of (take k b)) i []))

  pub saved-at : (i : ℕ) → i < length specs
      → get_or (saved_columns (take k b)) i []
      ≡ mended_of (type_of (get_or specs i 0)) (eqb (length (get_or (parts_of (take k b)) i [])) (get_or lens i 0)) (get_or (parts_of (take k b)) i [])
  unfolding saved_columns
  saved-at i h =
      let f = table-fills b specs lens next e in
      let c : length (parts_of (take k b)) ≡ length specs = ap length parts_are ∙ cut-count lens (drop next (take k b)) ∙ f.even in
      rw (rows-kept b specs lens next k e l inside) (mended-at specs lens (parts_of (take k b)) i f.even c h)

  -- THE LAW of a column
  pub nothing-invented : {A : Type 0} (W : Way A) → WayLaws W → (i : ℕ) → i < length specs → Serves W (type_of (get_or specs i 0))
      → Kept W (get_or (columns_of b) i []) (get_or (parts_of (take k b)) i []) (get_or (saved_columns (take k b)) i [])
  unfolding Serves
  nothing-invented W L i h serves =
      let p = get_or (parts_of (take k b)) i [] in
      let w : Bool = eqb (length p) (get_or lens i 0) in
      let B : Bytes p = rw parts_are (bytes-part lens (take k b) next i (bytes_take k b bytes)) in
      let z : get_or (saved_columns (take k b)) i [] ≡ mended W w p = saved-at i h ∙ serves w p in
      rw z
      (kept W L w (get_or (columns_of b) i []) p B (there-prefix i)
      (λ q. let n : length p ≡ get_or lens i 0 = ap length q ∙ column-length i h in eq-eqb (length p) (get_or lens i 0) n))
