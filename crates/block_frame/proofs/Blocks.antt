-- Blocks as tables and columns: what is written is read back, what is accepted is what would be written, a column that is set leaves every
-- other as it was, the set column and the new table depend on no other column, and a frame around a column is the new block.
-- Assumes nothing.
use Prim.Native.Nat.{ℕ, ◌+◌, ◌-◌, ◌^◌, ◌≤◌, ◌<◌}
use mathlib.Core.Path.{◌≡◌, refl, sym, ap, ◌∙◌}
use mathlib.Core.List.{List, [], ◌++◌, append_assoc, map}
use mathlib.Core.Bool.{Bool, true, false, cond}
use native.Mathlib.Omega.{arith}
use lib.ListN.{length, get_or, set, take, drop, length-append, length-drop, length-set, take-append-drop, get_or-eq_default}
use lib.Seq.{take_at, drop_at, drop-drop, length-take-le, get_or-set_same, get_or-set_other}
use lib.Dec.{ltb, leb}
use borrow.Author.Tests.{ltb-true, ltb-false, leb-true}
use Rattle.raw_column.specs.Table.{Tab, tab, faulty, sum, parse}
use Rattle.block_frame.specs.Columns.{cut, joined, table_bytes, block_bytes, new_block}
use Rattle.column_part.specs.Part.{start_of, no_part, row_part, part_in, part_at, bytes_of}
use Rattle.block_frame.specs.Frame.{shut, room, front_of, tail_of, framed_in, framed, frame_out}
use Rattle.block_frame.proofs.Cutting.{cut-count, cut-lens, cut_at, cut-joined, joined-cut, joined_length, set-lens, set-joined}
use Rattle.block_frame.proofs.Framing.{framed-10, framed-room}
use Rattle.block_frame.proofs.Tables.{Below, Proper, below_set, table-back, table-fills, short-proper, table-only}

-- the columns of a block, read by its own table; none where that is refused
abbrev pub columns_in : List ℕ → Tab → List (List ℕ)
columns_in s (tab specs lens next) = cut lens (drop next s)
columns_in s (faulty number place) = []

unfoldable pub columns_of : List ℕ → List (List ℕ)
columns_of s = columns_in s (parse s)

pub columns-are : (s specs lens : List ℕ) (next : ℕ) → parse s ≡ tab specs lens next → columns_of s ≡ cut lens (drop next s)
unfolding columns_of
columns-are s specs lens next e = ap (columns_in s) e

-- ---- a column of the block is the part that its position has (01: "Each column is handed on as its own part of the block")

pub column-is-part : (s : List ℕ) (position : ℕ) → bytes_of s (part_at s position) ≡ get_or (columns_of s) position []
unfolding columns_of part_at
column-is-part s position = go (parse s) refl
  where
    go : (t : Tab) → parse s ≡ t → bytes_of s (part_in position t) ≡ get_or (columns_in s t) position []
    go (faulty number place) e = refl
    go (tab specs lens next) e = row (ltb position (length specs)) refl
      where
        at : take (get_or lens position 0) (drop (start_of lens next position) s) ≡ get_or (cut lens (drop next s)) position []
        at = sym (cut_at lens (drop next s) position ∙ ap (take (get_or lens position 0)) (drop-drop (sum (take position lens)) next s))

        row : (b : Bool) → ltb position (length specs) ≡ b
            → bytes_of s (cond b (row_part specs lens next position) (no_part 16 0)) ≡ get_or (cut lens (drop next s)) position []
        row true h = at
        row false h =
            let n : length (cut lens (drop next s)) ≤ position =
            omega (arith, cut-count lens (drop next s), (table-fills s specs lens next e).even, ltb-false position (length specs) h) in
            sym (get_or-eq_default (cut lens (drop next s)) [] n)

-- ---- a block that is written is read as what was written

pub record Reads (s specs : List ℕ) (columns : List (List ℕ)) : Type 0 where
  pub table : parse s ≡ tab specs (map length columns) (length (table_bytes specs (map length columns)))
  pub cuts : cut (map length columns) (drop (length (table_bytes specs (map length columns))) s) ≡ columns
  pub read : columns_of s ≡ columns

pub written-reads : (specs : List ℕ) (columns : List (List ℕ)) → Proper specs (map length columns) → Reads (block_bytes specs columns) specs columns
unfolding block_bytes
written-reads specs columns p =
    let T = table_bytes specs (map length columns) in
    let t : parse (T ++ joined columns) ≡ tab specs (map length columns) (length T) =
    table-back specs (map length columns) (joined columns) p (sym (joined_length columns)) in
    let c : cut (map length columns) (drop (length T) (T ++ joined columns)) ≡ columns =
    ap (cut (map length columns)) (drop_at T (joined columns) (length T) refl) ∙ joined-cut columns in
    record { table = t; cuts = c; read = columns-are (T ++ joined columns) specs (map length columns) (length T) t ∙ c }

-- ---- a block that is accepted is the one that would be written for its table and columns

pub record Sound (s specs lens : List ℕ) (next : ℕ) : Type 0 where
  pub proper : Proper specs lens
  pub fills : next + sum lens ≡ length s
  pub table : take next s ≡ table_bytes specs lens
  pub block : s ≡ block_bytes specs (cut lens (drop next s))

pub accepted-written : (s specs lens : List ℕ) (next : ℕ) → Below 256 s → parse s ≡ tab specs lens next → Sound s specs lens next
unfolding block_bytes
accepted-written s specs lens next bytes e =
    let f = table-fills s specs lens next e in
    let o = table-only s specs lens next bytes e in
    let d : sum lens ≡ length (drop next s) = omega (arith, f.whole, length-drop next s) in
    record {
      proper = o.0;
      fills = f.whole;
      table = o.1;
      block =
          sym (take-append-drop next s)
          ∙ ap (λ (l : List ℕ). l ++ drop next s) (o.1 ∙ ap (table_bytes specs) (sym (cut-lens lens (drop next s) (omega arith))))
          ∙ ap (λ (l : List ℕ). table_bytes specs (map length (cut lens (drop next s))) ++ l) (sym (cut-joined lens (drop next s) d));
    }

-- ---- one column set

module _ (s specs lens : List ℕ) (next : ℕ) (e : parse s ≡ tab specs lens next) (position : ℕ) (column : List ℕ) where
  set-column-lens : map length (set (cut lens (drop next s)) position column) ≡ set lens position (length column)
  set-column-lens =
      set-lens (cut lens (drop next s)) position column
      ∙ ap (λ (l : List ℕ). set l position (length column))
      (cut-lens lens (drop next s) (omega (arith, (table-fills s specs lens next e).whole, length-drop next s)))

-- the block has the old table with one new length, the new column at its position, and every other column as it was
pub record Replaced (s specs lens : List ℕ) (position : ℕ) (column block : List ℕ) : Type 0 where
  pub table : parse block ≡ tab specs (set lens position (length column)) (length (table_bytes specs (set lens position (length column))))
  pub columns : columns_of block ≡ set (columns_of s) position column
  pub chosen : get_or (columns_of block) position [] ≡ column
  pub kept : (j : ℕ) → (j ≡ position → ⊥) → get_or (columns_of block) j [] ≡ get_or (columns_of s) j []

pub others-kept : (s specs lens : List ℕ) (next position : ℕ) (column : List ℕ) → length s < 2 ^ 64 → parse s ≡ tab specs lens next
    → position < length specs → length column < 2 ^ 64 → Replaced s specs lens position column (new_block s specs lens next position column)
unfolding new_block
others-kept s specs lens next position column short e h small =
    let old = cut lens (drop next s) in
    let new = set old position column in
    let f = table-fills s specs lens next e in
    let o = short-proper s specs lens next e short in
    let l = set-column-lens s specs lens next e position column in
    let p : Proper specs (set lens position (length column)) =
    record {
      even = length-set lens position (length column) ∙ f.even;
      few = o.few;
      specs-fit = o.specs-fit;
      lens-fit = below_set (2 ^ 64) lens position (length column) o.lens-fit small;
      ordered = o.ordered;
      bare = o.bare;
    } in
    let p' : Proper specs (map length new) = rw l p in
    let r = written-reads specs new p' in
    let c : columns_of (block_bytes specs new) ≡ set (columns_of s) position column =
    r.read ∙ ap (λ (x : List (List ℕ)). set x position column) (sym (columns-are s specs lens next e)) in
    let n : position < length (columns_of s) = omega (arith, ap length (columns-are s specs lens next e), cut-count lens (drop next s), f.even) in
    record {
      table = r.table ∙ ap (λ (x : List ℕ). tab specs x (length (table_bytes specs x))) l;
      columns = c;
      chosen = ap (λ (x : List (List ℕ)). get_or x position []) c ∙ get_or-set_same (columns_of s) position column [] n;
      kept = λ j d. ap (λ (x : List (List ℕ)). get_or x j []) c ∙ get_or-set_other (columns_of s) position j column [] d;
    }

-- the same of the parts that positions have
pub parts-kept : (s specs lens : List ℕ) (position : ℕ) (column block : List ℕ) → Replaced s specs lens position column block
    → (bytes_of block (part_at block position) ≡ column)
    × ((j : ℕ) → (j ≡ position → ⊥) → bytes_of block (part_at block j) ≡ bytes_of s (part_at s j))
parts-kept s specs lens position column block r =
    (column-is-part block position ∙ r.chosen, λ j d. column-is-part block j ∙ r.kept j d ∙ sym (column-is-part s j))

-- ---- an edit of one column sees no other: two blocks of one table (and so of one length) whose columns at the position are the same, and
-- any edit of that column's bytes, end in one table and one column, each with its own other columns as they were

pub record Agree (s s' specs lens : List ℕ) (position : ℕ) (column block block' : List ℕ) : Type 0 where
  pub table : parse block ≡ tab specs (set lens position (length column)) (length (table_bytes specs (set lens position (length column))))
  pub table' : parse block' ≡ tab specs (set lens position (length column)) (length (table_bytes specs (set lens position (length column))))
  pub chosen : get_or (columns_of block) position [] ≡ column
  pub chosen' : get_or (columns_of block') position [] ≡ column
  pub kept : (j : ℕ) → (j ≡ position → ⊥) → get_or (columns_of block) j [] ≡ get_or (columns_of s) j []
  pub kept' : (j : ℕ) → (j ≡ position → ⊥) → get_or (columns_of block') j [] ≡ get_or (columns_of s') j []
  pub size : length block ≡ length block'

pub columns-agree : (edit : List ℕ → List ℕ) (s s' specs lens : List ℕ) (next position : ℕ) → length s < 2 ^ 64
    → parse s ≡ tab specs lens next → parse s' ≡ tab specs lens next → position < length specs
    → get_or (columns_of s) position [] ≡ get_or (columns_of s') position [] → length (edit (get_or (columns_of s) position [])) < 2 ^ 64
    → Agree s s' specs lens position (edit (get_or (columns_of s) position []))
    (new_block s specs lens next position (edit (get_or (columns_of s) position [])))
    (new_block s' specs lens next position (edit (get_or (columns_of s') position [])))
columns-agree edit s s' specs lens next position short e e' h same small =
    let x = edit (get_or (columns_of s) position []) in
    let q : x ≡ edit (get_or (columns_of s') position []) = ap edit same in
    let short' : length s' < 2 ^ 64 = omega (arith, (table-fills s specs lens next e).whole, (table-fills s' specs lens next e').whole) in
    let a = others-kept s specs lens next position x short e h small in
    let b = others-kept s' specs lens next position x short' e' h small in
    let f = (table-fills (new_block s specs lens next position x) _ _ _ a.table).whole in
    let g = (table-fills (new_block s' specs lens next position x) _ _ _ b.table).whole in
    rw (← q)
    (record {
      table = a.table;
      table' = b.table;
      chosen = a.chosen;
      chosen' = b.chosen;
      kept = a.kept;
      kept' = b.kept;
      size = sym f ∙ g;
    })

-- ---- a frame around a column is the new block

-- what a frame is, where it is given
framed_is : (s specs lens : List ℕ) (next position size out : ℕ) (head tail : List ℕ) → framed_in s position size out (tab specs lens next) ≡ room head tail
    → (position < length specs) × (front_of s specs lens next position size ≡ head) × (tail_of s lens next position ≡ tail)
    × (length head + (size + length tail) ≤ out)
framed_is s specs lens next position size out head tail e =
    go (ltb position (length specs)) (leb (length H + (size + length T)) out) refl refl e
  where
    H : List ℕ
    H = front_of s specs lens next position size

    T : List ℕ
    T = tail_of s lens next position

    go : (a b : Bool) → ltb position (length specs) ≡ a → leb (length H + (size + length T)) out ≡ b
        → cond a (cond b (room H T) (shut 10 0)) (shut 16 0) ≡ room head tail
        → (position < length specs) × (H ≡ head) × (T ≡ tail) × (length head + (size + length tail) ≤ out)
    go true true p q e =
        let h : H ≡ head = cc in
        let t : T ≡ tail = cc in
        (ltb-true position (length specs) p, h, t, rw (h, t) at (leb-true (length H + (size + length T)) out q))
    go true false p q e = let z : ◌≡◌ {A = ℕ} 0 1 = cc in absurd (omega arith)
    go false b p q e = let z : ◌≡◌ {A = ℕ} 0 1 = cc in absurd (omega arith)

module _ (s specs lens : List ℕ) (next : ℕ) (e : parse s ≡ tab specs lens next) (position : ℕ) (h : position < length specs) (column : List ℕ) where
  -- the new block: the new table and the earlier columns, the new column, the later columns
  pub new-block : new_block s specs lens next position column ≡ front_of s specs lens next position (length column) ++ (column ++ tail_of s lens next position)
  unfolding new_block block_bytes
  new-block =
      let f = table-fills s specs lens next e in
      let d : sum lens ≡ length (drop next s) = omega (arith, f.whole, length-drop next s) in
      let k = sum (take position lens) in
      let a : k ≡ start_of lens next position - next = omega arith in
      let b : next + (k + get_or lens position 0) ≡ start_of lens next position + get_or lens position 0 = omega arith in
      let j = set-joined lens (drop next s) position column d (omega (arith, f.even)) in
      ap (λ (l : List ℕ). table_bytes specs l ++ joined (set (cut lens (drop next s)) position column))
      (set-column-lens s specs lens next e position column)
      ∙ ap (λ (l : List ℕ). table_bytes specs (set lens position (length column)) ++ l)
      (j ∙ ap (λ (n : ℕ). take n (drop next s) ++ (column ++ drop (k + get_or lens position 0) (drop next s))) a
      ∙ ap (λ (l : List ℕ). take (start_of lens next position - next) (drop next s) ++ (column ++ l))
      (drop-drop (k + get_or lens position 0) next s ∙ ap (λ (n : ℕ). drop n s) b))
      ∙ sym (append_assoc (table_bytes specs (set lens position (length column))) (take (start_of lens next position - next) (drop next s))
      (column ++ tail_of s lens next position))

  new-length : length (new_block s specs lens next position column)
      ≡ length (front_of s specs lens next position (length column)) + (length column + length (tail_of s lens next position))
  new-length =
      let H = front_of s specs lens next position (length column) in
      let T = tail_of s lens next position in
      ap length new-block ∙ length-append H (column ++ T) ∙ ap (λ (n : ℕ). length H + n) (length-append column T)

  -- a frame is given exactly where the new block fits
  pub frame-given : (out : ℕ) → length (new_block s specs lens next position column) ≤ out
      → framed s position (length column) out ≡ room (front_of s specs lens next position (length column)) (tail_of s lens next position)
  frame-given out r = framed-room s position (length column) out specs lens next e h (omega (arith, new-length))

  pub frame_refused : (out : ℕ) → out < length (new_block s specs lens next position column) → framed s position (length column) out ≡ shut 10 0
  frame_refused out r = framed-10 s position (length column) out specs lens next e h (omega (arith, new-length))

module _ (s specs lens : List ℕ) (next position size out : ℕ) (head tail : List ℕ) (e : parse s ≡ tab specs lens next)
    (f : framed s position size out ≡ room head tail)
    (column : List ℕ) (l : length column ≡ size) where
  frame-parts : (position < length specs) × (front_of s specs lens next position size ≡ head) × (tail_of s lens next position ≡ tail) ×
      (length head + (size + length tail) ≤ out)
  unfolding framed
  frame-parts = framed_is s specs lens next position size out head tail (ap (framed_in s position size out) (sym e) ∙ f)

  -- the column put into the room makes the new block, whose length is the frame's
  pub frame-is-block : (head ++ (column ++ tail) ≡ new_block s specs lens next position column)
      × (length (new_block s specs lens next position column) ≡ length head + (size + length tail))
  frame-is-block =
      let p = frame-parts in
      let b : head ++ (column ++ tail) ≡ new_block s specs lens next position column =
      sym
      (new-block s specs lens next e position p.0 column
      ∙ ap (λ (n : ℕ). front_of s specs lens next position n ++ (column ++ tail_of s lens next position)) l
      ∙ ap (λ (x : List ℕ). x ++ (column ++ tail_of s lens next position)) p.1
      ∙ ap (λ (x : List ℕ). head ++ (column ++ x)) p.2) in (
        b,
        sym (ap length b) ∙ length-append head (column ++ tail) ∙ ap (λ (n : ℕ). length head + n)
            (length-append column tail ∙ ap (λ (n : ℕ). n + length tail) l),
      )

  -- the same in an output that has the frame: the new block at its front, the rest as it was
  pub frame-filled : (old : List ℕ) → length old ≡ out
      → take (length head) (frame_out size (room head tail) old) ++ (column ++ drop size (drop (length head) (frame_out size (room head tail) old)))
      ≡ new_block s specs lens next position column ++ drop (length (new_block s specs lens next position column)) old
  frame-filled old n =
      let p = frame-parts in
      let b = frame-is-block in
      let M = take size (drop (length head) old) in
      let D = drop (length head + (size + length tail)) old in
      let m : length M ≡ size = length-take-le size (drop (length head) old) (omega (arith, length-drop (length head) old, p.3)) in
      let d : drop size (drop (length head) (head ++ (M ++ (tail ++ D)))) ≡ tail ++ D =
      ap (drop size) (drop_at head (M ++ (tail ++ D)) (length head) refl) ∙ drop_at M (tail ++ D) size m in
      ap (λ (x : List ℕ). x ++ (column ++ drop size (drop (length head) (head ++ (M ++ (tail ++ D))))))
      (take_at head (M ++ (tail ++ D)) (length head) refl)
      ∙ ap (λ (x : List ℕ). head ++ (column ++ x)) d
      ∙ ap (λ (x : List ℕ). head ++ x) (sym (append_assoc column tail D))
      ∙ sym (append_assoc head (column ++ tail) D)
      ∙ ap (λ (x : List ℕ). x ++ D) b.0
      ∙ ap (λ (k : ℕ). new_block s specs lens next position column ++ drop k old) (sym b.1)
