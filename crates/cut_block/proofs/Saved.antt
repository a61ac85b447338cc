-- THE SAVED BLOCK, of any bytes that one is saved of: the table reader accepts it, with the same specifications and the columns that were saved; and it
-- is its own salvage. Only of bytes that are so many that a saved column may have 2^64 nothing is said. Assumes nothing.
use Prim.Native.Nat.{ℕ, zero, suc, ◌*◌, ◌-◌, ◌^◌, ◌≤◌, ◌<◌}
use mathlib.Core.Path.{◌≡◌, refl, sym, ◌∙◌, ap, subst}
use mathlib.Core.List.{List, [], ◌∷◌, map}
use mathlib.Core.Bool.{Bool, true, false, cond, not}
use native.Mathlib.Decide.{dec_lt}
use native.Mathlib.Omega.{arith}
use lib.Dec.{ltb, leb, eqb}
use lib.ListN.{length, get_or, drop, length-drop, length-map, get_or-map, get_or-eq_default}
use borrow.Author.Tests.{ltb-false, eq-eqb, ne_eqb}
use Rattle.leb128.specs.Got.{Got, got, bad}
use Rattle.leb128.specs.Read.{narrow, u32_at, u64_at}
use Rattle.leb128.proofs.Cut.{u32-is}
use Rattle.leb128.proofs.Refusals.{Begun, u64-begun, u64-none}
use Rattle.column_specification.specs.Served.{integer_type, delta_type, boolean_type, text_type}
use Rattle.column_specification.specs.Specification.{type_of}
use Rattle.encoding.specs.Walk.{Ending, sound, fault}
use Rattle.encoding.proofs.Lists.{cond-by}
use Rattle.raw_column.specs.Table.{Tab, tab, faulty, in_order, plain, sum, judged, parse}
use Rattle.block_frame.specs.Columns.{cut, table_bytes}
use Rattle.block_frame.proofs.Blocks.{Reads, written-reads}
use Rattle.block_frame.proofs.Cutting.{cut-count}
use Rattle.block_frame.proofs.Tables.{Below, Proper, below-cons}
use Rattle.salvage.specs.Kept.{Bytes}
use Rattle.salvage.specs.Way.{Way, integers, deltas, booleans, names}
use Rattle.cut_block.specs.Rows.{Rows, no_rows, ahead, with_rows, rows_from, rows_of, tab_by, parts_in, parts_of}
use Rattle.cut_block.specs.Salvaged.{mended, mended_of, mended_all, saved_columns, saved_block, saved, refused, saved_by, salvaged}
use Rattle.cut_block.proofs.Blocks.{bytes-part, mended-at}
use Rattle.cut_block.proofs.Columns.{WayLaws, integers-laws, deltas-laws, booleans-laws, names-laws, mended-is, mended-whole}
use Rattle.cut_block.proofs.Rows.{parse-rows, whole_rows, rows_are, part_length}

-- ---- what is true of the rows of any bytes

with-by : (P : Rows → Type 0) (p : ℕ) (g : Got ℕ) (k : ℕ → ℕ → Rows) → ((v q : ℕ) → g ≡ got v q → P (k v q))
    → ((number place : ℕ) → g ≡ bad number place → P (no_rows p (fault number place))) → P (with_rows p g k)
with-by P p (got v q) k f h = f v q refl
with-by P p (bad number place) k f h = h number place refl

-- a fault is never 14
abbrev pub Other : Ending → Type 0
Other sound = Unit {0}
Other (fault number place) = number ≡ 14 → ⊥

u64-other : (s : List ℕ) (p number place : ℕ) → u64_at s p ≡ bad number place → number ≡ 14 → ⊥
u64-other s p number place e z = elim (dec_lt p (length s)) [
  | yes l ↦ let b = subst Begun e (u64-begun s p l) in omega (arith, b.1)
  | no l ↦
      let y : ◌≡◌ {A = Got ℕ} (bad 21 (length s)) (bad number place) = sym (u64-none s p (omega arith)) ∙ e in
      let q : 21 ≡ number = cc in
      omega arith
]

u32-other : (s : List ℕ) (p number place : ℕ) → u32_at s p ≡ bad number place → number ≡ 14 → ⊥
unfolding u32_at
u32-other s p number place e = go (u64_at s p) refl e
  where
    small : (w r : ℕ) (t : Bool) → cond t (got w r) (bad 2 p) ≡ bad number place → number ≡ 14 → ⊥
    small w r true e z = let y : ◌≡◌ {A = ℕ} 0 1 = cc in omega arith
    small w r false e z = let q : 2 ≡ number = cc in omega arith

    go : (g : Got ℕ) → u64_at s p ≡ g → narrow p g ≡ bad number place → number ≡ 14 → ⊥
    go (bad n m) h e z = let q : n ≡ number = cc in u64-other s p n m h (q ∙ z)
    go (got w r) h e z = small w r (leb w 4294967295) e z

-- as many lengths as specifications, at most n; each specification within its type
pub record Fine (n : ℕ) (r : Rows) : Type 0 where
  pub even : length r.lens ≡ length r.specs
  pub few : length r.specs ≤ n
  pub fit : Below (2 ^ 32) r.specs
  pub other : Other r.ending

fine-none : (n p : ℕ) (e : Ending) → Other e → Fine n (no_rows p e)
fine-none n p e h = record { even = refl; few = omega arith; fit = λ i. omega arith; other = h }

fine-ahead : (n spec len : ℕ) (r : Rows) → spec < 2 ^ 32 → Fine n r → Fine (suc n) (ahead spec len r)
fine-ahead n spec len r b h =
    record { even = ap suc h.even; few = omega (arith, h.few); fit = below-cons (2 ^ 32) spec r.specs b h.fit; other = h.other }

fine-rows : (n : ℕ) (s : List ℕ) (p : ℕ) → Fine n (rows_from n s p)
unfolding rows_from
fine-rows zero s p = fine-none 0 p sound tt
fine-rows (suc n) s p =
    with-by (Fine (suc n)) p (u32_at s p) _
    (λ spec q e. with-by (Fine (suc n)) p (u64_at s q) _
    (λ len r f. fine-ahead n spec len (rows_from n s r) (u32-is s p spec q e).1 (fine-rows n s r))
    (λ number place f. fine-none (suc n) p (fault number place) (u64-other s q number place f)))
    (λ number place e. fine-none (suc n) p (fault number place) (u32-other s p number place e))

fine-few : (n m : ℕ) (r : Rows) → n ≤ m → Fine n r → Fine m r
fine-few n m r l h = record { even = h.even; few = omega (arith, h.few); fit = h.fit; other = h.other }

pub fine : (s : List ℕ) → Fine 64 (rows_of s)
unfolding rows_of
fine s =
    with-by (Fine 64) 0 (u64_at s 0) _
    (λ n q e. cond-by (Fine 64) (ltb 64 n) (λ f. fine-none 64 q (fault 11 0) (λ z. omega arith))
    (λ f. fine-few n 64 (rows_from n s q) (ltb-false 64 n f) (fine-rows n s q)))
    (λ number place e. fine-none 64 0 (fault number place) (u64-other s 0 number place e))

-- ---- bytes of which a block is saved: their table is whole, in order, and has no bit 3

pub record Savable (s : List ℕ) : Type 0 where
  pub whole : (rows_of s).ending ≡ sound
  pub ordered : in_order 0 (rows_of s).specs ≡ true
  pub bare : plain (rows_of s).specs ≡ true

module _ (s block : List ℕ) where
  savable-by : (e : Ending) → (rows_of s).ending ≡ e → Other e
      → saved_by (saved_block s) (judged (length s) (tab_by (rows_of s).specs (rows_of s).lens (rows_of s).next e)) ≡ saved block → Savable s
  savable-by (fault number place) w o h =
      let z : refused number place ≡ saved block = sym (ap (λ (t : Bool). cond t (saved (saved_block s)) (refused number place)) (ne_eqb number 14 o)) ∙ h in
      let y : ◌≡◌ {A = ℕ} 0 1 = cc in
      absurd (omega arith)
  savable-by sound w o h =
      go (in_order 0 (rows_of s).specs) (plain (rows_of s).specs) (ltb (length s - (rows_of s).next) (sum (rows_of s).lens))
      (ltb (sum (rows_of s).lens) (length s - (rows_of s).next)) refl refl h
    where
      go : (a b c d : Bool) → in_order 0 (rows_of s).specs ≡ a → plain (rows_of s).specs ≡ b
          → saved_by (saved_block s) (cond (not a) (faulty 12 0) (cond (not b) (faulty 13 0) (cond c (faulty 14 0) (cond d (faulty 15 0)
          (tab (rows_of s).specs (rows_of s).lens (rows_of s).next))))) ≡ saved block → Savable s
      go false b c d i j h = let y : ◌≡◌ {A = ℕ} 0 1 = cc in absurd (omega arith)
      go true false c d i j h = let y : ◌≡◌ {A = ℕ} 0 1 = cc in absurd (omega arith)
      go true true c d i j h = record { whole = w; ordered = i; bare = j }

  pub savable : salvaged s ≡ saved block → Savable s
  unfolding salvaged
  savable h = savable-by (rows_of s).ending refl (fine s).other (ap (saved_by (saved_block s)) (sym (parse-rows s)) ∙ h)

  by-saved : (t : Tab) → saved_by (saved_block s) t ≡ saved block → block ≡ saved_block s
  by-saved (tab specs lens next) h = cc
  by-saved (faulty number place) h = go (eqb number 14) h
    where
      go : (t : Bool) → cond t (saved (saved_block s)) (refused number place) ≡ saved block → block ≡ saved_block s
      go true h = cc
      go false h = let y : ◌≡◌ {A = ℕ} 0 1 = cc in absurd (omega arith)

  pub saved-is : salvaged s ≡ saved block → block ≡ saved_block s
  unfolding salvaged
  saved-is h = by-saved (parse s) h

-- ---- the saved columns

all-count : (specs lens : List ℕ) (cs : List (List ℕ)) → length lens ≡ length specs → length cs ≡ length specs → length (mended_all specs lens cs) ≡ length specs
unfolding mended_all
all-count [] lens cs a b = refl
all-count (spec ∷ specs) [] cs a b = absurd (omega arith)
all-count (spec ∷ specs) (len ∷ lens) [] a b = absurd (omega arith)
all-count (spec ∷ specs) (len ∷ lens) (c ∷ cs) a b =
    let x : length lens ≡ length specs = omega arith in
    let y : length cs ≡ length specs = omega arith in
    ap suc (all-count specs lens cs x y)

-- a column that was salvaged stays as it is
again_by : {A : Type 0} (W : Way A) → WayLaws W → (w : Bool) (c : List ℕ) → Bytes c → mended W true (mended W w c) ≡ mended W w c
again_by W L w c B = mended-whole W L (mended W w c) (mended-is W L w c B).sound

again-of : (t : ℕ) (w : Bool) (c : List ℕ) → Bytes c → mended_of t true (mended_of t w c) ≡ mended_of t w c
unfolding mended_of
again-of t w c B = go (integer_type t) (delta_type t) (boolean_type t) (text_type t)
  where
    go : (a b d e : Bool)
        → (let x : List ℕ =
        cond a (mended integers w c) (cond b (mended deltas w c) (cond d (mended booleans w c) (cond e (mended names w c) (cond w c [])))) in
        cond a (mended integers true x) (cond b (mended deltas true x) (cond d (mended booleans true x) (cond e (mended names true x) (cond true x [])))) ≡ x)
    go true b d e = again_by integers integers-laws w c B
    go false true d e = again_by deltas deltas-laws w c B
    go false false true e = again_by booleans booleans-laws w c B
    go false false false true = again_by names names-laws w c B
    go false false false false = refl

-- and is at most 11 times as long as what is there
eleven-of : (t : ℕ) (w : Bool) (c : List ℕ) → Bytes c → length (mended_of t w c) ≤ 11 * length c
unfolding mended_of
eleven-of t w c B = go (integer_type t) (delta_type t) (boolean_type t) (text_type t) w
  where
    go : (a b d e v : Bool)
        → length (cond a (mended integers w c) (cond b (mended deltas w c) (cond d (mended booleans w c) (cond e (mended names w c) (cond v c [])))))
        ≤ 11 * length c
    go true b d e v = (mended-is integers integers-laws w c B).eleven
    go false true d e v = (mended-is deltas deltas-laws w c B).eleven
    go false false true e v = (mended-is booleans booleans-laws w c B).eleven
    go false false false true v = (mended-is names names-laws w c B).eleven
    go false false false false true = omega arith
    go false false false false false = omega arith

again-all : (specs lens : List ℕ) (cs : List (List ℕ)) → ((i : ℕ) → Bytes (get_or cs i [])) → length lens ≡ length specs → length cs ≡ length specs
    → mended_all specs (map length (mended_all specs lens cs)) (mended_all specs lens cs) ≡ mended_all specs lens cs
unfolding mended_all
again-all [] lens cs B a b = refl
again-all (spec ∷ specs) [] cs B a b = absurd (omega arith)
again-all (spec ∷ specs) (len ∷ lens) [] B a b = absurd (omega arith)
again-all (spec ∷ specs) (len ∷ lens) (c ∷ cs) B a b =
    let x : length lens ≡ length specs = omega arith in
    let y : length cs ≡ length specs = omega arith in
    let m : List ℕ = mended_of (type_of spec) (eqb (length c) len) c in
    rw (again-all specs lens cs (λ i. B (suc i)) x y, eq-eqb (length m) (length m) refl, again-of (type_of spec) (eqb (length c) len) c (B 0)) refl

-- ---- the saved block

module _ (s : List ℕ) (bytes : Below 256 s) (v : Savable s) where
  pub parts_whole : parts_of s ≡ cut (rows_of s).lens (drop (rows_of s).next s)
  unfolding parts_of
  parts_whole = rw v.whole refl

  pub parts-count : length (parts_of s) ≡ length (rows_of s).specs
  parts-count = ap length parts_whole ∙ cut-count (rows_of s).lens (drop (rows_of s).next s) ∙ (fine s).even

  pub saved-columns-at : (i : ℕ) → i < length (rows_of s).specs
      → get_or (saved_columns s) i []
      ≡ mended_of (type_of (get_or (rows_of s).specs i 0)) (eqb (length (get_or (parts_of s) i [])) (get_or (rows_of s).lens i 0)) (get_or (parts_of s) i [])
  unfolding saved_columns
  saved-columns-at i l = mended-at (rows_of s).specs (rows_of s).lens (parts_of s) i (fine s).even parts-count l

  pub saved-count : length (saved_columns s) ≡ length (rows_of s).specs
  unfolding saved_columns
  saved-count = all-count (rows_of s).specs (rows_of s).lens (parts_of s) (fine s).even parts-count

  part_bytes : (i : ℕ) → Bytes (get_or (parts_of s) i [])
  part_bytes i = rw parts_whole (bytes-part (rows_of s).lens s (rows_of s).next i bytes)

  -- there is no more of a column than there are bytes
  part-within : (i : ℕ) → length (get_or (parts_of s) i []) ≤ length s
  part-within i =
      omega (
        arith,
        ap (λ (z : List (List ℕ)). length (get_or z i [])) parts_whole,
        part_length (rows_of s).lens (drop (rows_of s).next s) i,
        length-drop (rows_of s).next s,
      )

  -- of bytes so few that no column gets longer than a table can tell
  module _ (short : 11 * length s < 2 ^ 64) where
    fits : Below (2 ^ 64) (map length (saved_columns s))
    fits i = rw (get_or-map length (saved_columns s) i []) (elim (dec_lt i (length (rows_of s).specs)) [
      | yes l ↦
          let t = type_of (get_or (rows_of s).specs i 0) in
          let p : List ℕ = get_or (parts_of s) i [] in
          rw (saved-columns-at i l) (omega (arith, eleven-of t (eqb (length p) (get_or (rows_of s).lens i 0)) p (part_bytes i), part-within i))
      | no l ↦
          let m : length (saved_columns s) ≤ i = omega (arith, saved-count) in
          rw (get_or-eq_default (saved_columns s) [] m) (omega arith)
    ])

    pub saved-proper : Proper (rows_of s).specs (map length (saved_columns s))
    saved-proper =
        let f = fine s in
        record {
          even = length-map (saved_columns s) length ∙ saved-count;
          few = f.few;
          specs-fit = f.fit;
          lens-fit = fits;
          ordered = v.ordered;
          bare = v.bare;
        }

    -- THE TABLE READER ACCEPTS IT, and its columns are those that were saved
    pub saved-reads : Reads (saved_block s) (rows_of s).specs (saved_columns s)
    unfolding saved_block
    saved-reads = written-reads (rows_of s).specs (saved_columns s) saved-proper

    saved_rows : rows_of (saved_block s)
        ≡ whole_rows (rows_of s).specs (map length (saved_columns s)) (length (table_bytes (rows_of s).specs (map length (saved_columns s))))
    saved_rows = rows_are (saved_block s) _ _ _ saved-reads.table

    saved-parts : parts_of (saved_block s) ≡ saved_columns s
    unfolding parts_of
    saved-parts = ap (parts_in (saved_block s)) saved_rows ∙ saved-reads.cuts

    columns-again : saved_columns (saved_block s) ≡ saved_columns s
    unfolding saved_columns
    columns-again =
        rw (saved-parts, saved_rows)
        (again-all (rows_of s).specs (rows_of s).lens (parts_of s) part_bytes (fine s).even parts-count)

    block-again : saved_block (saved_block s) ≡ saved_block s
    unfolding saved_block
    block-again = rw (columns-again, saved_rows) refl

    -- ITS SALVAGE IS ITSELF
    pub saved-again : salvaged (saved_block s) ≡ saved (saved_block s)
    unfolding salvaged
    saved-again = rw saved-reads.table (ap saved block-again)
