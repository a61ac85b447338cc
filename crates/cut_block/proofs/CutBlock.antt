-- THE LOSS RULED OUT, for whole blocks: one that was cut is refused, wherever it was cut (`Tables`); and where its table is there, what is saved of it is a
-- block that the table reader accepts, with the same rows, in which nothing is invented. Assumes nothing.
use Prim.Native.Nat.{ℕ, ◌*◌, ◌^◌, ◌≤◌, ◌<◌}
use mathlib.Core.Logic.{◌⊎◌, inl, inr}
use mathlib.Core.Path.{◌≡◌, refl, sym, ◌∙◌, ap}
use mathlib.Core.List.{List, []}
use mathlib.Core.Option.{Option}
use mathlib.Core.Bool.{Bool, true, false, cond, ◌||◌}
use native.Mathlib.Decide.{dec_lt}
use native.Mathlib.Omega.{arith}
use lib.Dec.{eqb}
use lib.ListN.{length, get_or, take, length-take}
use lib.Seq.{take_all}
use borrow.Author.Tests.{eqb-true, eqb-false}
use Rattle.column_specification.specs.Served.{integer_type, delta_type, boolean_type, text_type}
use Rattle.column_specification.specs.Specification.{type_of}
use Rattle.raw_column.specs.Table.{Tab, tab, faulty, parse}
use Rattle.block_frame.proofs.Blocks.{columns_of, column-is-part}
use Rattle.block_frame.proofs.Tables.{Below}
use Rattle.salvage.specs.Way.{Way, integers, deltas, booleans, names}
use Rattle.cut_block.specs.Cut.{TableNumber, Broken, due, within}
use Rattle.cut_block.specs.CutBlock.{column_at, NothingInvented, NoneMade, unread, Saves}
use Rattle.cut_block.specs.Rows.{Rows, rows_of, parts_of}
use Rattle.cut_block.specs.Salvaged.{mended_of, saved_columns, saved_block, saved, refused, saved_by, salvaged}
use Rattle.cut_block.proofs.Blocks.{Serves, serves-integers, serves-deltas, serves-booleans, serves-names, bytes_take, nothing-invented, there-whole}
use Rattle.cut_block.proofs.Blocks.{there-length, column-length, saved-at}
use Rattle.cut_block.proofs.Columns.{WayLaws, integers-laws, deltas-laws, booleans-laws, names-laws, no-absent-made}
use Rattle.cut_block.proofs.Rows.{rows-kept}
use Rattle.cut_block.proofs.Saved.{Savable, savable, saved-reads, saved-again}
use Rattle.cut_block.proofs.Tables.{cut-refused}

-- a column of a type that no call reads
unread-of : (a b d e w : Bool) (p ia ib id ie : List ℕ) → cond (a || (b || (d || e))) false true ≡ true
    → cond a ia (cond b ib (cond d id (cond e ie (cond w p [])))) ≡ cond w p []
unread-of true b d e w p ia ib id ie h = let z : ◌≡◌ {A = Bool} false true = h in let y : ◌≡◌ {A = ℕ} 0 1 = cc in absurd (omega arith)
unread-of false true d e w p ia ib id ie h = let z : ◌≡◌ {A = Bool} false true = h in let y : ◌≡◌ {A = ℕ} 0 1 = cc in absurd (omega arith)
unread-of false false true e w p ia ib id ie h = let z : ◌≡◌ {A = Bool} false true = h in let y : ◌≡◌ {A = ℕ} 0 1 = cc in absurd (omega arith)
unread-of false false false true w p ia ib id ie h = let z : ◌≡◌ {A = Bool} false true = h in let y : ◌≡◌ {A = ℕ} 0 1 = cc in absurd (omega arith)
unread-of false false false false w p ia ib id ie h = refl

unread-mended : (t : ℕ) (w : Bool) (p : List ℕ) → unread t ≡ true → mended_of t w p ≡ cond w p []
unfolding mended_of
unread-mended t w p h = unread-of (integer_type t) (delta_type t) (boolean_type t) (text_type t) w p _ _ _ _ h

-- as it was where all of it is there, and else empty
whole-or-none : (w : Bool) (c p : List ℕ) → (w ≡ true → p ≡ c) → (w ≡ false → p ≡ c → ⊥)
    → ((p ≡ c) × (cond w p [] ≡ c)) ⊎ ((p ≡ c → ⊥) × (cond w p [] ≡ []))
whole-or-none true c p f g = inl (f refl, f refl)
whole-or-none false c p f g = inr (g refl, refl)

-- ---- cut within the table: its refusal, and nothing is saved

broken-refused : (s : List ℕ) (k : ℕ) (P : ℕ → Type 0) (new : List ℕ) (t : Tab) → Broken s k P t → (number place : ℕ) → t ≡ faulty number place
    → saved_by new t ≡ refused number place
broken-refused s k P new _ (due h) number place e = let a : 21 ≡ number = cc in let b : k ≡ place = cc in rw (← a, ← b) refl
broken-refused s k P new _ (within p v q h f l m) number place e = let a : 1 ≡ number = cc in let b : p ≡ place = cc in rw (← a, ← b) refl

pub table-cut : (b specs lens : List ℕ) (next k : ℕ) → parse b ≡ tab specs lens next → k < length b → k < next → (number place : ℕ)
    → parse (take k b) ≡ faulty number place → salvaged (take k b) ≡ refused number place
unfolding salvaged
table-cut b specs lens next k e l m number place f =
    broken-refused b k (TableNumber b) (saved_block (take k b)) (parse (take k b)) ((cut-refused b specs lens next k e l).broken m) number place f

-- a block b that is accepted, of which the first k bytes are there, its table among them
module _ (b specs lens : List ℕ) (next k : ℕ) (bytes : Below 256 b) (e : parse b ≡ tab specs lens next) (l : next ≤ k) (inside : k ≤ length b) where
  -- a block is saved
  pub cut-saved : salvaged (take k b) ≡ saved (saved_block (take k b))
  unfolding salvaged
  cut-saved = elim (dec_lt k (length b)) [
    | yes m ↦ let r = (cut-refused b specs lens next k e m).short l in rw r refl
    | no m ↦
        let z : take k b ≡ b = take_all k b (omega arith) in
        let r : parse (take k b) ≡ tab specs lens next = ap parse z ∙ e in
        rw r refl
  ]

  cut-savable : Savable (take k b)
  cut-savable = savable (take k b) (saved_block (take k b)) cut-saved

  -- so few bytes that every saved column has fewer than 2^64
  module _ (short : 11 * k < 2 ^ 64) where
    few : 11 * length (take k b) < 2 ^ 64
    few = omega (arith, length-take k b)

    columns : (i : ℕ) → column_at (saved_block (take k b)) i ≡ get_or (saved_columns (take k b)) i []
    columns i =
        column-is-part (saved_block (take k b)) i
        ∙ ap (λ (z : List (List ℕ)). get_or z i []) (saved-reads (take k b) (bytes_take k b bytes) cut-savable few).read

    not-invented : {A : Type 0} (W : Way A) → WayLaws W → (serves : ℕ → Bool) → ((t : ℕ) → serves t ≡ true → Serves W t) → NothingInvented W serves b specs k
    not-invented W L serves serve i h t =
        rw (column-is-part b i, columns i) (nothing-invented b specs lens next k bytes e l inside W L i h (serve (type_of (get_or specs i 0)) t))

    none_made : {A : Type 0} (W : Way (Option A)) → WayLaws W → (serves : ℕ → Bool) → ((t : ℕ) → serves t ≡ true → Serves W t) → NoneMade W serves b specs k
    none_made W L serves serve i h t j m d q = no-absent-made (not-invented W L serves serve i h t) j m d q

    of_others : (i : ℕ) → i < length specs → unread (type_of (get_or specs i 0)) ≡ true
        → ((get_or (parts_of (take k b)) i [] ≡ column_at b i) × (column_at (saved_block (take k b)) i ≡ column_at b i))
        ⊎ ((get_or (parts_of (take k b)) i [] ≡ column_at b i → ⊥) × (column_at (saved_block (take k b)) i ≡ []))
    of_others i h t =
        let p = get_or (parts_of (take k b)) i [] in
        let w : Bool = eqb (length p) (get_or lens i 0) in
        let z : column_at (saved_block (take k b)) i ≡ cond w p [] =
        columns i ∙ saved-at b specs lens next k bytes e l inside i h ∙ unread-mended (type_of (get_or specs i 0)) w p t in
        rw (column-is-part b i, z)
        (whole-or-none w (get_or (columns_of b) i []) p
        (λ y. there-length b specs lens next k bytes e l inside i h (eqb-true (length p) (get_or lens i 0) y))
        (λ y q. eqb-false (length p) (get_or lens i 0) y (ap length q ∙ column-length b specs lens next k bytes e l inside i h)))

    -- THE LAW
    pub cut-block : Saves b specs lens next k
    cut-block =
        let B = bytes_take k b bytes in
        let r = saved-reads (take k b) B cut-savable few in
        let s : (rows_of (take k b)).specs ≡ specs = ap (λ (x : Rows). x.specs) (rows-kept b specs lens next k e l inside) in
        record {
          saves = cut-saved;
          opens = rw s at r.table;
          again = saved-again (take k b) B cut-savable few;
          there = λ i q. there-whole b specs lens next k bytes e l inside i q ∙ sym (column-is-part b i);
          of_integers = not-invented integers integers-laws integer_type serves-integers;
          of_deltas = not-invented deltas deltas-laws delta_type serves-deltas;
          of_booleans = not-invented booleans booleans-laws boolean_type serves-booleans;
          of_names = not-invented names names-laws text_type serves-names;
          of_others = of_others;
          no_integer_made = none_made integers integers-laws integer_type serves-integers;
          no_delta_made = none_made deltas deltas-laws delta_type serves-deltas;
          no_name_made = none_made names names-laws text_type serves-names;
        }
