-- The frame of a new block as the code makes it: two parts put with room between them, and one law for each way out. Assumes nothing.
use Prim.Native.Nat.{ℕ, ◌+◌, ◌-◌, ◌≤◌, ◌<◌}
use mathlib.Core.Path.{◌≡◌, sym, ap, ◌∙◌}
use mathlib.Core.List.{List, ◌++◌, append_assoc}
use native.Mathlib.Omega.{arith}
use lib.ListN.{length, get_or, set, take, drop, length-append, length-drop}
use lib.Seq.{sets-eq, take-append-add, drop-append-add, drop-drop, take_all, take-set-lt, length-take-le, get_or-take}
use borrow.Author.Tests.{lt-ltb, le-ltb, le-leb, lt-leb}
use Rattle.encoding.specs.Ahead.{PutAt}
use Rattle.raw_column.specs.Table.{tab, faulty, parse}
use Rattle.block_frame.specs.Columns.{table_bytes}
use Rattle.column_part.specs.Part.{start_of}
use Rattle.block_frame.specs.Chosen.{Chosen}
use Rattle.block_frame.specs.Frame.{shut, room, front_of, tail_of, framed, frame_of, frame_out, Frame}
use Rattle.raw_column.specs.declared.Table.{Table}
use Rattle.raw_column.proofs.Opening.{sum_to}
use Rattle.block_frame.proofs.Tables.{table-fills}

-- bytes at the front, and others behind room of a size
pub put-apart : (size : ℕ) {out mid out' : List ℕ} {at next : ℕ} {head tail : List ℕ} → PutAt out mid 0 at head → PutAt mid out' (at + size) next tail
    → length head + (size + length tail) ≤ length out → (at ≡ length head) × (out' ≡ frame_out size (room head tail) out)
put-apart size {out} {mid} {out'} {at} {next} {head} {tail} a b h =
    let n : at ≡ length head = omega (arith, a.after) in
    let D = drop (length head) out in
    let z : 0 + length head ≡ length head = omega arith in
    let m : mid ≡ head ++ D = a.bytes ∙ sets-eq head out 0 (omega arith) ∙ ap (λ (k : ℕ). head ++ drop k out) z in
    let l : length mid ≡ length out = ap length m ∙ length-append head D ∙ omega (arith, length-drop (length head) out) in
    let p : length head + size + length tail ≡ length head + (size + length tail) = omega arith in
    let t : take (at + size) mid ≡ head ++ take size D =
    ap (λ (k : ℕ). take (k + size) mid) n ∙ ap (take (length head + size)) m ∙ take-append-add head D size in
    let d : drop (at + size + length tail) mid ≡ drop (length head + (size + length tail)) out =
    ap (λ (k : ℕ). drop (k + size + length tail) mid) n ∙ ap (λ (k : ℕ). drop k mid) p ∙ ap (drop (length head + (size + length tail))) m
    ∙ drop-append-add head D (size + length tail) ∙ drop-drop (size + length tail) (length head) out in
    let o : ((head ++ take size D) ++ tail) ++ drop (length head + (size + length tail)) out ≡ frame_out size (room head tail) out = simp append_assoc in (
      n,
      b.bytes ∙ sets-eq tail mid (at + size) (omega arith)
          ∙ ap (λ (x : List ℕ). (x ++ tail) ++ drop (at + size + length tail) mid) t
          ∙ ap (λ (x : List ℕ). ((head ++ take size D) ++ tail) ++ x) d
          ∙ o,
    )

-- ---- the ways out

module _ (s : List ℕ) (position size out : ℕ) where
  pub framed-bad : {number place : ℕ} → parse s ≡ faulty number place → framed s position size out ≡ shut number place
  unfolding framed
  framed-bad e = rw e

  module _ (specs lens : List ℕ) (next : ℕ) (e : parse s ≡ tab specs lens next) where
    pub framed-16 : length specs ≤ position → framed s position size out ≡ shut 16 0
    unfolding framed
    framed-16 h = rw (e, le-ltb position (length specs) h)

    abbrev frame_len : ℕ
    frame_len = length (front_of s specs lens next position size) + (size + length (tail_of s lens next position))

    pub framed-10 : position < length specs → out < frame_len → framed s position size out ≡ shut 10 0
    unfolding framed
    framed-10 h r = rw (e, lt-ltb position (length specs) h, lt-leb frame_len out r)

    pub framed-room : position < length specs → frame_len ≤ out
        → framed s position size out ≡ room (front_of s specs lens next position size) (tail_of s lens next position)
    unfolding framed
    framed-room h r = rw (e, lt-ltb position (length specs) h, le-leb frame_len out r)

pub frame-eq : (at len size : ℕ) (head tail : List ℕ) → at ≡ length head → len ≡ length head + (size + length tail)
    → ◌≡◌ {A = Frame} (record { number = 0; place = 0; at = at; len = len }) (frame_of size (room head tail))
frame-eq at len size head tail e f =
    ap (λ (n : ℕ). record { number = 0; place = 0; at = n; len = len }) e ∙ ap (λ (n : ℕ). record { number = 0; place = 0; at = length head; len = n }) f

-- ---- a row of an accepted table, as the code has it

-- the table with the new length, and what is put before the room and behind it
abbrev pub new_table : Table → ℕ → ℕ → List ℕ
new_table table position size = table_bytes (take table.rows table.specs) (take table.rows (set table.lens position size))

-- where the row's column begins and ends in its block
abbrev pub start_in : Table → ℕ → ℕ → ℕ
start_in table next position = next + get_or table.starts position 0

abbrev pub end_in : Table → ℕ → ℕ → ℕ
end_in table next position = start_in table next position + get_or table.lens position 0

abbrev pub before : List ℕ → Table → ℕ → ℕ → ℕ → List ℕ
before s table next position size = new_table table position size ++ take (start_in table next position - next) (drop next s)

abbrev pub behind : List ℕ → Table → ℕ → ℕ → List ℕ
behind s table next position = take (length s - end_in table next position) (drop (end_in table next position) s)

module _ {s : List ℕ} {table : Table} {next position : ℕ} (g : Chosen s table next position) where
  abbrev pub S : List ℕ
  S = take table.rows table.specs

  abbrev L : List ℕ
  L = take table.rows table.lens

  pub rows_are : length S ≡ table.rows
  rows_are = length-take-le table.rows table.specs (omega (arith, g.few, g.specs_long))

  row_ends : start_of L next position + get_or L position 0 ≤ length s
  row_ends =
      let f = table-fills s S L next g.is in
      omega (arith, sum_to L position (omega (arith, f.even, rows_are, g.there)), f.whole)

  start_is : start_in table next position ≡ start_of L next position
  start_is = omega (arith, g.start)

  len_is : get_or table.lens position 0 ≡ get_or L position 0
  len_is = sym (get_or-take table.rows table.lens position 0 g.there)

  pub row_within : (next ≤ start_in table next position) × (end_in table next position ≤ length s)
  row_within = (omega (arith, start_is), omega (arith, start_is, len_is, row_ends))

  behind-is : behind s table next position ≡ tail_of s L next position
  behind-is =
      let E = end_in table next position in
      let e : E ≡ start_of L next position + get_or L position 0 = omega (arith, start_is, len_is) in
      take_all (length s - E) (drop E s) (omega (arith, length-drop E s)) ∙ ap (λ (k : ℕ). drop k s) e

  module _ (size : ℕ) where
    before_is : before s table next position size ≡ front_of s S L next position size
    before_is =
        ap (λ (l : List ℕ). table_bytes S l ++ take (start_in table next position - next) (drop next s))
        (take-set-lt table.rows table.lens position size g.there)
        ∙ ap (λ (k : ℕ). table_bytes S (set L position size) ++ take (k - next) (drop next s)) start_is

    -- the length that the code adds up, of a table of t bytes
    pub frame-length : (t : ℕ) → t ≡ length (new_table table position size)
        → t + (start_in table next position - next) + (length s - end_in table next position) + size
        ≡ length (before s table next position size) + (size + length (behind s table next position))
    frame-length t e =
        let T = new_table table position size in
        let A = start_in table next position in
        let E = end_in table next position in
        let w = row_within in
        let a : length (take (A - next) (drop next s)) ≡ A - next = length-take-le (A - next) (drop next s) (omega (arith, length-drop next s)) in
        let b : length (behind s table next position) ≡ length s - E = length-take-le (length s - E) (drop E s) (omega (arith, length-drop E s)) in
        omega (arith, length-append T (take (A - next) (drop next s)))

    module _ (out : ℕ) where
      pub frame-short : out < length (before s table next position size) + (size + length (behind s table next position))
          → framed s position size out ≡ shut 10 0
      frame-short h =
          framed-10 s position size out S L next g.is (omega (arith, rows_are, g.there)) (omega (arith, ap length before_is, ap length behind-is))

      pub frame-room : length (before s table next position size) + (size + length (behind s table next position)) ≤ out
          → framed s position size out ≡ room (before s table next position size) (behind s table next position)
      frame-room h =
          framed-room s position size out S L next g.is (omega (arith, rows_are, g.there)) (omega (arith, ap length before_is, ap length behind-is))
          ∙ ap (λ (x : List ℕ). room x (tail_of s L next position)) (sym before_is)
          ∙ ap (λ (x : List ℕ). room (before s table next position size) x) (sym behind-is)
