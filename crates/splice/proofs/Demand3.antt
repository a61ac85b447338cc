-- DEMAND 3 OF THE CALLS. "An edit of one column depends on nothing inside the others, which keep their bytes; an accepted edit writes the
-- encoding of the old list with the range replaced." From what the public edits promise (`OptionalSpliced`, `BooleanSpliced`, `TextSpliced`) and what
-- every slice of the code is (`Lent`): `integer-demand-3`, `delta-demand-3`, `boolean-demand-3` and `text-demand-3`, proved once over the kind of
-- column. Assumes nothing.
use Prim.Native.Nat.{ℕ, ◌≤◌, ◌<◌}
use mathlib.Core.Path.{◌≡◌, refl, sym, ap, ◌∙◌}
use mathlib.Core.List.{List, [], map}
use mathlib.Core.Option.{Option, none}
use native.Mathlib.Omega.{arith}
use lib.IntN.{ℤ, pos}
use lib.ListN.{length, get_or, set, take, drop}
use lib.Seq.{take_at, drop_at}
use borrow.Author.Tests.{lt-ltb, eq-eqb}
use Rattle.leb128.specs.Answer.{Answer}
use Rattle.encoding.specs.Limit.{limit}
use Rattle.encoding.specs.Walk.{sound}
use Rattle.encoding.specs.Given.{bad_flag, slot_list}
use Rattle.encoding.proofs.Faults.{Numbered}
use Rattle.delta_decoder.proofs.Faults.{delta-numbered}
use Rattle.boolean_decoder.proofs.Faults.{boolean-numbered}
use Rattle.raw_column.specs.Table.{Tab, tab, faulty, parse}
use Rattle.column_part.specs.Part.{start_of, part_at, bytes_of}
use Rattle.block_frame.specs.Columns.{block_bytes, new_block}
use Rattle.block_frame.proofs.Blocks.{columns_of, columns-are, column-is-part}
use Rattle.slots.specs.Splice.{spliced}
use Rattle.text.specs.Given.{name_list, names_given}
use Rattle.splice.specs.Kind.{Kind}
use Rattle.splice.specs.Kinds.{integer, delta, boolean, text}
use Rattle.splice.specs.Edit.{Edited, stop, late, accepted, end_in, given_optional, given_boolean, given_text, edit_in, edited, acceptance, readings_of, answered, slots_left, out_left, Spliced}
use Rattle.splice.specs.Contract.{slot_in, flag_in, itself, starts_in, length_in, OptionalSpliced, BooleanSpliced, TextSpliced}
use Rattle.splice.specs.Lent.{Lent}
use Rattle.splice.specs.declared.End.{End}
use Rattle.splice.proofs.Isolated.{Alike, both-stop, both-late, both-accepted, alike, OnlyElsewhere}
use Rattle.splice.proofs.Isolated.{alike-answer, alike-slots, alike-behind, alike-refused}
use Rattle.splice.proofs.Isolated.{Right, accepted-right, Kept, accepted-kept}
use Rattle.splice.proofs.Numbered.{SomeStop, SomeRefused, optional-some, boolean-some, text-some, integer-numbered, text-numbered, edited-some}

-- ---- what the demand speaks of

-- the column at a position, as `column` of `column_part` hands it out
abbrev pub column_of : List ℕ → ℕ → List ℕ
column_of s j = bytes_of s (part_at s j)

-- the new block: as many bytes of the output as are answered
abbrev pub block_of : Spliced → List ℕ → List ℕ
block_of r out' = take r.len out'

-- the list that the column at a position reads as, where a range ends in it, and the same list with the range replaced
abbrev pub old_list : {A : Type 0} → Kind A → List ℕ → ℕ → List A
old_list K s position = (K.reads (column_of s position)).readings

abbrev pub range_end : {A : Type 0} → Kind A → List ℕ → ℕ → End → ℕ
range_end K s position end = end_in end (length (old_list K s position))

abbrev pub new_list : {A : Type 0} → Kind A → List ℕ → ℕ → ℕ → End → List A → List A
new_list K s position start end new = spliced (old_list K s position) start (range_end K s position end) new

-- the third sentence. The old list was read soundly, the range lies within it, and the new list within the limit; the new column is the encoding of
-- the new list; the output begins with the block whose columns are the old ones with that one in its place, and is as it was behind it; and the answer
-- is that block's
pub record Writes {A : Type 0} (K : Kind A) (s : List ℕ) (position start : ℕ) (end : End) (new : List A) (out out' : List ℕ) (r : Spliced)
    : Type 0 where
  pub specs : List ℕ
  pub lens : List ℕ
  pub next : ℕ
  pub table : parse s ≡ tab specs lens next
  pub there : position < length specs
  pub reads : (K.reads (column_of s position)).ending ≡ sound
  pub ordered : start ≤ range_end K s position end
  pub within : range_end K s position end ≤ length (old_list K s position)
  pub few : length (new_list K s position start end new) ≤ limit
  pub column : column_of (block_of r out') position ≡ K.writes (new_list K s position start end new)
  pub block : block_of r out' ≡ block_bytes specs (set (columns_of s) position (K.writes (new_list K s position start end new)))
  pub behind : drop r.len out' ≡ drop r.len out
  pub answer : r ≡ acceptance (readings_of K (new_list K s position start end new)) (block_of r out')

-- new readings that are given twice, in whatever slices: the same list, and judged alike (8, 20) beside any slots. `optional-given`, `absent-given`
-- and `names-given` below have it of another value under an absent reading's flag and of other pairs for the same names
pub record SameGiven {A S G : Type 0} (says : G → List A) (judged : G → S → Answer) (g g₂ : G) : Type 0 where
  pub readings : says g₂ ≡ says g
  pub judgement : (slots : S) → judged g₂ slots ≡ judged g slots

-- what the first sentence says of two runs: the same answer, the same left in the slots, and the same new column; where the same output was lent,
-- the same behind the new block, and after a refusal all of it
pub record Same {S : Type 0} (position : ℕ) (slots' slots₂' : S) (out out₂ out' out₂' : List ℕ) (r r₂ : Spliced) : Type 0 where
  pub answers : r ≡ r₂
  pub slots : slots' ≡ slots₂'
  pub column : column_of (block_of r out') position ≡ column_of (block_of r₂ out₂') position
  pub behind : out₂ ≡ out → drop r.len out' ≡ drop r₂.len out₂'
  pub refused : (r.number ≡ 0 → ⊥) → out₂ ≡ out → out' ≡ out₂'

-- THE DEMAND, of a run on the block s, with what it is given as new readings (g, of a type G), its slots (of a type S) and its output before and
-- after, and its answer r. `Call` is the contract of the edit at one position and range: what is left to another run is all of those
pub record DemandThree {A S G : Type 0} (K : Kind A) (position start : ℕ) (end : End) (says : G → List A) (judged : G → S → Answer)
    (Call : G → List ℕ → S → S → List ℕ → List ℕ → Spliced → Type 0) (g : G) (s : List ℕ) (slots slots' : S) (out out' : List ℕ) (r : Spliced)
    : Type 0 where
  -- "An edit of one column depends on nothing inside the others,": on a block that differs only inside them, with the same readings however they
  -- are given, the same slots and an output as long, another run is the same
  pub depends : (g₂ : G) (s₂ : List ℕ) (slots₂' : S) (out₂ out₂' : List ℕ) (r₂ : Spliced) → OnlyElsewhere s s₂ position → SameGiven says judged g g₂
      → length out₂ ≡ length out → Call g₂ s₂ slots slots₂' out₂ out₂' r₂ → Same position slots' slots₂' out out₂ out' out₂' r r₂
  -- "which keep their bytes;"
  pub keeps : r.number ≡ 0 → (j : ℕ) → (j ≡ position → ⊥) → column_of (block_of r out') j ≡ column_of s j
  -- "an accepted edit writes the encoding of the old list with the range replaced."
  pub writes : r.number ≡ 0 → Writes K s position start end (says g) out out' r

-- ---- an edit that is answered with number 0 is accepted

-- what its answer and output say of it
pub record Accepted {A : Type 0} (K : Kind A) (e : Edited A) (out out' : List ℕ) (r : Spliced) : Type 0 where
  pub old : ℕ
  pub xs : List A
  pub new : List ℕ
  pub is : e ≡ accepted old xs new
  pub block : block_of r out' ≡ new
  pub behind : drop r.len out' ≡ drop r.len out
  pub answer : r ≡ acceptance (readings_of K xs) new

pub is-accepted : {A : Type 0} (K : Kind A) (e : Edited A) (out out' : List ℕ) (r : Spliced) → SomeStop e → r ≡ answered K e → out' ≡ out_left e out
    → r.number ≡ 0 → Accepted K e out out' r
is-accepted K (stop number place) out out' r h a o z = absurd (omega (arith, ap (λ (x : Spliced). x.number) a))
is-accepted K (late number place old xs) out out' r h a o z = absurd (omega (arith, ap (λ (x : Spliced). x.number) a))
is-accepted K (accepted old xs new) out out' r h a o z =
    let l : r.len ≡ length new = ap (λ (x : Spliced). x.len) a in
    record {
      old = old;
      xs = xs;
      new = new;
      is = refl;
      block = ap (take r.len) o ∙ take_at new (drop (length new) out) r.len (sym l);
      behind = ap (drop r.len) o ∙ drop_at new (drop (length new) out) r.len (sym l) ∙ ap (λ (n : ℕ). drop n out) (sym l);
      answer = a;
    }

-- ---- the second and third sentence, of one run

part-is : (s specs lens : List ℕ) (next position : ℕ) → parse s ≡ tab specs lens next → position < length specs
    → column_of s position ≡ take (get_or lens position 0) (drop (start_of lens next position) s)
unfolding part_at
part-is s specs lens next position e h = rw (e, lt-ltb position (length specs) h)

record Sound (s : List ℕ) : Type 0 where
  specs : List ℕ
  lens : List ℕ
  next : ℕ
  is : parse s ≡ tab specs lens next

module _ {A : Type 0} (K : Kind A) (s : List ℕ) (position start : ℕ) (end : End) (given : Answer) (new : List A) (slots : ℕ)
    (out out' : List ℕ) (r : Spliced) (a : Accepted K (edited K s position start end given new slots (length out)) out out' r) where
  has-table : Sound s
  unfolding edited
  has-table = go (parse s) refl a.is
    where
      go : (t : Tab) → parse s ≡ t → edit_in K s position start end given new slots (length out) t ≡ accepted a.old a.xs a.new → Sound s
      go (tab specs lens next) e h = record { specs = specs; lens = lens; next = next; is = e }
      go (faulty number place) e h = let z : ◌≡◌ {A = ℕ} 0 1 = cc in absurd (omega arith)

  run-kept : Lent s → Lent out
      → Kept K s has-table.specs has-table.lens has-table.next position start end new (length out) (K.writes a.xs) a.new
  run-kept p q =
      let t = has-table in
      accepted-kept K s t.specs t.lens t.next position start end new (length out) slots given a.old a.xs a.new
      p.short q.short t.is a.is

  run-keeps : Lent s → Lent out → (j : ℕ) → (j ≡ position → ⊥) → column_of (block_of r out') j ≡ column_of s j
  run-keeps p q j d = ap (λ (b : List ℕ). column_of b j) a.block ∙ (run-kept p q).others j d

  run-right : Right K s has-table.specs has-table.lens has-table.next position start end new (length out) a.old a.xs a.new
  run-right =
      let t = has-table in
      accepted-right K s t.specs t.lens t.next position start end new (length out) slots given a.old a.xs a.new t.is a.is

  run-column : column_of s position ≡ take (get_or has-table.lens position 0) (drop (start_of has-table.lens has-table.next position) s)
  run-column = let t = has-table in part-is s t.specs t.lens t.next position t.is run-right.served

  run-old : length (old_list K s position) ≡ a.old
  run-old = ap (λ (x : List ℕ). length (K.reads x).readings) run-column ∙ sym run-right.size

  -- the list that it comes to
  pub run-list : a.xs ≡ new_list K s position start end new
  run-list =
      run-right.list
      ∙ ap (λ (x : List ℕ). spliced (K.reads x).readings start (end_in end a.old) new) (sym run-column)
      ∙ ap (λ (k : ℕ). spliced (old_list K s position) start (end_in end k) new) (sym run-old)

  run-writes : Lent s → Lent out → Writes K s position start end new out out' r
  unfolding new_block
  run-writes p q =
      let t = has-table in
      let w = run-right in
      record {
        specs = t.specs;
        lens = t.lens;
        next = t.next;
        table = t.is;
        there = w.served;
        reads = ap (λ (x : List ℕ). (K.reads x).ending) run-column ∙ w.sound;
        ordered = rw run-old w.ordered;
        within = rw run-old w.within;
        few = rw (← run-list) w.few;
        column = ap (λ (b : List ℕ). column_of b position) a.block ∙ (run-kept p q).chosen ∙ ap K.writes run-list;
        block =
            a.block ∙ w.block-is
            ∙ ap (λ (x : List (List ℕ)). block_bytes t.specs (set x position (K.writes a.xs)))
            (sym (columns-are s t.specs t.lens t.next t.is))
            ∙ ap (λ (x : List A). block_bytes t.specs (set (columns_of s) position (K.writes x))) run-list;
        behind = a.behind;
        answer =
            a.answer
            ∙ ap (acceptance (readings_of K a.xs)) (sym a.block)
            ∙ ap (λ (x : List A). acceptance (readings_of K x) (block_of r out')) run-list;
      }

-- ---- the first sentence, of two runs

-- what stands at the front of the output
abbrev front_of : {A : Type 0} → Edited A → List ℕ
front_of (stop number place) = []
front_of (late number place old xs) = []
front_of (accepted old xs block) = block

front-is : {A : Type 0} (K : Kind A) (e : Edited A) (out out' : List ℕ) (r : Spliced) → r ≡ answered K e → out' ≡ out_left e out → block_of r out' ≡ front_of e
front-is K (stop number place) out out' r a o = ap (λ (x : Spliced). take x.len out') a
front-is K (late number place old xs) out out' r a o = ap (λ (x : Spliced). take x.len out') a
front-is K (accepted old xs block) out out' r a o =
    ap (λ (x : Spliced). take x.len out') a ∙ ap (take (length block)) o ∙ take_at block (drop (length block) out) (length block) refl

one-column : {A : Type 0} {K : Kind A} {s s₂ specs lens : List ℕ} {position : ℕ} {e e₂ : Edited A} → Alike K s s₂ specs lens position e e₂
    → column_of (front_of e) position ≡ column_of (front_of e₂) position
one-column (both-stop number place) = refl
one-column (both-late number place old xs) = refl
one-column {position = position} (both-accepted old xs block block₂ a) =
    column-is-part block position ∙ a.chosen ∙ sym (column-is-part block₂ position ∙ a.chosen')

-- ---- in one, over the kind of column: an edit whose answer, slots and output are those of `edited`, its refusals and its count of slots by the
-- slots that it is lent

module _ {A S G : Type 0} (K : Kind A) (numbered : (c : List ℕ) → Numbered (K.reads c).ending) (position start : ℕ) (end : End) (says : G → List A)
    (judged : G → S → Answer) (judged-some : (g : G) (slots : S) → SomeRefused (judged g slots)) (count : S → ℕ) (left : S → Edited A → S)
    (one_left : (s s₂ specs lens : List ℕ) (e e₂ : Edited A) (slots : S) → Alike K s s₂ specs lens position e e₂ → left slots e ≡ left slots e₂) where
  abbrev edit_of : G → List ℕ → S → ℕ → Edited A
  edit_of g s slots room = edited K s position start end (judged g slots) (says g) (count slots) room

  record Run (g : G) (s : List ℕ) (slots slots' : S) (out out' : List ℕ) (r : Spliced) : Type 0 where
    answer : r ≡ answered K (edit_of g s slots (length out))
    slots-are : slots' ≡ left slots (edit_of g s slots (length out))
    output : out' ≡ out_left (edit_of g s slots (length out)) out

  module _ (Call : G → List ℕ → S → S → List ℕ → List ℕ → Spliced → Type 0)
      (ran : (g : G) (s : List ℕ) (slots slots' : S) (out out' : List ℕ) (r : Spliced) → Call g s slots slots' out out' r
      → Run g s slots slots' out out' r) where
    demand : (g : G) (s : List ℕ) (slots slots' : S) (out out' : List ℕ) (r : Spliced) → Lent s → Lent out → Call g s slots slots' out out' r
        → DemandThree K position start end says judged Call g s slots slots' out out' r
    demand g s slots slots' out out' r p q c =
        let R = ran g s slots slots' out out' r c in
        let some = edited-some K numbered start end (says g) (count slots) (length out) s position (judged g slots) (judged-some g slots) in
        let took : r.number ≡ 0 → Accepted K (edit_of g s slots (length out)) out out' r =
        is-accepted K (edit_of g s slots (length out)) out out' r some R.answer R.output in
        record {
          depends = λ g₂ s₂ slots₂' out₂ out₂' r₂ o d n c₂. two g₂ s₂ slots₂' out₂ out₂' r₂ o d n R (ran g₂ s₂ slots slots₂' out₂ out₂' r₂ c₂);
          keeps = λ z. run-keeps K s position start end (judged g slots) (says g) (count slots) out out' r (took z) p q;
          writes = λ z. run-writes K s position start end (judged g slots) (says g) (count slots) out out' r (took z) p q;
        }
      where
        two : (g₂ : G) (s₂ : List ℕ) (slots₂' : S) (out₂ out₂' : List ℕ) (r₂ : Spliced) → OnlyElsewhere s s₂ position → SameGiven says judged g g₂
            → length out₂ ≡ length out → Run g s slots slots' out out' r → Run g₂ s₂ slots slots₂' out₂ out₂' r₂
            → Same position slots' slots₂' out out₂ out' out₂' r r₂
        two g₂ s₂ slots₂' out₂ out₂' r₂ o d n R R₂ =
            let e = edit_of g s slots (length out) in
            let e₂ = edit_of g₂ s₂ slots (length out₂) in
            let k : Alike K s s₂ o.specs o.lens position e e₂ =
            rw (n, d.readings, d.judgement slots)
            (alike K s s₂ position start end (judged g slots) (says g) (count slots) (length out) o p.bytes p.short q.short) in
            record {
              answers = R.answer ∙ alike-answer k ∙ sym R₂.answer;
              slots = R.slots-are ∙ one_left s s₂ o.specs o.lens e e₂ slots k ∙ sym R₂.slots-are;
              column =
                  ap (λ (b : List ℕ). column_of b position) (front-is K e out out' r R.answer R.output)
                  ∙ one-column k
                  ∙ sym (ap (λ (b : List ℕ). column_of b position) (front-is K e₂ out₂ out₂' r₂ R₂.answer R₂.output));
              behind = λ m.
                  ap (λ (x : Spliced). drop x.len out') R.answer
                  ∙ ap (drop (answered K e).len) R.output
                  ∙ alike-behind out k
                  ∙ ap (λ (x : List ℕ). drop (answered K e₂).len (out_left e₂ x)) (sym m)
                  ∙ sym (ap (λ (x : Spliced). drop x.len out₂') R₂.answer ∙ ap (drop (answered K e₂).len) R₂.output);
              refused = λ z m.
                  R.output
                  ∙ alike-refused out k (λ y. z (ap (λ (x : Spliced). x.number) R.answer ∙ y))
                  ∙ ap (out_left e₂) (sym m)
                  ∙ sym R₂.output;
            }

-- ---- optional readings: they are given as values with presence bytes, and so are the slots

abbrev pub optional_says : {A : Type 0} → (List A × List ℕ) → List (Option A)
optional_says g = slot_list g.0 g.1

abbrev pub optional_judged : {A : Type 0} → (List A × List ℕ) → (List A × List ℕ) → Answer
optional_judged g slots = given_optional (length slots.0) (length slots.1) (length g.0) g.1

-- the contract of an edit at one position and range
abbrev pub OptionalCall : {A : Type 0} → Kind (Option A) → A → ℕ → ℕ → End → (List A × List ℕ)
    → List ℕ → (List A × List ℕ) → (List A × List ℕ) → List ℕ → List ℕ → Spliced → Type 0
OptionalCall K nought position start end g s slots slots' out out' r =
    OptionalSpliced K nought s position start end g.0 g.1 slots.0 slots'.0 slots.1 slots'.1 out out' r

module _ {A : Type 0} (new new₂ : List A) where
  -- good lists that say the same readings
  pub optional-given : (flags flags₂ : List ℕ) → length new ≡ length flags → bad_flag 0 flags ≡ none → length new₂ ≡ length flags₂
      → bad_flag 0 flags₂ ≡ none → slot_list new₂ flags₂ ≡ slot_list new flags → SameGiven optional_says optional_judged (new, flags) (new₂, flags₂)
  unfolding given_optional
  optional-given flags flags₂ l b l₂ b₂ e =
      record { readings = e; judgement = λ z. rw (eq-eqb (length new) (length flags) l, b, eq-eqb (length new₂) (length flags₂) l₂, b₂) }

  -- another value where none is present: with the same presence bytes, refused ones too
  pub absent-given : (flags : List ℕ) → length new₂ ≡ length new → slot_list new₂ flags ≡ slot_list new flags
      → SameGiven optional_says optional_judged (new, flags) (new₂, flags)
  absent-given flags l e = record { readings = e; judgement = λ z. rw l }

-- the demand, of an edit of optional readings
pub optional-demand-3 : {A : Type 0} (K : Kind (Option A)) → ((c : List ℕ) → Numbered (K.reads c).ending)
    → (nought : A) (s : List ℕ) (position start : ℕ) (end : End) (new : List A) (flags : List ℕ) (v v' : List A) (p p' out out' : List ℕ)
    (r : Spliced) → Lent s → Lent out → OptionalSpliced K nought s position start end new flags v v' p p' out out' r
    → DemandThree K position start end optional_says optional_judged (OptionalCall K nought position start end) (new, flags) s (v, p) (v', p') out out' r
optional-demand-3 {A} K numbered nought s position start end new flags v v' p p' out out' r =
    demand K numbered position start end optional_says optional_judged
    (λ g z. optional-some (length z.0) (length z.1) (length g.0) g.1)
    (λ z. length z.0) (λ z e. (slots_left nought (map (slot_in nought)) e z.0, slots_left 0 (map flag_in) e z.1))
    (λ s s₂ specs lens e e₂ z k. pair (alike-slots nought (map (slot_in nought)) z.0 k) (alike-slots 0 (map flag_in) z.1 k))
    (OptionalCall K nought position start end)
    (λ g s z z' out out' r c. record { answer = c.answer; slots-are = pair c.values c.presence; output = c.output })
    (new, flags) s (v, p) (v', p') out out' r
  where
    pair : {x x₂ : List A} {y y₂ : List ℕ} → x ≡ x₂ → y ≡ y₂ → ◌≡◌ {A = List A × List ℕ} (x, y) (x₂, y₂)
    pair e f = cc

pub integer-demand-3 : (s : List ℕ) (position start : ℕ) (end : End) (new flags v v' p p' out out' : List ℕ) (r : Spliced) → Lent s → Lent out
    → OptionalSpliced integer 0 s position start end new flags v v' p p' out out' r
    → DemandThree integer position start end optional_says optional_judged (OptionalCall integer 0 position start end) (new, flags)
    s (v, p) (v', p') out out' r
integer-demand-3 = optional-demand-3 integer integer-numbered 0

pub delta-demand-3 : (s : List ℕ) (position start : ℕ) (end : End) (new : List ℤ) (flags : List ℕ) (v v' : List ℤ) (p p' out out' : List ℕ)
    (r : Spliced) → Lent s → Lent out → OptionalSpliced delta (pos 0) s position start end new flags v v' p p' out out' r
    → DemandThree delta position start end optional_says optional_judged (OptionalCall delta (pos 0) position start end) (new, flags)
    s (v, p) (v', p') out out' r
delta-demand-3 = optional-demand-3 delta delta-numbered (pos 0)

-- ---- booleans: they are given as one slice, which is the list, and so are the slots

abbrev pub boolean_judged : List ℕ → List ℕ → Answer
boolean_judged new slots = given_boolean new

abbrev pub BooleanCall : Kind ℕ → ℕ → ℕ → End → List ℕ → List ℕ → List ℕ → List ℕ → List ℕ → List ℕ → Spliced → Type 0
BooleanCall K position start end new s v v' out out' r = BooleanSpliced K s position start end new v v' out out' r

pub boolean-demand-3 : (s : List ℕ) (position start : ℕ) (end : End) (new v v' out out' : List ℕ) (r : Spliced) → Lent s → Lent out
    → BooleanSpliced boolean s position start end new v v' out out' r
    → DemandThree boolean position start end itself boolean_judged (BooleanCall boolean position start end) new s v v' out out' r
boolean-demand-3 s position start end new v v' out out' r =
    demand boolean boolean-numbered position start end itself boolean_judged
    (λ g z. boolean-some g) (λ z. length z) (λ z e. slots_left 0 itself e z)
    (λ s s₂ specs lens e e₂ z k. alike-slots 0 itself z k)
    (BooleanCall boolean position start end)
    (λ g s z z' out out' r c. record { answer = c.answer; slots-are = c.values; output = c.output })
    new s v v' out out' r

-- ---- names: they are given as bytes with starts, lengths and presence bytes, and the slots are the last three

abbrev pub text_says : (List ℕ × List ℕ × List ℕ × List ℕ) → List (Option (List ℕ))
text_says g = name_list g.0 g.1 g.2 g.3

abbrev pub text_judged : (List ℕ × List ℕ × List ℕ × List ℕ) → (List ℕ × List ℕ × List ℕ) → Answer
text_judged g slots = given_text (length slots.0) (length slots.1) (length slots.2) g.0 g.1 g.2 g.3

abbrev pub TextCall : ℕ → ℕ → End → (List ℕ × List ℕ × List ℕ × List ℕ)
    → List ℕ → (List ℕ × List ℕ × List ℕ) → (List ℕ × List ℕ × List ℕ) → List ℕ → List ℕ → Spliced → Type 0
TextCall position start end g s slots slots' out out' r =
    TextSpliced text s position start end g.0 g.1 g.2 g.3
    slots.0 slots'.0 slots.1 slots'.1 slots.2 slots'.2 out out' r

-- the same names by other pairs, of other bytes: good lists, which are both judged 0, and ones that are refused alike
pub names-given : (b starts lens flags b₂ starts₂ lens₂ flags₂ : List ℕ) → names_given b₂ starts₂ lens₂ flags₂ ≡ names_given b starts lens flags
    → name_list b₂ starts₂ lens₂ flags₂ ≡ name_list b starts lens flags
    → SameGiven text_says text_judged (b, starts, lens, flags) (b₂, starts₂, lens₂, flags₂)
unfolding given_text
names-given b starts lens flags b₂ starts₂ lens₂ flags₂ j e = record { readings = e; judgement = λ z. rw j }

pub text-demand-3 : (s : List ℕ) (position start : ℕ) (end : End) (bytes newStarts newLens newFlags a a' l l' p p' out out' : List ℕ) (r : Spliced)
    → Lent s → Lent out → TextSpliced text s position start end bytes newStarts newLens newFlags a a' l l' p p' out out' r
    → DemandThree text position start end text_says text_judged (TextCall position start end) (bytes, newStarts, newLens, newFlags)
    s (a, l, p) (a', l', p') out out' r
text-demand-3 s position start end bytes newStarts newLens newFlags a a' l l' p p' out out' r =
    demand text text-numbered position start end text_says text_judged
    (λ g z. text-some (length z.0) (length z.1) (length z.2) g.0 g.1 g.2 g.3)
    (λ z. length z.0)
    (λ z e. (slots_left 0 starts_in e z.0, slots_left 0 (map length_in) e z.1, slots_left 0 (map flag_in) e z.2))
    (λ s s₂ specs lens e e₂ z k. three (alike-slots 0 starts_in z.0 k) (alike-slots 0 (map length_in) z.1 k) (alike-slots 0 (map flag_in) z.2 k))
    (TextCall position start end)
    (λ g s z z' out out' r c. record { answer = c.answer; slots-are = three c.starts c.lens c.presence; output = c.output })
    (bytes, newStarts, newLens, newFlags) s (a, l, p) (a', l', p') out out' r
  where
    three : {x x₂ y y₂ w w₂ : List ℕ} → x ≡ x₂ → y ≡ y₂ → w ≡ w₂ → ◌≡◌ {A = List ℕ × List ℕ × List ℕ} (x, y, w) (x₂, y₂, w₂)
    three e f g = cc
