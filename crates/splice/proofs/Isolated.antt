-- Demand 3 of the definitions that the edits' contracts equal, once for every kind of column: the same edit of two blocks that differ only
-- elsewhere comes to the same; what an accepted edit writes, and that it keeps every other column. Of the calls: Demand3.antt. Assumes nothing.
use Prim.Native.Nat.{ℕ, ◌+◌, ◌-◌, ◌^◌, ◌≤◌, ◌<◌, min, max}
use mathlib.Core.Path.{◌≡◌, refl, sym, ap, ◌∙◌, subst}
use mathlib.Core.List.{List, [], ◌++◌}
use mathlib.Core.Option.{Option, none, some}
use mathlib.Core.Bool.{Bool, true, false, cond}
use native.Mathlib.Omega.{arith}
use lib.Seq.{drop-drop, drop_at, length-take-le}
use lib.ListN.{length, get_or, set, take, drop, length-append, length-take, length-drop, take-append-drop}
use lib.Dec.{ltb, leb}
use borrow.Author.Tests.{ltb-true, leb-true, ltb-false}
use Rattle.leb128.specs.Answer.{Answer, done, refused}
use Rattle.encoding.specs.Limit.{limit}
use Rattle.encoding.specs.Walk.{Ending, fault, outcome_of, outcome}
use Rattle.encoding.proofs.Lists.{cond-by}
use Rattle.raw_column.specs.Table.{Tab, tab, faulty, sum, parse}
use Rattle.block_frame.specs.Columns.{table_bytes, new_block}
use Rattle.column_part.specs.Part.{start_of, part_at, bytes_of}
use Rattle.raw_column.specs.Rows.{opened}
use Rattle.block_frame.specs.Frame.{front_of, tail_of}
use Rattle.block_frame.proofs.Blocks.{columns_of, Replaced, columns-are, Agree, columns-agree, new-block, accepted-written, others-kept, parts-kept}
use Rattle.block_frame.proofs.Cutting.{cut_at}
use Rattle.block_frame.proofs.Tables.{Below, table-fills, table-back}
use Rattle.slots.specs.Splice.{spliced}
use Rattle.splice.specs.Kind.{Kind}
use Rattle.splice.specs.Edit.{Edited, stop, late, accepted, end_in, below, serves, refuses, finished, edit_list, read_by, edit_column, edit_in, edited}
use Rattle.splice.specs.Edit.{readings_of, answered, slots_left, out_left}
use Rattle.splice.specs.declared.End.{End}
use Rattle.splice.proofs.Planning.{in_order}
use Rattle.splice.proofs.Refusing.{refuses-by}

-- the column at a position, as an edit takes it
abbrev column_at : List ℕ → List ℕ → ℕ → ℕ → List ℕ
column_at s lens next position = take (get_or lens position 0) (drop (start_of lens next position) s)

-- two edits come to the same: the same refusal, the same list in the slots; and where they are accepted, the same new table and the same new
-- column in both new blocks, which is what `writes` gives for that list, and in each of them every other column as it was in its own block
pub data Alike {A : Type 0} (K : Kind A) (s s' specs lens : List ℕ) (position : ℕ) : Edited A → Edited A → Type 0 where
  both-stop : (number place : ℕ) → Alike K s s' specs lens position (stop number place) (stop number place)
  both-late : (number place old : ℕ) (xs : List A) → Alike K s s' specs lens position (late number place old xs) (late number place old xs)
  both-accepted : (old : ℕ) (xs : List A) (block block' : List ℕ) → Agree s s' specs lens position (K.writes xs) block block'
      → Alike K s s' specs lens position (accepted old xs block) (accepted old xs block')

alike-if : {A : Type 0} {K : Kind A} {s s' specs lens : List ℕ} {position : ℕ} (t : Bool) {x x' y y' : Edited A}
    → (t ≡ true → Alike K s s' specs lens position x x') → (t ≡ false → Alike K s s' specs lens position y y')
    → Alike K s s' specs lens position (cond t x y) (cond t x' y')
alike-if true f g = f refl
alike-if false f g = g refl

refuses-alike : {A : Type 0} {K : Kind A} {s s' specs lens : List ℕ} {position : ℕ} (number place old : ℕ) (xs : List A)
    → Alike K s s' specs lens position (refuses K number place old xs) (refuses K number place old xs)
refuses-alike {K = K} number place old xs = alike-if K.keeps (λ e. both-stop number place) (λ e. both-late number place old xs)

-- two blocks of one sound table that agree on the column at a position
module _ {A : Type 0} (K : Kind A) (s s' specs lens : List ℕ) (next position : ℕ) (short : length s < 2 ^ 64)
    (sound : parse s ≡ tab specs lens next) (sound' : parse s' ≡ tab specs lens next) (row : position < length specs)
    (same : column_at s lens next position ≡ column_at s' lens next position) where
  one-length : length s ≡ length s'
  one-length = sym (table-fills s specs lens next sound).whole ∙ (table-fills s' specs lens next sound').whole

  is-column : (t : List ℕ) → parse t ≡ tab specs lens next → get_or (columns_of t) position [] ≡ column_at t lens next position
  is-column t e =
      ap (λ (x : List (List ℕ)). get_or x position []) (columns-are t specs lens next e)
      ∙ cut_at lens (drop next t) position
      ∙ ap (take (get_or lens position 0)) (drop-drop (sum (take position lens)) next t)

  same-columns : get_or (columns_of s) position [] ≡ get_or (columns_of s') position []
  same-columns = is-column s sound ∙ same ∙ sym (is-column s' sound')

  -- the new blocks are of one length, whatever the new column
  block_size : (t : List ℕ) → parse t ≡ tab specs lens next → (column : List ℕ)
      → length (new_block t specs lens next position column)
      ≡ length (table_bytes specs (set lens position (length column))) + min (start_of lens next position - next) (length t - next)
      + (length column + (length t - (start_of lens next position + get_or lens position 0)))
  block_size t e column =
      let T = table_bytes specs (set lens position (length column)) in
      let h = take (start_of lens next position - next) (drop next t) in
      let z = tail_of t lens next position in
      ap length (new-block t specs lens next e position row column)
      ∙ omega (
        arith,
        length-append (T ++ h) (column ++ z),
        length-append T h,
        length-append column z,
        length-take (start_of lens next position - next) (drop next t),
        length-drop next t,
        length-drop (start_of lens next position + get_or lens position 0) t,
      )

  same_size : (column : List ℕ) → length (new_block s specs lens next position column) ≡ length (new_block s' specs lens next position column)
  same_size column = block_size s sound column ∙ rw (one-length) refl ∙ sym (block_size s' sound' column)

  column-within : (column : List ℕ) → length column ≤ length (new_block s specs lens next position column)
  column-within column = omega (arith, block_size s sound column)

  module _ (room : ℕ) (fits : room < 2 ^ 64) where
    finished-alike : (old : ℕ) (xs : List A) (w : Option ℕ)
        → Alike K s s' specs lens position
        (finished K old xs room (new_block s specs lens next position) w) (finished K old xs room (new_block s' specs lens next position) w)
    finished-alike old xs (some i) = refuses-alike 7 i old xs
    finished-alike old xs none =
        let c = K.writes xs in
        rw (← same_size c)
        (alike-if (leb (length (new_block s specs lens next position c)) room)
        (λ e. both-accepted old xs _ _ (columns-agree (λ x. c) s s' specs lens next position short sound sound' row same-columns
        (omega (arith, leb-true (length (new_block s specs lens next position c)) room e, column-within c))))
        (λ e. refuses-alike 10 0 old xs))

    read_alike : (o : Answer) (old : List A) (start : ℕ) (end : End) (new : List A) (slots : ℕ)
        → Alike K s s' specs lens position
        (read_by K o old (λ old. edit_list K old start end new slots room (new_block s specs lens next position)))
        (read_by K o old (λ old. edit_list K old start end new slots room (new_block s' specs lens next position)))
    read_alike (refused number place) old start end new slots = both-stop number place
    read_alike (done n) old start end new slots =
        let xs = spliced old start (end_in end (length old)) new in
        alike-if (ltb (length old) start) (λ e. both-stop 18 0)
        (λ e. alike-if (ltb (length old) (end_in end (length old))) (λ e. both-stop 18 0)
        (λ e. alike-if (ltb limit (length xs)) (λ e. both-stop 5 0)
        (λ e. alike-if (ltb slots (max (length old) (length xs))) (λ e. both-stop 9 0)
        (λ e. finished-alike (length old) xs (K.wide xs)))))

    column-alike : (column : List ℕ) (start : ℕ) (end : End) (given : Answer) (new : List A) (slots : ℕ)
        → Alike K s s' specs lens position
        (edit_column K column start end given new slots room (new_block s specs lens next position))
        (edit_column K column start end given new slots room (new_block s' specs lens next position))
    column-alike column start end (refused number place) new slots = both-stop number place
    column-alike column start end (done g) new slots = read_alike (outcome (K.reads column)) (K.reads column).readings start end new slots

    -- THE SAME EDIT OF BOTH comes to the same
    pub isolated : (start : ℕ) (end : End) (given : Answer) (new : List A) (slots : ℕ)
        → Alike K s s' specs lens position (edited K s position start end given new slots room) (edited K s' position start end given new slots room)
    unfolding edited
    isolated start end given new slots =
        rw (sound, sound')
        (alike-if (ltb position (length specs))
        (λ e. rw same
        (alike-if (serves K.kind (get_or specs position 0))
        (λ e. alike-if (below start end) (λ e. both-stop 18 0) (λ e. column-alike (column_at s' lens next position) start end given new slots))
        (λ e. both-stop 17 0)))
        (λ e. both-stop 16 0))

-- ---- blocks of one length that differ only inside other columns have one table

pub one_table : (s s' specs lens : List ℕ) (next : ℕ) → Below 256 s → parse s ≡ tab specs lens next → length s' ≡ length s
    → take next s' ≡ take next s → parse s' ≡ tab specs lens next
one_table s s' specs lens next bytes e l t =
    let o = accepted-written s specs lens next bytes e in
    let T = table_bytes specs lens in
    let d : sum lens ≡ length (drop next s') = omega (arith, o.fills, length-drop next s') in
    let n : length T ≡ next = sym (ap length o.table) ∙ length-take-le next s (omega (arith, o.fills)) in
    ap parse (sym (take-append-drop next s') ∙ ap (λ (x : List ℕ). x ++ drop next s') (t ∙ o.table))
    ∙ table-back specs lens (drop next s') o.proper d
    ∙ ap (tab specs lens) n

-- ---- what an accepted edit writes

module _ {A : Type 0} (K : Kind A) (s specs lens : List ℕ) (next position start : ℕ) (end : End) (new : List A) (room : ℕ) where
  -- the old list, by the definition of reading, with the range replaced; and the column of the new block, by that of writing
  pub record Right (old : ℕ) (xs : List A) (block : List ℕ) : Type 0 where
    pub sound : (K.reads (column_at s lens next position)).ending ≡ Ending.sound
    pub size : old ≡ length (K.reads (column_at s lens next position)).readings
    pub ordered : start ≤ end_in end old
    pub within : end_in end old ≤ old
    pub list : xs ≡ spliced (K.reads (column_at s lens next position)).readings start (end_in end old) new
    pub few : length xs ≤ limit
    pub narrow : K.wide xs ≡ none
    pub block-is : block ≡ new_block s specs lens next position (K.writes xs)
    pub served : position < length specs
    pub kind-is : serves K.kind (get_or specs position 0) ≡ true
    pub fits : length block ≤ room

  abbrev RightIn : Edited A → Type 0
  RightIn (stop number place) = Unit {0}
  RightIn (late number place old xs) = Unit {0}
  RightIn (accepted old xs block) = Right old xs block

  right-list : (slots : ℕ) → position < length specs → serves K.kind (get_or specs position 0) ≡ true → below start end ≡ false → (K.reads (column_at s lens next position)).ending ≡ Ending.sound
      → RightIn (edit_list K (K.reads (column_at s lens next position)).readings start end new slots room (new_block s specs lens next position))
  right-list slots row kind n e =
      let old = (K.reads (column_at s lens next position)).readings in
      let xs = spliced old start (end_in end (length old)) new in
      cond-by RightIn (ltb (length old) start) (λ h. tt)
      (λ a. cond-by RightIn (ltb (length old) (end_in end (length old))) (λ b. tt)
      (λ b. cond-by RightIn (ltb limit (length xs)) (λ h. tt)
      (λ c. cond-by RightIn (ltb slots (max (length old) (length xs))) (λ h. tt)
      (λ h. go (in_order (length old) start end n (ltb-false (length old) start a)) (ltb-false (length old) (end_in end (length old)) b)
      (ltb-false limit (length xs) c) (K.wide xs) refl))))
    where
      go : let n = length (K.reads (column_at s lens next position)).readings in start ≤ end_in end n → end_in end n ≤ n
          → let old = (K.reads (column_at s lens next position)).readings in let xs = spliced old start (end_in end (length old)) new in
          length xs ≤ limit → (w : Option ℕ) → K.wide xs ≡ w → RightIn (finished K (length old) xs room (new_block s specs lens next position) w)
      go a b c (some i) m =
          let old = (K.reads (column_at s lens next position)).readings in
          let xs = spliced old start (end_in end (length old)) new in
          refuses-by K 7 i (length old) xs RightIn tt tt
      go a b c none m =
          let old = (K.reads (column_at s lens next position)).readings in
          let xs = spliced old start (end_in end (length old)) new in
          cond-by RightIn (leb (length (new_block s specs lens next position (K.writes xs))) room)
          (λ h. record {
            sound = e;
            size = refl;
            ordered = a;
            within = b;
            list = refl;
            few = c;
            narrow = m;
            block-is = refl;
            served = row;
            kind-is = kind;
            fits = leb-true (length (new_block s specs lens next position (K.writes xs))) room h;
          })
          (λ h. refuses-by K 10 0 (length old) xs RightIn tt tt)

  right-column : (slots : ℕ) (given : Answer) → position < length specs → serves K.kind (get_or specs position 0) ≡ true → below start end ≡ false
      → RightIn (edit_column K (column_at s lens next position) start end given new slots room (new_block s specs lens next position))
  unfolding outcome outcome_of
  right-column slots (refused number place) row kind n = tt
  right-column slots (done g) row kind n = go (K.reads (column_at s lens next position)).ending refl
    where
      go : (x : Ending) → (K.reads (column_at s lens next position)).ending ≡ x
          → RightIn (read_by K (outcome_of (length (K.reads (column_at s lens next position)).readings) x)
          (K.reads (column_at s lens next position)).readings
          (λ old. edit_list K old start end new slots room (new_block s specs lens next position)))
      go Ending.sound e = right-list slots row kind n e
      go (fault number place) e = tt

  right-in : (slots : ℕ) (given : Answer) → RightIn (edit_in K s position start end given new slots room (tab specs lens next))
  right-in slots given =
      cond-by RightIn (ltb position (length specs))
      (λ h. cond-by RightIn (serves K.kind (get_or specs position 0))
      (λ h'. cond-by RightIn (below start end) (λ h''. tt) (λ n. right-column slots given (ltb-true position (length specs) h) h' n))
      (λ h'. tt)) (λ h. tt)

  pub accepted-right : (slots : ℕ) (given : Answer) (old : ℕ) (xs : List A) (block : List ℕ) → parse s ≡ tab specs lens next
      → edited K s position start end given new slots room ≡ accepted old xs block → Right old xs block
  unfolding edited
  accepted-right slots given old xs block e h =
      subst RightIn (ap (edit_in K s position start end given new slots room) (sym e) ∙ h) (right-in slots given)

  -- and that the new readings were good
  abbrev Barred : Edited A → Type 0
  Barred (stop number place) = Unit {0}
  Barred (late number place old xs) = Unit {0}
  Barred (accepted old xs block) = ⊥

  barred : (slots number place : ℕ) (t : Tab) → Barred (edit_in K s position start end (refused number place) new slots room t)
  barred slots number place (faulty n p) = tt
  barred slots number place (tab specs lens next) =
      cond-by Barred (ltb position (length specs))
      (λ h. cond-by Barred (serves K.kind (get_or specs position 0)) (λ h. cond-by Barred (below start end) (λ h. tt) (λ h. tt)) (λ h. tt)) (λ h. tt)

  pub accepted-good : (slots : ℕ) (given : Answer) (old : ℕ) (xs : List A) (block : List ℕ)
      → edited K s position start end given new slots room ≡ accepted old xs block → (g : ℕ) × (given ≡ done g)
  unfolding edited
  accepted-good slots (done g) old xs block h = (g, refl)
  accepted-good slots (refused number place) old xs block h = absurd (subst Barred h (barred slots number place (parse s)))

  -- the other columns keep the bytes that they had there, and all rows their specifications
  pub record Kept (column block : List ℕ) : Type 0 where
    pub replaced : Replaced s specs lens position column block
    pub chosen : bytes_of block (part_at block position) ≡ column
    pub others : (j : ℕ) → (j ≡ position → ⊥) → bytes_of block (part_at block j) ≡ bytes_of s (part_at s j)

  pub accepted-kept : (slots : ℕ) (given : Answer) (old : ℕ) (xs : List A) (block : List ℕ) → length s < 2 ^ 64 → room < 2 ^ 64
      → parse s ≡ tab specs lens next → edited K s position start end given new slots room ≡ accepted old xs block → Kept (K.writes xs) block
  accepted-kept slots given old xs block short small e h =
      let r = accepted-right slots given old xs block e h in
      let c = K.writes xs in
      let b = r.block-is in
      let f : length c < 2 ^ 64 =
      omega (
        arith,
        r.fits,
        ap length b,
        ap length (new-block s specs lens next e position r.served c),
        length-append (front_of s specs lens next position (length c)) (c ++ tail_of s lens next position),
        length-append c (tail_of s lens next position),
      ) in
      let o = others-kept s specs lens next position c short e r.served f in
      let k = parts-kept s specs lens position c _ o in
      record {
        replaced = subst (λ (x : List ℕ). Replaced s specs lens position c x) (sym b) o;
        chosen = ap (λ (x : List ℕ). bytes_of x (part_at x position)) b ∙ k.0;
        others = λ j d. ap (λ (x : List ℕ). bytes_of x (part_at x j)) b ∙ k.1 j d;
      }

-- ---- in one: two blocks of one length that differ only inside columns other than the one at a position
pub record OnlyElsewhere (s s' : List ℕ) (position : ℕ) : Type 0 where
  pub specs : List ℕ
  pub lens : List ℕ
  pub next : ℕ
  pub table : parse s ≡ tab specs lens next
  pub size : length s' ≡ length s
  pub front : take next s' ≡ take next s
  pub chosen : column_at s' lens next position ≡ column_at s lens next position

-- alike edits have one answer: number, place, length and new table
pub alike-answer : {A : Type 0} {K : Kind A} {s s' specs lens : List ℕ} {position : ℕ} {e e' : Edited A} → Alike K s s' specs lens position e e'
    → answered K e ≡ answered K e'
alike-answer (both-stop number place) = refl
alike-answer (both-late number place old xs) = refl
alike-answer {K = K} (both-accepted old xs block block' a) =
    let k = readings_of K xs in
    ap (λ (t : Tab). record { table = (opened t).table; number = 0; place = 0; len = length block; readings = k }) (a.table ∙ sym a.table')
    ∙ ap (λ (n : ℕ). record { table = (opened (parse block')).table; number = 0; place = 0; len = n; readings = k }) a.size

-- and leave the same in the same slots
pub alike-slots : {A B : Type 0} {K : Kind A} {s s' specs lens : List ℕ} {position : ℕ} {e e' : Edited A} (z : B) (f : List A → List B) (v : List B)
    → Alike K s s' specs lens position e e' → slots_left z f e v ≡ slots_left z f e' v
alike-slots z f v (both-stop number place) = refl
alike-slots z f v (both-late number place old xs) = refl
alike-slots z f v (both-accepted old xs block block' a) = refl

-- and the same in the same output: behind the new block, and after a refusal all of it
pub alike-behind : {A : Type 0} {K : Kind A} {s s' specs lens : List ℕ} {position : ℕ} {e e' : Edited A} (out : List ℕ)
    → Alike K s s' specs lens position e e' → drop (answered K e).len (out_left e out) ≡ drop (answered K e').len (out_left e' out)
alike-behind out (both-stop number place) = refl
alike-behind out (both-late number place old xs) = refl
alike-behind out (both-accepted old xs block block' a) =
    drop_at block (drop (length block) out) (length block) refl
    ∙ ap (λ (n : ℕ). drop n out) a.size
    ∙ sym (drop_at block' (drop (length block') out) (length block') refl)

pub alike-refused : {A : Type 0} {K : Kind A} {s s' specs lens : List ℕ} {position : ℕ} {e e' : Edited A} (out : List ℕ)
    → Alike K s s' specs lens position e e' → ((answered K e).number ≡ 0 → ⊥) → out_left e out ≡ out_left e' out
alike-refused out (both-stop number place) h = refl
alike-refused out (both-late number place old xs) h = refl
alike-refused out (both-accepted old xs block block' a) h = absurd (h refl)

no_row : {A : Type 0} (K : Kind A) (s specs lens : List ℕ) (next position start : ℕ) (end : End) (given : Answer) (new : List A) (slots room : ℕ)
    → parse s ≡ tab specs lens next → ltb position (length specs) ≡ false → edited K s position start end given new slots room ≡ stop 16 0
unfolding edited
no_row K s specs lens next position start end given new slots room e h = rw (e, h)

-- the same edit of two such blocks, of bytes and of lengths that the code has, comes to the same
pub alike : {A : Type 0} (K : Kind A) (s s' : List ℕ) (position start : ℕ) (end : End) (given : Answer) (new : List A) (slots room : ℕ)
    (o : OnlyElsewhere s s' position) → Below 256 s → length s < 2 ^ 64 → room < 2 ^ 64
    → Alike K s s' o.specs o.lens position
    (edited K s position start end given new slots room) (edited K s' position start end given new slots room)
alike K s s' position start end given new slots room o bytes short small =
    go (ltb position (length o.specs)) refl (one_table s s' o.specs o.lens o.next bytes o.table o.size o.front)
  where
    go : (b : Bool) → ltb position (length o.specs) ≡ b → parse s' ≡ tab o.specs o.lens o.next
        → Alike K s s' o.specs o.lens position
        (edited K s position start end given new slots room) (edited K s' position start end given new slots room)
    go true h t' =
        isolated K s s' o.specs o.lens o.next position short o.table t' (ltb-true position (length o.specs) h) (sym o.chosen)
        room small start end given new slots
    go false h t' =
        rw (
          no_row K s o.specs o.lens o.next position start end given new slots room o.table h,
          no_row K s' o.specs o.lens o.next position start end given new slots room t' h,
        )
        (both-stop 16 0)
