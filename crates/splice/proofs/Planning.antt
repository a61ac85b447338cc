-- The checks as the code makes them, over the kind of column: one law for each way out, and that they are those of an edit. Assumes nothing.
use Prim.Native.Nat.{ℕ, ◌+◌, ◌-◌, ◌≤◌, ◌<◌, max}
use mathlib.Core.Path.{◌≡◌, refl, sym, ap, ◌∙◌, subst}
use mathlib.Core.List.{List}
use mathlib.Core.Option.{Option, none, some}
use mathlib.Core.Bool.{Bool, true, false, cond}
use native.Mathlib.Omega.{arith}
use lib.Dec.{ltb, leb, eqb}
use lib.ListN.{length, get_or, take, drop}
use borrow.Author.Tests.{ltb-true, ltb-false, lt-ltb, le-ltb, leb-true, leb-false, le-leb, lt-leb, eq-eqb, ne_eqb}
use Rattle.leb128.specs.Answer.{Answer, done, refused}
use Rattle.column_specification.specs.Specification.{type_of}
use Rattle.encoding.specs.Limit.{limit}
use Rattle.encoding.specs.Given.{bad_flag, flags_judged, list_judged}
use Rattle.encoding.specs.Walk.{Trace, Ending, sound, fault, outcome_of, outcome}
use Rattle.raw_column.specs.Table.{Tab, tab, faulty, parse}
use Rattle.block_frame.specs.Columns.{new_block}
use Rattle.column_part.specs.Part.{start_of, no_part, row_part, part_in, part_at, Part}
use Rattle.raw_column.proofs.Opening.{ParseOk, parse-ok, sum_to}
use Rattle.block_frame.proofs.Tables.{table-fills}
use Rattle.slots.specs.Splice.{spliced}
use Rattle.slots.proofs.Splicing.{length-spliced}
use Rattle.text.specs.Given.{names_given}
use Rattle.splice.specs.Kind.{Kind}
use Rattle.splice.specs.Edit.{Edited, stop, end_in, below, serves, flags_in, given_optional, given_text, finished, edit_list, read_by, edit_column, edit_in, edited}
use Rattle.splice.specs.Steps.{Row, stands, barred, row_in, row_for, count_as, result_length, result_judged, Plan, ready, stopped, on_result, on_count, on_given, on_row, plan_for}
use Rattle.splice.specs.Ready.{Located, Ready}
use Rattle.splice.specs.declared.ColumnKind.{ColumnKind}
use Rattle.splice.specs.declared.ColumnKind.TheVariants as kind
use Rattle.splice.specs.declared.End.{End}
use Rattle.splice.specs.declared.End.TheVariants as ending

-- ---- the type, of a specification whose type has the number t
module _ (k : ColumnKind) (spec : ℕ) {t : ℕ} (e : t ≡ type_of spec) where
  pub serves-actor : k ≡ kind.Integer → t ≡ 1 → eqb t 1 ≡ serves k spec
  unfolding serves
  serves-actor h f = rw (h, ← e, f)

  pub serves-integer : k ≡ kind.Integer → (t ≡ 1 → ⊥) → eqb t 2 ≡ serves k spec
  unfolding serves
  serves-integer h f = rw (h, ← e, ne_eqb t 1 f)

  pub serves-delta : k ≡ kind.Delta → eqb t 3 ≡ serves k spec
  unfolding serves
  serves-delta h = rw (h, ← e)

  pub serves-boolean : k ≡ kind.Boolean → eqb t 4 ≡ serves k spec
  unfolding serves
  serves-boolean h = rw (h, ← e)

  pub serves-text : k ≡ kind.Text → eqb t 5 ≡ serves k spec
  unfolding serves
  serves-text h = rw (h, ← e)

-- ---- the row, by the part that was located
module _ (kind : ColumnKind) (s : List ℕ) (position start : ℕ) (end : End) where
  -- what is known of a row that has a part: where it lies, and its specification
  abbrev RowAs : Part → Row → Type 0
  RowAs p r = (p.number ≡ 0 → r ≡ cond (serves kind p.spec) (cond (below start end) (barred 18 0) (stands p.start (p.start + p.len))) (barred 17 0))
      × ((p.number ≡ 0 → ⊥) → r ≡ barred p.number p.place)

  row_as : (t : Tab) → ParseOk (length s) t → RowAs (part_in position t) (row_in kind position start end t)
  row_as (faulty number place) h = (λ e. absurd (omega (arith, h, e)), λ e. refl)
  row_as (tab specs lens next) h = go (ltb position (length specs))
    where
      go : (b : Bool) → RowAs (cond b (row_part specs lens next position) (no_part 16 0))
          (cond b (cond (serves kind (get_or specs position 0)) (cond (below start end) (barred 18 0) (stands (start_of lens next position) (start_of lens next position + get_or lens position 0))) (barred 17 0)) (barred 16 0))
      go true = (λ e. refl, λ e. absurd (e refl))
      go false = (λ e. absurd (omega (arith, e)), λ e. refl)

  module _ {p : Part} (e : p ≡ part_at s position) where
    known : RowAs p (row_for kind s position start end)
    unfolding part_at row_for
    known = subst (λ (x : Part). RowAs x (row_in kind position start end (parse s))) (sym e) (row_as (parse s) (parse-ok s))

    pub row-bad : (p.number ≡ 0 → ⊥) → barred p.number p.place ≡ row_for kind s position start end
    row-bad h = sym (known.1 h)

    module _ (h : p.number ≡ 0) where
      pub row-17 : serves kind p.spec ≡ false → barred 17 0 ≡ row_for kind s position start end
      row-17 f = sym (known.0 h ∙ rw f)

      pub row-18 : serves kind p.spec ≡ true → below start end ≡ true → barred 18 0 ≡ row_for kind s position start end
      row-18 f g = sym (known.0 h ∙ rw (f, g))

      pub row-given : serves kind p.spec ≡ true → below start end ≡ false → stands p.start (p.start + p.len) ≡ row_for kind s position start end
      row-given f g = sym (known.0 h ∙ rw (f, g))

-- a row that was found
module _ {kind : ColumnKind} {s : List ℕ} {position at till : ℕ} where
  located-in : (specs lens : List ℕ) (next : ℕ) → parse s ≡ tab specs lens next → position < length specs
      → serves kind (get_or specs position 0) ≡ true
      → stands (start_of lens next position) (start_of lens next position + get_or lens position 0) ≡ stands at till
      → Located kind s position at till
  located-in specs lens next e h v q =
      let a : start_of lens next position ≡ at = cc in
      let b : start_of lens next position + get_or lens position 0 ≡ till = cc in
      let f = table-fills s specs lens next e in
      record {
        row = record { specs = specs; lens = lens; next = next; is = e; there = h };
        at_is = sym a;
        till_is = sym b;
        ends = omega (arith, sum_to lens position (omega (arith, f.even)), f.whole, b);
        served = v;
      }

  pub row-found : (start : ℕ) (end : End) → stands at till ≡ row_for kind s position start end
      → Located kind s position at till × (below start end ≡ false)
  unfolding row_for
  row-found start end e = go (parse s) refl (sym e)
    where
      go : (t : Tab) → parse s ≡ t → row_in kind position start end t ≡ stands at till → Located kind s position at till × (below start end ≡ false)
      go (faulty number place) p q = let z : ◌≡◌ {A = ℕ} 0 1 = cc in absurd (omega arith)
      go (tab specs lens next) p q = rows (ltb position (length specs)) (serves kind (get_or specs position 0)) (below start end) refl refl refl q
        where
          rows : (a b c : Bool) → ltb position (length specs) ≡ a → serves kind (get_or specs position 0) ≡ b → below start end ≡ c
              → cond a (cond b (cond c (barred 18 0) (stands (start_of lens next position) (start_of lens next position + get_or lens position 0))) (barred 17 0)) (barred 16 0)
              ≡ stands at till
              → Located kind s position at till × (below start end ≡ false)
          rows true true false x y w q = (located-in specs lens next p (ltb-true position (length specs) x) y q, w)
          rows true true true x y w q = let z : ◌≡◌ {A = ℕ} 0 1 = cc in absurd (omega arith)
          rows true false c x y w q = let z : ◌≡◌ {A = ℕ} 0 1 = cc in absurd (omega arith)
          rows false b c x y w q = let z : ◌≡◌ {A = ℕ} 0 1 = cc in absurd (omega arith)

-- ---- the new readings
module _ (values present new : ℕ) (flags : List ℕ) where
  pub given-uneven : (values ≡ present → ⊥) → refused 8 0 ≡ given_optional values present new flags
  unfolding given_optional
  given-uneven h = rw (ne_eqb values present h)

  -- what `judge_list` says of them, but for 5
  abbrev unlimited : Answer → Answer
  unlimited (done n) = done 0
  unlimited (refused number place) = cond (eqb number 5) (done 0) (refused number place)

  judged-as : {o : Answer} → values ≡ present → list_judged new flags ≡ o → unlimited o ≡ given_optional values present new flags
  unfolding given_optional list_judged flags_judged
  judged-as {o} h e = rw (eq-eqb values present h, ← e) (go (eqb new (length flags)) (bad_flag 0 flags))
    where
      size : (c : Bool) → unlimited (cond c (done new) (refused 5 0)) ≡ done 0
      size true = refl
      size false = refl

      go : (a : Bool) (b : Option ℕ) → unlimited (cond a (flags_judged new b) (refused 8 0)) ≡ cond a (flags_in b) (refused 8 0)
      go true none = size (leb new limit)
      go true (some i) = refl
      go false b = refl

  pub given-done : {n : ℕ} → values ≡ present → list_judged new flags ≡ done n → done 0 ≡ given_optional values present new flags
  given-done h e = judged-as h e

  pub given-many : {number place : ℕ} → values ≡ present → list_judged new flags ≡ refused number place → number ≡ 5 → done 0 ≡ given_optional values present new flags
  given-many {number} {place} h e f = sym (ap (λ (t : Bool). cond t (done 0) (refused number place)) (eq-eqb number 5 f)) ∙ judged-as h e

  pub given-bad : {number place : ℕ} → values ≡ present → list_judged new flags ≡ refused number place → (number ≡ 5 → ⊥)
      → refused number place ≡ given_optional values present new flags
  given-bad {number} {place} h e f = sym (ap (λ (t : Bool). cond t (done 0) (refused number place)) (ne_eqb number 5 f)) ∙ judged-as h e

-- ---- the new names
module _ (starts lens flags : ℕ) (bytes newStarts newLens newFlags : List ℕ) where
  abbrev text_as : Answer
  text_as = given_text starts lens flags bytes newStarts newLens newFlags

  pub text-uneven : (starts ≡ lens → ⊥) → refused 8 0 ≡ text_as
  unfolding given_text
  text-uneven h = rw (ne_eqb starts lens h)

  pub text-unflagged : starts ≡ lens → (lens ≡ flags → ⊥) → refused 8 0 ≡ text_as
  unfolding given_text
  text-unflagged h k = simp (eq-eqb starts lens h, ne_eqb lens flags k)

  pub text-given : starts ≡ lens → lens ≡ flags → names_given bytes newStarts newLens newFlags ≡ text_as
  unfolding given_text
  text-given h k = simp (eq-eqb starts lens h, eq-eqb lens flags k)

-- ---- the result
-- a range that does not end below its start is ordered in any list that it starts in
pub in_order : (old start : ℕ) (end : End) → below start end ≡ false → start ≤ old → start ≤ end_in end old
in_order old start (ending.At e) h s = ltb-false e start h
in_order old start ending.OfList h s = s

module _ (old start : ℕ) (end : End) (new slots : ℕ) where
  pub result-past : old < start → refused 18 0 ≡ result_judged old start end new slots
  unfolding result_judged
  result-past h = rw (lt-ltb old start h)

  module _ (h : start ≤ old) where
    pub result-beyond : old < end_in end old → refused 18 0 ≡ result_judged old start end new slots
    unfolding result_judged
    result-beyond b = rw (le-ltb old start h, lt-ltb old (end_in end old) b)

    module _ (w : end_in end old ≤ old) where
      pub result-many : limit < result_length old start end new → refused 5 0 ≡ result_judged old start end new slots
      unfolding result_judged
      result-many m = rw (le-ltb old start h, le-ltb old (end_in end old) w, lt-ltb limit (result_length old start end new) m)

      pub result-full : result_length old start end new ≤ limit → slots < max old (result_length old start end new) → refused 9 0 ≡ result_judged old start end new slots
      unfolding result_judged
      result-full m f =
          rw (
            le-ltb old start h,
            le-ltb old (end_in end old) w,
            le-ltb limit (result_length old start end new) m,
            lt-ltb slots (max old (result_length old start end new)) f,
          )

      pub result-done : {n : ℕ} → result_length old start end new ≤ limit → max old (result_length old start end new) ≤ slots → n ≡ result_length old start end new
          → done n ≡ result_judged old start end new slots
      unfolding result_judged
      result-done m f e =
          rw (
            le-ltb old start h,
            le-ltb old (end_in end old) w,
            le-ltb limit (result_length old start end new) m,
            le-ltb slots (max old (result_length old start end new)) f,
          ) (ap done e)

-- ---- a column's readings, where it is sound
pub sound-is : {R : Type 0} (t : Trace R) {n : ℕ} → outcome t ≡ done n → length t.readings ≡ n
unfolding outcome outcome_of
sound-is t {n} e = go t.ending e
  where
    go : (x : Ending) → outcome_of (length t.readings) x ≡ done n → length t.readings ≡ n
    go sound q = cc
    go (fault number place) q = let z : ◌≡◌ {A = ℕ} 0 1 = cc in absurd (omega arith)

-- ---- THE CHECKS ARE THOSE OF AN EDIT, over the kind of column
module _ {A : Type 0} (K : Kind A) (counts : (c : List ℕ) → count_as K.kind c ≡ outcome (K.reads c)) (s : List ℕ) (position start : ℕ) (end : End)
    (given : Answer) (new : List A) (n : ℕ) (many : (g : ℕ) → given ≡ done g → n ≡ length new) (slots room : ℕ) where
  -- the edit that a plan stands for: the refusal; or ready, and the new readings are good
  abbrev Follows : Plan → Edited A → Type 0
  Follows (stopped number place) e = e ≡ stop number place
  Follows (ready at till old len) e = Ready K s position start end n slots at till old len × ((g : ℕ) × (given ≡ done g))

  module _ (specs lens : List ℕ) (next : ℕ) (e : parse s ≡ tab specs lens next) (h : position < length specs)
      (v : serves K.kind (get_or specs position 0) ≡ true) (t : below start end ≡ false) where
    abbrev at : ℕ
    at = start_of lens next position

    abbrev len : ℕ
    len = get_or lens position 0

    part-is : take (at + len - at) (drop at s) ≡ take len (drop at s)
    part-is = let k : at + len - at ≡ len = omega arith in ap (λ (n : ℕ). take n (drop at s)) k

    abbrev column : List ℕ
    column = take len (drop at s)

    follows-list : (old : ℕ) → outcome (K.reads column) ≡ done old → ((g : ℕ) × (given ≡ done g))
        → Follows (on_result at (at + len) old (result_judged old start end n slots))
        (edit_list K (K.reads column).readings start end new slots room (new_block s specs lens next position))
    unfolding result_judged
    follows-list old o g = rw (← sound-is (K.reads column) o) (starts (ltb k start) refl)
      where
        k : ℕ
        k = length (K.reads column).readings

        L : ℕ
        L = result_length k start end n

        xs : List A
        xs = spliced (K.reads column).readings start (end_in end k) new

        fits : (b c : Bool) → start ≤ k → end_in end k ≤ k → ltb limit L ≡ b → ltb slots (max k L) ≡ c
            → Follows (on_result at (at + len) k (cond b (refused 5 0) (cond c (refused 9 0) (done L))))
            (cond b (stop 5 0) (cond c (stop 9 0) (finished K k xs room (new_block s specs lens next position) (K.wide xs))))
        fits true c m w x y = refl
        fits false true m w x y = refl
        fits false false m w x y =
            let y' = ltb-false slots (max k L) y in (
              record {
                located = located-in specs lens next e h v refl;
                reads = ap (λ (c : List ℕ). outcome (K.reads c)) part-is ∙ o ∙ ap done (sym (sound-is (K.reads column) o));
                starts = m;
                not_below = t;
                within = w;
                long = refl;
                few = ltb-false limit L x;
                old_fits = omega (arith, y');
                new_fits = omega (arith, y');
              },
              g,
            )

        ends : (a : Bool) → start ≤ k → ltb k (end_in end k) ≡ a
            → Follows (on_result at (at + len) k (cond a (refused 18 0) (cond (ltb limit L) (refused 5 0) (cond (ltb slots (max k L)) (refused 9 0) (done L)))))
            (cond a (stop 18 0)
            (cond (ltb limit (length xs)) (stop 5 0)
            (cond (ltb slots (max k (length xs))) (stop 9 0) (finished K k xs room (new_block s specs lens next position) (K.wide xs)))))
        ends true m x = refl
        ends false m x =
            let w = ltb-false k (end_in end k) x in
            let l : length xs ≡ L = length-spliced (K.reads column).readings start (end_in end k) new (in_order k start end t m) w ∙ ap (λ (j : ℕ). result_length k start end j) (sym (many g.0 g.1)) in
            rw l (fits (ltb limit L) (ltb slots (max k L)) m w refl refl)

        starts : (a : Bool) → ltb k start ≡ a
            → Follows (on_result at (at + len) k (cond a (refused 18 0) (cond (ltb k (end_in end k)) (refused 18 0) (cond (ltb limit L) (refused 5 0) (cond (ltb slots (max k L)) (refused 9 0) (done L))))))
            (cond a (stop 18 0)
            (cond (ltb k (end_in end k)) (stop 18 0)
            (cond (ltb limit (length xs)) (stop 5 0)
            (cond (ltb slots (max k (length xs))) (stop 9 0) (finished K k xs room (new_block s specs lens next position) (K.wide xs))))))
        starts true x = refl
        starts false x = ends (ltb k (end_in end k)) (ltb-false k start x) refl

    follows-count : (o : Answer) → outcome (K.reads column) ≡ o → ((g : ℕ) × (given ≡ done g))
        → Follows (on_count at (at + len) start end n slots o)
        (read_by K o (K.reads column).readings (λ old. edit_list K old start end new slots room (new_block s specs lens next position)))
    follows-count (done old) q g = follows-list old q g
    follows-count (refused number place) q g = refl

    follows-given : (o : Answer) → given ≡ o
        → Follows (on_given K.kind s at (at + len) start end n slots o)
        (edit_column K column start end o new slots room (new_block s specs lens next position))
    follows-given (refused number place) q = refl
    follows-given (done g) q = rw (part-is, counts column) (follows-count (outcome (K.reads column)) refl (g, q))

  follows-in : (t : Tab) → parse s ≡ t
      → Follows (on_row K.kind s start end given n slots (row_in K.kind position start end t)) (edit_in K s position start end given new slots room t)
  follows-in (faulty number place) e = refl
  follows-in (tab specs lens next) e = rows (ltb position (length specs)) (serves K.kind (get_or specs position 0)) (below start end) refl refl refl
    where
      rows : (a b c : Bool) → ltb position (length specs) ≡ a → serves K.kind (get_or specs position 0) ≡ b → below start end ≡ c
          → Follows (on_row K.kind s start end given n slots
          (cond a (cond b (cond c (barred 18 0) (stands (start_of lens next position) (start_of lens next position + get_or lens position 0))) (barred 17 0)) (barred 16 0)))
          (cond a
          (cond b (cond c (stop 18 0) (edit_column K (take (get_or lens position 0) (drop (start_of lens next position) s)) start end given new slots room (new_block s specs lens next position)))
          (stop 17 0)) (stop 16 0))
      rows false b c x y w = refl
      rows true false c x y w = refl
      rows true true true x y w = refl
      rows true true false x y w =
          follows-given specs lens next e (ltb-true position (length specs) x) y w given refl

  follows : Follows (plan_for K.kind s position start end given n slots) (edited K s position start end given new slots room)
  unfolding row_for edited
  follows = follows-in (parse s) refl

  pub plan-stops : {number place : ℕ} → stopped number place ≡ plan_for K.kind s position start end given n slots
      → edited K s position start end given new slots room ≡ stop number place
  plan-stops e = subst (λ (p : Plan). Follows p (edited K s position start end given new slots room)) (sym e) follows

  pub plan-ready : {at till old len : ℕ} → ready at till old len ≡ plan_for K.kind s position start end given n slots
      → Ready K s position start end n slots at till old len × ((g : ℕ) × (given ≡ done g))
  plan-ready e = subst (λ (p : Plan). Follows p (edited K s position start end given new slots room)) (sym e) follows

pub leb-rest : (n k m : ℕ) → k ≤ n → leb m (n - k) ≡ leb (k + m) n
leb-rest n k m h = go (leb m (n - k)) refl
  where
    go : (b : Bool) → leb m (n - k) ≡ b → leb m (n - k) ≡ leb (k + m) n
    go true e = e ∙ sym (le-leb (k + m) n (omega (arith, leb-true m (n - k) e)))
    go false e = e ∙ sym (lt-leb (k + m) n (omega (arith, leb-false m (n - k) e)))
