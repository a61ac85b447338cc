-- An edit that is not accepted has a refusal's number, never 0, for every kind of column: answer number 0 means accepted. Assumes nothing.
use Prim.Native.Nat.{ℕ, ◌<◌}
use mathlib.Core.Path.{◌≡◌, refl}
use mathlib.Core.List.{List}
use mathlib.Core.Option.{Option, none, some}
use mathlib.Core.Bool.{◌&&◌}
use native.Mathlib.Omega.{arith}
use lib.Dec.{ltb, leb, eqb}
use lib.ListN.{length}
use Rattle.leb128.specs.Answer.{Answer, done, refused}
use Rattle.leb128.proofs.Refusals.{u64-fault}
use Rattle.encoding.specs.Limit.{limit}
use Rattle.encoding.specs.Walk.{Ending, sound, fault, outcome_of, outcome}
use Rattle.encoding.specs.Given.{bad_flag}
use Rattle.encoding.proofs.Faults.{Numbered, trace-numbered}
use Rattle.encoding.proofs.Lists.{cond-by}
use Rattle.rle_decoder.specs.Word.{u64_e}
use Rattle.text.specs.Text.{text_e}
use Rattle.text.specs.Given.{name_list, bad_pair, bad_text, text_given, pairs_given, names_given}
use Rattle.text.proofs.Faults.{text-fault}
use Rattle.raw_column.specs.Table.{Tab, tab, faulty, parse}
use Rattle.raw_column.proofs.Opening.{parse-ok}
use Rattle.slots.specs.Splice.{spliced}
use Rattle.splice.specs.Kind.{Kind}
use Rattle.splice.specs.Kinds.{integer, text}
use Rattle.splice.specs.Edit.{Edited, stop, late, accepted, end_in, below, serves, flags_in, given_optional, given_boolean, given_text}
use Rattle.splice.specs.Edit.{finished, edit_list, read_by, edit_column, edit_in, edited}
use Rattle.splice.specs.declared.End.{End}
use Rattle.splice.proofs.Refusing.{refuses-by}

abbrev pub SomeStop : {A : Type 0} → Edited A → Type 0
SomeStop (stop number place) = 0 < number
SomeStop (late number place old xs) = 0 < number
SomeStop (accepted old xs block) = Unit {0}

abbrev pub SomeRefused : Answer → Type 0
SomeRefused (done n) = Unit {0}
SomeRefused (refused number place) = 0 < number

flags-some : (bad : Option ℕ) → SomeRefused (flags_in bad)
flags-some none = tt
flags-some (some i) = omega arith

pub optional-some : (values flags new : ℕ) (newFlags : List ℕ) → SomeRefused (given_optional values flags new newFlags)
unfolding given_optional
optional-some values flags new newFlags =
    cond-by SomeRefused (eqb values flags && eqb new (length newFlags)) (λ h. flags-some (bad_flag 0 newFlags)) (λ h. omega arith)

pub boolean-some : (new : List ℕ) → SomeRefused (given_boolean new)
unfolding given_boolean
boolean-some new = flags-some (bad_flag 0 new)

names-some : (bad : Option ℕ) → SomeRefused (text_given bad)
names-some none = tt
names-some (some i) = omega arith

pairs-some : (bad : Option ℕ) (text : Answer) → SomeRefused text → SomeRefused (pairs_given bad text)
pairs-some none text h = h
pairs-some (some i) text h = omega arith

pub text-some : (starts lens flags : ℕ) (bytes newStarts newLens newFlags : List ℕ)
    → SomeRefused (given_text starts lens flags bytes newStarts newLens newFlags)
unfolding given_text names_given
text-some starts lens flags bytes newStarts newLens newFlags =
    cond-by SomeRefused (eqb starts lens && eqb lens flags)
    (λ h. cond-by SomeRefused (eqb (length newStarts) (length newLens) && eqb (length newLens) (length newFlags))
    (λ h. pairs-some (bad_pair (length bytes) 0 newStarts newLens newFlags) _ (names-some (bad_text 0 (name_list bytes newStarts newLens newFlags))))
    (λ h. omega arith))
    (λ h. omega arith)

-- ---- a column's faults have theirs (`delta-numbered`, `boolean-numbered` for the other kinds), and so has every way out of an edit
pub integer-numbered : (c : List ℕ) → Numbered (integer.reads c).ending
integer-numbered c = trace-numbered u64_e c (u64-fault c)

pub text-numbered : (c : List ℕ) → Numbered (text.reads c).ending
text-numbered c = trace-numbered text_e c (text-fault c)

module _ {A : Type 0} (K : Kind A) (numbered : (c : List ℕ) → Numbered (K.reads c).ending) (start : ℕ) (end : End) (new : List A)
    (slots room : ℕ) where
  list-some : (old : List A) (block : List ℕ → List ℕ) → SomeStop (edit_list K old start end new slots room block)
  list-some old block =
      let xs = spliced old start (end_in end (length old)) new in
      cond-by SomeStop (ltb (length old) start) (λ h. omega arith)
      (λ h. cond-by SomeStop (ltb (length old) (end_in end (length old))) (λ h. omega arith)
      (λ h. cond-by SomeStop (ltb limit (length xs)) (λ h. omega arith)
      (λ h. cond-by SomeStop (ltb slots _) (λ h. omega arith) (λ h. go xs (K.wide xs)))))
    where
      go : (xs : List A) (w : Option ℕ) → SomeStop (finished K (length old) xs room block w)
      go xs (some i) = refuses-by K 7 i (length old) xs SomeStop (omega arith) (omega arith)
      go xs none =
          cond-by SomeStop (leb (length (block (K.writes xs))) room) (λ h. tt) (λ h. refuses-by K 10 0 (length old) xs SomeStop (omega arith) (omega arith))

  column-some : (column : List ℕ) (given : Answer) (block : List ℕ → List ℕ) → SomeRefused given
      → SomeStop (edit_column K column start end given new slots room block)
  unfolding outcome outcome_of
  column-some column (refused number place) block g = g
  column-some column (done n) block g = go (K.reads column).ending (numbered column)
    where
      go : (x : Ending) → Numbered x
          → SomeStop (read_by K (outcome_of (length (K.reads column).readings) x) (K.reads column).readings
          (λ old. edit_list K old start end new slots room block))
      go sound h = list-some (K.reads column).readings block
      go (fault number place) h = h

  pub edited-some : (s : List ℕ) (position : ℕ) (given : Answer) → SomeRefused given → SomeStop (edited K s position start end given new slots room)
  unfolding edited
  edited-some s position given g = go (parse s) refl
    where
      go : (t : Tab) → parse s ≡ t → SomeStop (edit_in K s position start end given new slots room t)
      go (faulty number place) e = rw e at (parse-ok s)
      go (tab specs lens next) e =
          cond-by SomeStop (ltb position (length specs))
          (λ h. cond-by SomeStop (serves K.kind _)
          (λ h. cond-by SomeStop (below start end) (λ h. omega arith) (λ h. column-some _ given _ g))
          (λ h. omega arith))
          (λ h. omega arith)
