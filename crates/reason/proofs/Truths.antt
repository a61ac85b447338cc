-- THE REASON IS TRUE: a faulty column has a reason, with the ordinary call's number and place, and what it says holds of the bytes; a sound column has none. Over any kind of
-- column, over the element, and of integer columns. Assumes nothing.
use Prim.Native.Nat.{ℕ, ◌+◌, ◌-◌, ◌≤◌, ◌<◌}
use mathlib.Core.Logic.{inl, inr}
use mathlib.Core.Path.{◌≡◌, refl, sym, ◌∙◌, ap}
use mathlib.Core.List.{List}
use mathlib.Core.Option.{Option, some}
use native.Mathlib.Omega.{arith}
use lib.ListN.{length, drop}
use borrow.Author.Tests.{eq-eqb, ne_eqb}
use Rattle.leb128.specs.Got.{bad}
use Rattle.leb128.specs.Read.{u64_at, i64_at}
use Rattle.encoding.specs.Column.{Spot, spot, trace_from, trace}
use Rattle.encoding.specs.Element.{Element}
use Rattle.encoding.specs.Limit.{limit}
use Rattle.encoding.specs.Walk.{Ending, sound, fault, Trace, walk}
use Rattle.encoding.proofs.Columns.{columns}
use Rattle.encoding.proofs.Elements.{ElementLaws}
use Rattle.encoding.proofs.Walking.{Machine}
use Rattle.rle_decoder.specs.Word.{u64_e}
use Rattle.rle_decoder.proofs.WordLaws.{u64-laws}
use Rattle.reason.specs.Reason.{Facts, bytes, Count, Reason, number_bytes, signed_count, holding, told, reason_by, spots_of, plain_facts, integer_reason}
use Rattle.reason.specs.Runs.{runs}
use Rattle.reason.specs.True.{Explained, True, Broken, Unread, ColumnTrue, ColumnFalls, IntegerTrue}
use Rattle.reason.proofs.Named.{passed-had, passed-capped, Names, Faulty, faulty}
use Rattle.reason.proofs.RunFaults.{Says, u64-unread, run-fault}

-- ---- by the ending

pub explained : {Q : Type 0} (t : Trace Q) (k : ℕ → ℕ → Option Reason) (Is : Reason → Type 0)
    → ((number place : ℕ) → t.ending ≡ fault number place → (r : Reason) × (k number place ≡ some r) × Is r) → Explained t (reason_by t.ending k) Is
explained t k Is f = record { each = each t.ending refl; faulty = found; sound = λ e. rw e refl }
  where
    found : (number place : ℕ) → t.ending ≡ fault number place → (r : Reason) × (reason_by t.ending k ≡ some r) × Is r
    found number place e = let y = f number place e in (y.0, ap (λ (x : Ending). reason_by x k) e ∙ y.1, y.2)

    each : (x : Ending) → t.ending ≡ x → (r : Reason) → reason_by x k ≡ some r → Is r
    each sound e r h = let z : ◌≡◌ {A = ℕ} 0 1 = cc in absurd (omega arith)
    each (fault number place) e r h =
        let y = f number place e in
        let q : y.0 ≡ r = let j : some y.0 ≡ some r = sym y.1 ∙ h in cc in
        rw (← q) y.2

-- ---- the run that is named, over any machine

module _ {Q R S : Type 0} (M : Machine R S) (start : S) (none-had : M.had start ≡ 0) (f : ℕ) (t : Trace Q) (at : S → ℕ) (countAt : ℕ → Count) (facts : S → Facts) (number place : ℕ) where
  abbrev pub reason_at : ℕ → S → Reason
  reason_at k st = record { number = number; place = place; run = k; begins = at st; count = countAt (at st); index = length t.readings; facts = facts st }

  pub named-true : (Is : S → Type 0) (Why : S → Reason → Type 0) → Names M Is (length t.readings) 0 start (runs M.run f start) → t.ending ≡ fault number place
      → ((k : ℕ) (st : S) → Is st → M.had st ≤ limit → Why st (reason_at k st))
      → (r : Reason)
      × (told number place (length t.readings) at (λ st. countAt (at st)) facts (holding M.had (length t.readings) 0 (runs M.run f start)) ≡ some r)
      × True t M.run start at M.had countAt Why r
  named-true Is Why y e why =
      let n = length t.readings in
      let c : 0 + y.before ≡ y.before = omega arith in
      let h : told number place n at (λ st. countAt (at st)) facts (holding M.had n 0 (runs M.run f start)) ≡ some (reason_at (0 + y.before) y.state) =
      ap (told number place n at (λ st. countAt (at st)) facts) y.named in (
        reason_at y.before y.state,
        h ∙ ap (λ (k : ℕ). some (reason_at k y.state)) c,
        record {
          fault = e;
          index = refl;
          state = y.state;
          earlier = y.earlier;
          passed = y.passed;
          counted = omega (arith, passed-had M y.passed, none-had);
          begins = refl;
          count = refl;
          why = why y.before y.state y.is (passed-capped M y.passed (omega (arith, none-had)));
        },
      )

-- the run at fault, where a column is walked from its first byte on
pub fault-named : {R S : Type 0} (M : Machine R S) (start : S) → M.had start ≡ 0 → (f g number place n : ℕ) → g ≡ f → (walk M.run g start).ending ≡ fault number place
    → n ≡ length (walk M.run g start).readings → Names M (Faulty M n number place) n 0 start (runs M.run f start)
fault-named M start h f g number place n k e m =
    let w = ap (λ (g : ℕ). walk M.run g start) k in
    let c = ap (λ t. length t.readings) w in
    faulty M n number place f 0 start (sym (ap (λ t. t.ending) w) ∙ e) (omega (arith, h, c, m))

-- ---- a run-length column, over the element

-- no number is refused so
pub unlike : {s : List ℕ} {number place n : ℕ} → Broken s number place n → (m : ℕ) → 3 < m → m < 21 → number ≡ m → ⊥
unlike (Broken.none e f g) m l h k = omega arith
unlike (Broken.cut e f g h i) m l j k = omega arith
unlike (Broken.whole (inl e) f g h i j) m l o k = omega arith
unlike (Broken.whole (inr e) f g h i j) m l o k = omega arith

module _ {A : Type 0} (E : Element A) (L : ElementLaws E) (s : List ℕ) where
  -- the run at fault is named
  pub column-named : (number place n : ℕ) → (trace E s).ending ≡ fault number place → n ≡ length (trace E s).readings
      → Names (columns E L s) (Faulty (columns E L s) n number place) n 0 (spot 0 0) (spots_of E s)
  unfolding trace trace_from
  column-named number place n = fault-named (columns E L s) (spot 0 0) refl (length s) (length s - 0) number place n (omega arith)

  module _ {Q : Type 0} (t : Trace Q) (facts : Spot → Facts) (number place : ℕ) where
    abbrev pub reason_in : ℕ → Spot → Reason
    reason_in = reason_at (columns E L s) (spot 0 0) refl (length s) t (λ st. st.at) (λ p. signed_count (i64_at s p)) facts number place

    pub column-true : (Is : Spot → Type 0) (Why : Spot → Reason → Type 0) → Names (columns E L s) Is (length t.readings) 0 (spot 0 0) (spots_of E s)
        → t.ending ≡ fault number place → ((k : ℕ) (st : Spot) → Is st → st.had ≤ limit → Why st (reason_in k st))
        → (r : Reason)
        × (told number place (length t.readings) (λ st. st.at) (λ st. signed_count (i64_at s st.at)) facts (holding (λ (st : Spot). st.had) (length t.readings) 0 (spots_of E s))
        ≡ some r)
        × ColumnTrue E s t Why r
    column-true = named-true (columns E L s) (spot 0 0) refl (length s) t (λ st. st.at) (λ p. signed_count (i64_at s p)) facts number place

  -- and what is at fault in it, where the facts are plain
  pub plain-falls : (Value : Reason → Type 0) (r : Reason) (st : Spot) → r.facts ≡ plain_facts s r.number r.place st
      → ((q : ℕ) → q ≤ length s → Says E.read s r → E.read s q ≡ bad r.number r.place → (r.place ≡ q) × Value r)
      → Faulty (columns E L s) r.index r.number r.place st → st.had ≤ limit → ColumnFalls E s Value st r
  plain-falls Value r st f v y l =
      record {
        falls = y.0;
        index = y.1;
        fault = run-fault E L s Value st r l (λ e. f ∙ rw (eq-eqb r.number 5 e) refl) (λ e b. says b) (λ e b. says b) (λ q h e. v q h (λ e b. says b) e) y.0;
      }
    where
      says : {n : ℕ} → Broken s r.number r.place n → r.facts ≡ bytes (number_bytes 0 (drop r.place s))
      says b = f ∙ rw (ne_eqb r.number 5 (unlike b 5 (omega arith) (omega arith))) refl

-- ---- an integer column

pub integer-true : (s : List ℕ) → Explained (trace u64_e s) (integer_reason s) (IntegerTrue s)
unfolding integer_reason
integer-true s =
    explained (trace u64_e s) _ (IntegerTrue s)
    (λ number place e.
    column-true u64_e u64-laws s (trace u64_e s) (plain_facts s number place) number place (Faulty (columns u64_e u64-laws s) (length (trace u64_e s).readings) number place)
    (ColumnFalls u64_e s (Unread u64_at s)) (column-named u64_e u64-laws s number place (length (trace u64_e s).readings) e refl) e
    (λ k st. plain-falls u64_e u64-laws s (Unread u64_at s) _ st refl (λ q. u64-unread s _ q)))
