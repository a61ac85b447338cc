-- THE REASON OF A DELTA COLUMN IS TRUE. For 6 the run named holds the delta at the place, at the index named, and the sum before it and the delta leave i64 together; any other fault
-- is that of the differences. No earlier sum leaves i64 (`sums-held`). Assumes nothing.
use Prim.Native.Nat.{ℕ, zero, suc, ◌-◌, ◌≤◌, ◌<◌}
use mathlib.Core.Logic.{◌⊎◌, inl, inr}
use mathlib.Core.Path.{◌≡◌, refl, sym, ◌∙◌, ap}
use mathlib.Core.List.{List, [], ◌∷◌}
use mathlib.Core.Option.{none, some}
use mathlib.Core.Bool.{Bool, true, false, cond}
use native.Mathlib.Omega.{arith}
use lib.IntN.{ℤ, pos, ◌+ℤ◌}
use lib.ListN.{length, get_or}
use borrow.Author.Tests.{lt-ltb, eq-eqb, ne_eqb}
use Rattle.leb128.specs.Got.{Got, got}
use Rattle.leb128.specs.Read.{i64_at}
use Rattle.leb128.proofs.Laws.{i64-only}
use Rattle.encoding.specs.Column.{Reading, absent, present, Spot, spot, run_at, trace_from, trace}
use Rattle.encoding.specs.Limit.{limit}
use Rattle.encoding.specs.Walk.{Ending, fault, Trace, walk}
use Rattle.encoding.proofs.Columns.{columns}
use Rattle.text.proofs.Placed.{Each, trace-each}
use Rattle.delta_decoder.specs.Difference.{i64_e, holds}
use Rattle.delta_decoder.proofs.DifferenceLaws.{i64-laws}
use Rattle.delta_decoder.specs.Sums.{held_sum, front, added, add_up, delta_trace, last_sum}
use Rattle.reason.specs.Reason.{sum, Reason, signed_count, holding, told, delta, plain_facts, spots_of, sum_facts, delta_reason}
use Rattle.reason.specs.True.{Explained, Unread, RunFault, ColumnFalls, Leaves, SumsHeld, DeltaTrue}
use Rattle.reason.proofs.Named.{Names, Faulty, Having, having}
use Rattle.reason.proofs.RunFaults.{i64-unread}
use Rattle.reason.proofs.Truths.{explained, unlike, column-named, column-true, plain-falls}

-- ---- each sum that is told is held

no-reading : {X : Type 0} {z : ℤ} {q : ℕ} → ◌≡◌ {A = Reading ℤ} absent (present z q) → X
no-reading h = let y : ◌≡◌ {A = ℕ} 0 1 = cc in absurd (omega arith)

held_in : (z : ℤ) (rs : List (Reading ℤ)) (e : Ending) (i : ℕ) (y : ℤ) (q : ℕ) → get_or (add_up z rs e).readings i absent ≡ present y q → holds y ≡ true
unfolding add_up added held_sum
held_in z [] e i y q h = no-reading h
held_in z (absent ∷ rs) e zero y q h = no-reading h
held_in z (absent ∷ rs) e (suc i) y q h = held_in z rs e i y q h
held_in z (present d p ∷ rs) e i y q h = go (holds (z +ℤ d)) refl i (λ j k. held_in (z +ℤ d) rs e j y q k) h
  where
    go : (t : Bool) → holds (z +ℤ d) ≡ t → (i : ℕ) → ((j : ℕ) → get_or (add_up (z +ℤ d) rs e).readings j absent ≡ present y q → holds y ≡ true)
        → get_or (added p (cond t (some (z +ℤ d)) none) (λ y. add_up y rs e)).readings i absent ≡ present y q → holds y ≡ true
    go false o i ih h = no-reading h
    go true o zero ih h = let k : z +ℤ d ≡ y = cc in sym (ap holds k) ∙ o
    go true o (suc i) ih h = ih i h

sums-held : (s : List ℕ) → SumsHeld s
unfolding delta_trace
sums-held s i z place h = held_in (pos 0) (trace i64_e s).readings (trace i64_e s).ending i z place h

-- ---- what is read at a place

abbrev ReadAt : List ℕ → ℤ → ℕ → Type 0
ReadAt s d place = (z : ℕ) × (i64_at s place ≡ got d z)

-- differences added up from z on: all of them, and the ending is theirs; or up to one at a place, with which the sum leaves i64
record Beyond (s : List ℕ) (z : ℤ) (rs : List (Reading ℤ)) (e : Ending) (place : ℕ) : Type 0 where
  d : ℤ
  read : ReadAt s d place
  held : holds (last_sum z (add_up z rs e).readings) ≡ true
  outside : holds (last_sum z (add_up z rs e).readings +ℤ d) ≡ false
  fewer : length (add_up z rs e).readings < length rs
  reading : get_or rs (length (add_up z rs e).readings) absent ≡ present d place

abbrev Summed : List ℕ → ℤ → List (Reading ℤ) → Ending → Trace (Reading ℤ) → Type 0
Summed s z rs e t = ((t.ending ≡ e) × (length t.readings ≡ length rs)) ⊎ ((place : ℕ) × (t.ending ≡ fault 6 place) × Beyond s z rs e place)

module _ (s : List ℕ) where
  added-up : (z : ℤ) (rs : List (Reading ℤ)) (e : Ending) → holds z ≡ true → Each (ReadAt s) rs → Summed s z rs e (add_up z rs e)
  unfolding add_up added held_sum
  added-up z [] e c h = inl (refl, refl)
  added-up z (absent ∷ rs) e c h = more (added-up z rs e c h)
    where
      more : Summed s z rs e (add_up z rs e) → Summed s z (absent ∷ rs) e (front absent (add_up z rs e))
      more (inl x) = inl (x.0, ap suc x.1)
      more (inr x) =
          let y = x.2 in
          inr (x.0, x.1, record { d = y.d; read = y.read; held = y.held; outside = y.outside; fewer = omega (arith, y.fewer); reading = y.reading })
  added-up z (present d q ∷ rs) e c h = go (holds (z +ℤ d)) refl (λ c. added-up (z +ℤ d) rs e c h.1)
    where
      sums : Bool → List (Reading ℤ)
      sums t = (added q (cond t (some (z +ℤ d)) none) (λ y. add_up y rs e)).readings

      go : (t : Bool) → holds (z +ℤ d) ≡ t → (holds (z +ℤ d) ≡ true → Summed s (z +ℤ d) rs e (add_up (z +ℤ d) rs e))
          → Summed s z (present d q ∷ rs) e (added q (cond t (some (z +ℤ d)) none) (λ y. add_up y rs e))
      go false o r =
          inr (
            q,
            refl,
            record {
              d = d;
              read = h.0;
              held = ap (λ (t : Bool). holds (last_sum z (sums t))) o ∙ c;
              outside = ap (λ (t : Bool). holds (last_sum z (sums t) +ℤ d)) o ∙ o;
              fewer = let k = ap (λ (t : Bool). length (sums t)) o in omega (arith, k);
              reading = ap (λ (t : Bool). get_or (present d q ∷ rs) (length (sums t)) absent) o;
            },
          )
      go true o r = more (r o)
        where
          more : Summed s (z +ℤ d) rs e (add_up (z +ℤ d) rs e) → Summed s z (present d q ∷ rs) e (front (present (z +ℤ d) q) (add_up (z +ℤ d) rs e))
          more (inl x) = inl (x.0, ap suc x.1)
          more (inr x) =
              let y = x.2 in
              inr (
                x.0,
                x.1,
                record {
                  d = y.d;
                  read = y.read;
                  held = ap (λ (t : Bool). holds (last_sum z (sums t))) o ∙ y.held;
                  outside = ap (λ (t : Bool). holds (last_sum z (sums t) +ℤ y.d)) o ∙ y.outside;
                  fewer = let k = ap (λ (t : Bool). length (sums t)) o in omega (arith, k, y.fewer);
                  reading = ap (λ (t : Bool). get_or (present d q ∷ rs) (length (sums t)) absent) o ∙ y.reading;
                },
              )

  summing : Summed s (pos 0) (trace i64_e s).readings (trace i64_e s).ending (delta_trace s)
  unfolding delta_trace
  summing = added-up (pos 0) (trace i64_e s).readings (trace i64_e s).ending refl (trace-each (ReadAt s) i64_e s (λ p q a f. (q, f)))

  -- no difference is refused with 6 itself
  not-six : (k : ℕ) (st : Spot) (r : Reason) → RunFault i64_e s (Unread i64_at s) k st r → r.number ≡ 6 → ⊥
  not-six k st r (RunFault.first o e u) h = unlike u.broken 6 (omega arith) (omega arith) h
  not-six k st r (RunFault.second o e u) h = unlike u.broken 6 (omega arith) (omega arith) h
  not-six k st r (RunFault.many o e f a l m) h = omega arith
  not-six k st r (RunFault.value v u) h = unlike u.broken 6 (omega arith) (omega arith) h

  -- the fault of a difference
  difference-falls : (r : Reason) (st : Spot) → r.facts ≡ plain_facts s r.number r.place st
      → Faulty (columns i64_e i64-laws s) r.index r.number r.place st → st.had ≤ limit → ColumnFalls i64_e s (Unread i64_at s) st r
  difference-falls r st f = plain-falls i64_e i64-laws s (Unread i64_at s) r st f (λ q h. i64-unread s r q h)

  never-six : (place : ℕ) → (trace i64_e s).ending ≡ fault 6 place → ⊥
  never-six place e =
      let M = columns i64_e i64-laws s in
      let t =
      column-true i64_e i64-laws s (trace i64_e s) (plain_facts s 6 place) 6 place (Faulty M (length (trace i64_e s).readings) 6 place) (ColumnFalls i64_e s (Unread i64_at s))
      (column-named i64_e i64-laws s 6 place (length (trace i64_e s).readings) e refl) e (λ k st. difference-falls _ st refl) in
      let q : fault 6 place ≡ fault t.0.number t.0.place = sym e ∙ t.2.fault in
      not-six _ t.2.state t.0 t.2.why.fault cc

  -- the run that has a difference is named
  difference-named : (n : ℕ) (v : Reading ℤ) → n < length (trace i64_e s).readings → get_or (trace i64_e s).readings n absent ≡ v
      → Names (columns i64_e i64-laws s) (Having (columns i64_e i64-laws s) absent v n) n 0 (spot 0 0) (spots_of i64_e s)
  unfolding trace trace_from
  difference-named n v =
      let k : length s - 0 ≡ length s = omega arith in
      let w = ap (λ (f : ℕ). (walk (run_at i64_e s) f (spot 0 0)).readings) k in
      λ l e.
      having (columns i64_e i64-laws s) absent v n n (length s) 0 (spot 0 0) (omega arith) (omega (arith, l, ap length w)) (ap (λ (xs : List (Reading ℤ)). get_or xs n absent) (sym w) ∙ e)

  abbrev Why : Spot → Reason → Type 0
  Why st r = SumsHeld s × (ColumnFalls i64_e s (Unread i64_at s) st r ⊎ Leaves s st r)

  -- a reason of the run that is named, which is true
  abbrev Given : ℕ → ℕ → Type 0
  Given number place =
      (r : Reason)
      × (told number place (length (delta_trace s).readings) (λ st. st.at) (λ st. signed_count (i64_at s st.at)) (sum_facts s number place)
      (holding (λ (st : Spot). st.had) (length (delta_trace s).readings) 0 (spots_of i64_e s)) ≡ some r)
      × DeltaTrue s r

  -- any fault but 6 is the differences' own
  own : (number place : ℕ) → (delta_trace s).ending ≡ fault number place → (delta_trace s).ending ≡ (trace i64_e s).ending
      → length (delta_trace s).readings ≡ length (trace i64_e s).readings → Given number place
  own number place e x y =
      let M = columns i64_e i64-laws s in
      let n = length (delta_trace s).readings in
      let h : (trace i64_e s).ending ≡ fault number place = sym x ∙ e in
      let other : number ≡ 6 → ⊥ = λ m. never-six place (h ∙ ap (λ (i : ℕ). fault i place) m) in
      column-true i64_e i64-laws s (delta_trace s) (sum_facts s number place) number place (Faulty M n number place) Why (column-named i64_e i64-laws s number place n h y) e
      (λ k st f l. (sums-held s, inl (difference-falls _ st (rw (ne_eqb number 6 other) refl) f l)))

  leaves : (number place : ℕ) → (delta_trace s).ending ≡ fault number place → number ≡ 6 → Beyond s (pos 0) (trace i64_e s).readings (trace i64_e s).ending place
      → Given number place
  unfolding delta_trace
  leaves number place e m y =
      let n = length (delta_trace s).readings in
      let v : Reading ℤ = present y.d place in
      column-true i64_e i64-laws s (delta_trace s) (sum_facts s number place) number place (Having (columns i64_e i64-laws s) absent v n) Why (difference-named n v y.fewer y.reading) e
      (λ k st h l. (
        sums-held s,
        inr (
            record {
              number = m;
              z = last_sum (pos 0) (delta_trace s).readings;
              d = y.d;
              facts = rw (eq-eqb number 6 m) (ap (λ (g : Got ℤ). sum (last_sum (pos 0) (delta_trace s).readings) (delta g)) y.read.1);
              last = refl;
              next = y.read.0;
              there = y.read.1;
              nth = h.0;
              index = h.1;
              reading = h.2;
              held = y.held;
              small = λ B. lt-ltb _ _ (i64-only s B place y.read.0 y.d y.read.1).1;
              outside = y.outside;
            }
            ),
      ))

  pub delta-true : Explained (delta_trace s) (delta_reason s) (DeltaTrue s)
  unfolding delta_reason
  delta-true = explained (delta_trace s) _ (DeltaTrue s) (λ number place e. go number place e summing)
    where
      go : (number place : ℕ) → (delta_trace s).ending ≡ fault number place → Summed s (pos 0) (trace i64_e s).readings (trace i64_e s).ending (delta_trace s) → Given number place
      go number place e (inl x) = own number place e x.0 x.1
      go number place e (inr x) =
          let q : fault 6 x.0 ≡ fault number place = sym x.1 ∙ e in
          let m : 6 ≡ number = cc in
          let p : x.0 ≡ place = cc in
          leaves number place e (sym m) (rw p at x.2)
