-- A delta column as a machine to be walked: the machine of its differences, whose runs are added up. What it walks is the column's
-- meaning (`delta-rest`). Assumes nothing.
use Prim.Native.Nat.{ℕ, zero, suc, ◌+◌, ◌-◌, ◌^◌, ◌≤◌, ◌<◌}
use mathlib.Core.Path.{◌≡◌, refl, sym, ◌∙◌, ap}
use mathlib.Core.List.{List, [], ◌∷◌, ◌++◌}
use mathlib.Core.Option.{Option, none, some}
use native.Mathlib.Omega.{arith}
use lib.IntN.{ℤ, pos}
use lib.ListN.{length, replicate}
use Rattle.leb128.specs.Read.{i64_at}
use Rattle.encoding.specs.Head.{Head, amiss, head_at}
use Rattle.encoding.specs.Walk.{Next, over, on, off, Run, whole, cut, stop, Ending, Trace, before, after}
use Rattle.encoding.specs.Column.{Reading, absent, present, Spot, spot, repeated, literals, run_of, run_at}
use Rattle.encoding.proofs.Walking.{Machine, rest, rest-is}
use Rattle.encoding.proofs.Columns.{columns, trace-rest, run-head, run_end}
use Rattle.delta_decoder.specs.Difference.{i64_e}
use Rattle.delta_decoder.specs.Sums.{held_sum, front, added, add_up, delta_trace}
use Rattle.delta_decoder.specs.Sofar.{sum_of, plus, Sofar, sofar, with_sum, summed, sum_run, summing, delta_run}
use Rattle.delta_decoder.proofs.DifferenceLaws.{i64-laws}
use Rattle.delta_decoder.proofs.Kept.{Kept, kept}
use Rattle.delta_decoder.proofs.Summing.{on-handed, sum-absent}

-- its differences: a run-length column of i64
abbrev pub integers : List ℕ → Machine (Reading ℤ) Spot
integers s = columns i64_e i64-laws s

-- where a run of sums goes on, its run of differences goes on
pub from-run : (s : List ℕ) (st z : Sofar) → (delta_run s st).next ≡ on z
    → ((run_at i64_e s (spot st.at st.had)).next ≡ on (spot z.at z.had))
    × (length (delta_run s st).readings ≡ length (run_at i64_e s (spot st.at st.had)).readings)
unfolding delta_run
from-run s st z e = let r = run_at i64_e s (spot st.at st.had) in on-handed st.sum r.readings r.next z e

-- THE MACHINE of a delta column
abbrev pub deltas : List ℕ → Machine (Reading ℤ) Sofar
deltas s =
    record {
      run = delta_run s;
      left = λ st. length s - st.at;
      had = λ st. st.had;
      falls = λ st z e. (integers s).falls (spot st.at st.had) (spot z.at z.had) (from-run s st z e).0;
      counts = λ st z e.
          let h = from-run s st z e in
          (integers s).counts (spot st.at st.had) (spot z.at z.had) h.0 ∙ ap (λ (k : ℕ). st.had + k) (sym h.1);
      capped = λ st z e. (integers s).capped (spot st.at st.had) (spot z.at z.had) (from-run s st z e).0;
    }

-- ---- what it walks

-- a run added up before what comes after it, where that is other differences added up
run-adds : (l : Sofar → Trace (Reading ℤ)) (x : Next Spot) (ts : List (Reading ℤ)) (end : Ending)
    → ((m : ℕ) → m < 2 ^ 64 → after (with_sum m x) l ≡ add_up (sum_of m) ts end)
    → (n : ℕ) (rs : List (Reading ℤ)) → n < 2 ^ 64
    → before (sum_run n rs x).readings (after (sum_run n rs x).next l) ≡ add_up (sum_of n) (rs ++ ts) end
unfolding sum_run summed add_up added
run-adds l x ts end h n [] b = h n b
run-adds l x ts end h n (absent ∷ rs) b = ap (front absent) (run-adds l x ts end h n rs b)
run-adds l x ts end h n (present d q ∷ rs) b = go (plus n d) (kept n d b) (λ m c. run-adds l x ts end h m rs c)
  where
    go : (o : Option ℕ) → Kept n d o
        → ((m : ℕ) → m < 2 ^ 64 → before (sum_run m rs x).readings (after (sum_run m rs x).next l) ≡ add_up (sum_of m) (rs ++ ts) end)
        → before (summed q o (λ m. sum_run m rs x)).readings (after (summed q o (λ m. sum_run m rs x)).next l)
        ≡ added q (held_sum (sum_of n) d) (λ y. add_up y (rs ++ ts) end)
    go none e k = sym (ap (λ (o : Option ℤ). added q o (λ y. add_up y (rs ++ ts) end)) e)
    go (some m) e k =
        ap (front (present (sum_of m) q)) (k m e.1) ∙ sym (ap (λ (o : Option ℤ). added q o (λ y. add_up y (rs ++ ts) end)) e.0)

-- the sums to come are the differences to come, added up
module _ (s : List ℕ) where
  abbrev Adds : ℕ → ℕ → ℕ → Type 0
  Adds at had n =
      rest (deltas s) (sofar at had n) ≡ add_up (sum_of n) (rest (integers s) (spot at had)).readings (rest (integers s) (spot at had)).ending

  adds : (fuel at had n : ℕ) → length s - at < fuel → n < 2 ^ 64 → Adds at had n
  unfolding delta_run add_up
  adds zero at had n l b = absurd (omega arith)
  adds (suc fuel) at had n l b =
      let r = run_at i64_e s (spot at had) in
      let t = rest-is (integers s) (spot at had) r.next refl in
      rest-is (deltas s) (sofar at had n) (sum_run n r.readings r.next).next refl
      ∙ run-adds (rest (deltas s)) r.next (after r.next (rest (integers s))).readings (after r.next (rest (integers s))).ending
      (go r.next refl (λ z m f c. adds fuel z.at z.had m f c)) n r.readings b
      ∙ sym (ap (λ (t : Trace (Reading ℤ)). add_up (sum_of n) t.readings t.ending) t)
    where
      go : (x : Next Spot) → (run_at i64_e s (spot at had)).next ≡ x
          → ((z : Spot) (m : ℕ) → length s - z.at < fuel → m < 2 ^ 64 → Adds z.at z.had m)
          → (m : ℕ) → m < 2 ^ 64
          → after (with_sum m x) (rest (deltas s)) ≡ add_up (sum_of m) (after x (rest (integers s))).readings (after x (rest (integers s))).ending
      go over e h m c = refl
      go (on z) e h m c = h z m (omega (arith, (integers s).falls (spot at had) z e)) c
      go (off number place) e h m c = refl

  pub delta-adds : (at had n : ℕ) → n < 2 ^ 64
      → rest (deltas s) (sofar at had n) ≡ add_up (sum_of n) (rest (integers s) (spot at had)).readings (rest (integers s) (spot at had)).ending
  delta-adds at had n b = adds (suc (length s - at)) at had n (omega arith) b

  pub delta-rest : delta_trace s ≡ rest (deltas s) (sofar 0 0 (2 ^ 63))
  unfolding delta_trace sum_of
  delta-rest =
      ap (λ (t : Trace (Reading ℤ)). add_up (pos 0) t.readings t.ending) (trace-rest i64_e i64-laws s)
      ∙ sym (delta-adds 0 0 (2 ^ 63) (omega arith))

-- ---- a run by how it begins

module _ (s : List ℕ) (at had n : ℕ) where
  delta-head : (h : Head) → at < length s → head_at s at had ≡ h → delta_run s (sofar at had n) ≡ summing n (run_of i64_e s had h)
  unfolding delta_run
  delta-head h l e = ap (λ (r : Run (Reading ℤ) Spot). summing n r) (run-head i64_e s at had h l e)

  pub delta-repeat : (c q : ℕ) → at < length s → head_at s at had ≡ Head.repeat c q
      → delta_run s (sofar at had n) ≡ summing n (repeated had c q (i64_at s q))
  unfolding run_of
  delta-repeat c q l e = delta-head (Head.repeat c q) l e

  pub delta-literal : (c q : ℕ) → at < length s → head_at s at had ≡ Head.literal c q
      → delta_run s (sofar at had n) ≡ summing n (literals i64_e s (had + c) c q)
  unfolding run_of
  delta-literal c q l e = delta-head (Head.literal c q) l e

  pub delta-absent : (c q : ℕ) → at < length s → head_at s at had ≡ Head.absent c q
      → delta_run s (sofar at had n) ≡ whole (replicate c absent) (sofar q (had + c) n)
  unfolding run_of
  delta-absent c q l e = delta-head (Head.absent c q) l e ∙ sum-absent n c (on (spot q (had + c)))

  pub delta-amiss : (number place : ℕ) → at < length s → head_at s at had ≡ amiss number place
      → delta_run s (sofar at had n) ≡ cut number place
  unfolding run_of sum_run
  delta-amiss number place l e = delta-head (amiss number place) l e

  pub delta-end : length s ≤ at → delta_run s (sofar at had n) ≡ stop
  unfolding delta_run sum_run
  delta-end l = ap (λ (r : Run (Reading ℤ) Spot). summing n r) (run_end i64_e s at had l)
