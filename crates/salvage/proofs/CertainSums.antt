-- Where a delta column ends at a number that is due, 21, all is open behind what was kept (`delta-open`): of the values lacking one column repeats the sum,
-- and another goes up or down by one each time, away from the nearer bound of i64. Assumes nothing.
use Prim.Native.Nat.{ℕ, zero, suc, ◌+◌, ◌-◌, ◌^◌, ◌≤◌, ◌<◌}
use mathlib.Core.Path.{◌≡◌, refl, sym, ◌∙◌, ap, subst}
use mathlib.Core.List.{List, [], ◌∷◌, ◌++◌, map}
use mathlib.Core.Option.{Option, none, some}
use mathlib.Core.Bool.{true}
use native.Mathlib.Decide.{dec_lt}
use native.Mathlib.Omega.{arith}
use lib.Dec.{ltb}
use lib.IntN.{ℤ, pos, negsuc}
use lib.ListN.{length, replicate}
use borrow.Author.Tests.{lt-ltb}
use Rattle.leb128.specs.Write.{encoded, i64_bytes}
use Rattle.encoding.specs.Limit.{limit}
use Rattle.encoding.specs.Walk.{Ending, sound, fault, Trace, before}
use Rattle.encoding.specs.Column.{Reading, absent, present, value, trace}
use Rattle.encoding.proofs.Lists.{map-append}
use Rattle.delta_decoder.specs.Difference.{i64_e}
use Rattle.delta_decoder.specs.Sums.{held_sum, added, add_up, delta_trace}
use Rattle.delta_decoder.specs.Sofar.{sum_of, plus}
use Rattle.delta_decoder.proofs.DifferenceLaws.{i64-laws}
use Rattle.delta_decoder.proofs.Kept.{sum_low, sum-high, Kept, kept}
use Rattle.salvage.specs.Kept.{Prefix, Bytes, Certain, Open}
use Rattle.salvage.proofs.Staying.{i64-stays}
use Rattle.salvage.proofs.Due.{i64-due}
use Rattle.salvage.proofs.Mended.{Mends, Mendable, mended}
use Rattle.salvage.proofs.Certain.{Apart, parted}

-- ---- the sum that was reached

-- differences rs added up from n on, without 6, come to m
record Reached (n : ℕ) (rs : List (Reading ℤ)) (e : Ending) : Type 0 where
  m : ℕ
  kept : m < 2 ^ 64
  on : (ts : List (Reading ℤ)) (x : Ending) → add_up (sum_of n) (rs ++ ts) x ≡ before (add_up (sum_of n) rs e).readings (add_up (sum_of m) ts x)

reached : (n place : ℕ) (rs : List (Reading ℤ)) (e : Ending) → n < 2 ^ 64 → (add_up (sum_of n) rs e).ending ≡ fault 21 place
    → Reached n rs e × (e ≡ fault 21 place)
unfolding add_up added
reached n place [] e l h = (record { m = n; kept = l; on = λ ts x. refl }, h)
reached n place (absent ∷ rs) e l h =
    let k = reached n place rs e l h in
    (record { m = k.0.m; kept = k.0.kept; on = λ ts x. ap (before (absent ∷ [])) (k.0.on ts x) }, k.1)
reached n place (present d p ∷ rs) e l h = go (plus n d) (kept n d l) (λ j c g. reached j place rs e c g)
  where
    go : (o : Option ℕ) → Kept n d o
        → ((j : ℕ) → j < 2 ^ 64 → (add_up (sum_of j) rs e).ending ≡ fault 21 place → Reached j rs e × (e ≡ fault 21 place))
        → Reached n (present d p ∷ rs) e × (e ≡ fault 21 place)
    go none k ih =
        let g : fault 6 p ≡ fault 21 place = sym (ap (λ (w : Option ℤ). (added p w (λ y. add_up y rs e)).ending) k) ∙ h in
        let z : ◌≡◌ {A = ℕ} 6 21 = cc in
        absurd (omega arith)
    go (some j) k ih =
        let a : (add_up (sum_of j) rs e).ending ≡ fault 21 place = sym (ap (λ (w : Option ℤ). (added p w (λ y. add_up y rs e)).ending) k.0) ∙ h in
        let r = ih j k.1 a in (
          record {
            m = r.0.m;
            kept = r.0.kept;
            on = λ ts x.
                ap (λ (w : Option ℤ). added p w (λ y. add_up y (rs ++ ts) x)) k.0
                ∙ ap (before (present (sum_of j) p ∷ [])) (r.0.on ts x)
                ∙ ap (λ (w : Option ℤ). before (added p w (λ y. add_up y rs e)).readings (add_up (sum_of r.0.m) ts x)) (sym k.0);
          },
          r.1,
        )

-- ---- one difference d over and over, c times from n on, each sum held

none-some : {A : Type 0} (a : A) (xs ys : List (Option A)) → none ∷ xs ≡ some a ∷ ys → ⊥
none-some a xs ys e = let z : ◌≡◌ {A = ℕ} 0 1 = cc in omega arith

module _ (d : ℤ) (next : ℕ → ℕ) (P : ℕ → ℕ → Type 0)
    (steps : (c n : ℕ) → P (suc c) n → (held_sum (sum_of n) d ≡ some (sum_of (next n))) × P c (next n)) where
  abbrev sums_from : ℕ → ℕ → List (Option ℤ)
  sums_from zero n = []
  sums_from (suc c) n = some (sum_of (next n)) ∷ sums_from c (next n)

  add-over : (c n : ℕ) (rs : List (Reading ℤ)) → map value rs ≡ replicate c (some d) → P c n
      → ((add_up (sum_of n) rs sound).ending ≡ sound) × (map value (add_up (sum_of n) rs sound).readings ≡ sums_from c n)
  unfolding add_up added value
  add-over zero n [] e h = (refl, refl)
  add-over zero n (r ∷ rs) e h = absurd (omega (arith, ap length e))
  add-over (suc c) n [] e h = absurd (omega (arith, ap length e))
  add-over (suc c) n (absent ∷ rs) e h = absurd (none-some d (map value rs) (replicate c (some d)) e)
  add-over (suc c) n (present a p ∷ rs) e h =
      let k : some a ∷ map value rs ≡ some d ∷ replicate c (some d) = e in
      let f : map value rs ≡ replicate c (some d) = cc in
      let g : a ≡ d = cc in
      let s = steps c n h in
      let w : held_sum (sum_of n) a ≡ some (sum_of (next n)) = ap (held_sum (sum_of n)) g ∙ s.0 in
      let ih = add-over c (next n) rs f s.1 in (
        ap (λ (w : Option ℤ). (added p w (λ y. add_up y rs sound)).ending) w ∙ ih.0,
        ap (λ (w : Option ℤ). map value (added p w (λ y. add_up y rs sound)).readings) w ∙ ap (λ (l : List (Option ℤ)). some (sum_of (next n)) ∷ l) ih.1,
      )

by_plus : (n m : ℕ) (d : ℤ) → n < 2 ^ 64 → plus n d ≡ some m → held_sum (sum_of n) d ≡ some (sum_of m)
by_plus n m d l e = (subst (Kept n d) e (kept n d l)).0

-- staying, going up and going down
abbrev Stay : ℕ → ℕ → Type 0
Stay c n = n < 2 ^ 64

abbrev Up : ℕ → ℕ → Type 0
Up c n = n + c < 2 ^ 64

abbrev Down : ℕ → ℕ → Type 0
Down c n = (c ≤ n) × (n < 2 ^ 64)

stay : (c n : ℕ) → Stay (suc c) n → (held_sum (sum_of n) (pos 0) ≡ some (sum_of n)) × Stay c n
unfolding plus
stay c n h =
    let e : n + 0 ≡ n = omega arith in
    let l : ltb (n + 0) (2 ^ 64) ≡ true = lt-ltb (n + 0) (2 ^ 64) (omega arith) in
    let p : plus n (pos 0) ≡ some n = rw l (ap some e) in
    (by_plus n n (pos 0) h p, h)

up : (c n : ℕ) → Up (suc c) n → (held_sum (sum_of n) (pos 1) ≡ some (sum_of (suc n))) × Up c (suc n)
unfolding plus
up c n h =
    let e : n + 1 ≡ suc n = omega arith in
    let l : ltb (n + 1) (2 ^ 64) ≡ true = lt-ltb (n + 1) (2 ^ 64) (omega arith) in
    let p : plus n (pos 1) ≡ some (suc n) = rw l (ap some e) in
    (by_plus n (suc n) (pos 1) (omega arith) p, omega arith)

down : (c n : ℕ) → Down (suc c) n → (held_sum (sum_of n) (negsuc 0) ≡ some (sum_of (n - 1))) × Down c (n - 1)
unfolding plus
down c n h =
    let l : ltb 0 n ≡ true = lt-ltb 0 n (omega arith) in
    let p : plus n (negsuc 0) ≡ some (n - 1) = rw l refl in
    (by_plus n (n - 1) (negsuc 0) h.1 p, (omega arith, omega arith))

-- two sums, one apart, differ
sums-differ : (n : ℕ) → sum_of n ≡ sum_of (suc n) → ⊥
sums-differ n e = elim (dec_lt (suc n) (2 ^ 63)) [
  | yes l ↦
      let z : negsuc (2 ^ 63 - suc n) ≡ negsuc (2 ^ 63 - suc (suc n)) = sym (sum_low n (omega arith)) ∙ e ∙ sum_low (suc n) l in
      let y : 2 ^ 63 - suc n ≡ 2 ^ 63 - suc (suc n) = cc in
      omega arith
  | no l ↦
      elim (dec_lt n (2 ^ 63)) [
        | yes k ↦
            let z : negsuc (2 ^ 63 - suc n) ≡ pos (suc n - 2 ^ 63) = sym (sum_low n k) ∙ e ∙ sum-high (suc n) (omega arith) in
            let y : ◌≡◌ {A = ℕ} 0 1 = cc in
            omega arith
        | no k ↦
            let z : pos (n - 2 ^ 63) ≡ pos (suc n - 2 ^ 63) = sym (sum-high n (omega arith)) ∙ e ∙ sum-high (suc n) (omega arith) in
            let y : n - 2 ^ 63 ≡ suc n - 2 ^ 63 = cc in
            omega arith
      ]
]

-- ---- the two columns

apart-sums : (c n : ℕ) (next other : ℕ → ℕ) → (sum_of (next n) ≡ sum_of (other n) → ⊥) → (d e : ℤ) (P Q : ℕ → ℕ → Type 0)
    (f : (c n : ℕ) → P (suc c) n → (held_sum (sum_of n) d ≡ some (sum_of (next n))) × P c (next n))
    (g : (c n : ℕ) → Q (suc c) n → (held_sum (sum_of n) e ≡ some (sum_of (other n))) × Q c (other n))
    → Apart (sums_from d next P f c n) (sums_from e other Q g c n)
apart-sums zero n next other h d e P Q f g = tt
apart-sums (suc c) n next other h d e P Q f g = λ k. h (let z : sum_of (next n) ≡ sum_of (other n) = cc in z)

zero-sum : sum_of (2 ^ 63) ≡ pos 0
unfolding sum_of
zero-sum = refl

delta-at : (s : List ℕ) → delta_trace s ≡ add_up (sum_of (2 ^ 63)) (trace i64_e s).readings (trace i64_e s).ending
unfolding delta_trace
delta-at s = ap (λ (z : ℤ). add_up z (trace i64_e s).readings (trace i64_e s).ending) (sym zero-sum)

one_byte : (b : ℕ) → b < 256 → Bytes (b ∷ [])
one_byte b l zero = l
one_byte b l (suc i) = omega arith

stay-bytes : Bytes (i64_bytes (pos 0))
unfolding encoded
stay-bytes = one_byte 0 (omega arith)

up-bytes : Bytes (i64_bytes (pos 1))
unfolding encoded
up-bytes = one_byte 1 (omega arith)

down-bytes : Bytes (i64_bytes (negsuc 0))
unfolding encoded
down-bytes = one_byte 127 (omega arith)

module _ (s : List ℕ) (place : ℕ) (e : (delta_trace s).ending ≡ fault 21 place) where
  sums : Reached (2 ^ 63) (trace i64_e s).readings (trace i64_e s).ending × ((trace i64_e s).ending ≡ fault 21 place)
  sums =
      reached (2 ^ 63) place (trace i64_e s).readings (trace i64_e s).ending (omega arith) (sym (ap (λ (t : Trace (Reading ℤ)). t.ending) (delta-at s)) ∙ e)

  lacking : Mendable i64_e i64-laws i64-stays i64-due s (trace i64_e)
  lacking = mended i64_e i64-laws i64-stays i64-due s place sums.1

  -- the column that goes on with c times d
  module _ (d : ℤ) (next : ℕ → ℕ) (P : ℕ → ℕ → Type 0)
      (steps : (c n : ℕ) → P (suc c) n → (held_sum (sum_of n) d ≡ some (sum_of (next n))) × P c (next n))
      (fits : i64_e.fits d ≡ true) (goes : P lacking.0 sums.0.m) where
    column : Mends s (trace i64_e) lacking.0 d (i64_e.write d)
    column = lacking.2 d fits

    column-is : delta_trace (s ++ column.u) ≡ before (delta_trace s).readings (add_up (sum_of sums.0.m) column.more sound)
    column-is =
        delta-at (s ++ column.u)
        ∙ ap (λ (t : Trace (Reading ℤ)). add_up (sum_of (2 ^ 63)) t.readings t.ending) column.reads
        ∙ sums.0.on column.more sound
        ∙ ap (λ (t : Trace (Reading ℤ)). before t.readings (add_up (sum_of sums.0.m) column.more sound)) (sym (delta-at s))

    column-sound : (delta_trace (s ++ column.u)).ending ≡ sound
    column-sound =
        ap (λ (t : Trace (Reading ℤ)). t.ending) column-is ∙ (add-over d next P steps lacking.0 sums.0.m column.more column.same goes).0

    column-list : map value (delta_trace (s ++ column.u)).readings
        ≡ map value (delta_trace s).readings ++ sums_from d next P steps lacking.0 sums.0.m
    column-list =
        ap (λ (t : Trace (Reading ℤ)). map value t.readings) column-is
        ∙ map-append value (delta_trace s).readings (add_up (sum_of sums.0.m) column.more sound).readings
        ∙ ap (λ (l : List (Option ℤ)). map value (delta_trace s).readings ++ l)
        (add-over d next P steps lacking.0 sums.0.m column.more column.same goes).1

  a-column : (u : List ℕ) × Bytes u × ((delta_trace (s ++ u)).ending ≡ sound)
  a-column =
      let k = column (pos 0) (λ n. n) Stay stay refl sums.0.kept in
      (k.u, k.bytes stay-bytes, column-sound (pos 0) (λ n. n) Stay stay refl sums.0.kept)

  other-column : (d : ℤ) (next : ℕ → ℕ) (P : ℕ → ℕ → Type 0)
      (steps : (c n : ℕ) → P (suc c) n → (held_sum (sum_of n) d ≡ some (sum_of (next n))) × P c (next n))
      → i64_e.fits d ≡ true → P lacking.0 sums.0.m → Bytes (i64_e.write d) → (sum_of sums.0.m ≡ sum_of (next sums.0.m) → ⊥)
      → (xs : List (Option ℤ)) → Certain delta_trace value s xs → Prefix xs (map value (delta_trace s).readings)
  other-column d next P steps fits goes b differ =
      let n : ℕ = sums.0.m in
      let c : ℕ = lacking.0 in
      let j = column (pos 0) (λ n. n) Stay stay refl sums.0.kept in
      let k = column d next P steps fits goes in
      parted delta_trace value s j.u k.u (map value (delta_trace s).readings) (sums_from (pos 0) (λ n. n) Stay stay c n) (sums_from d next P steps c n)
      (apart-sums c n (λ n. n) next differ (pos 0) d Stay P stay steps) (j.bytes stay-bytes) (k.bytes b)
      (column-sound (pos 0) (λ n. n) Stay stay refl sums.0.kept) (column-sound d next P steps fits goes)
      (column-list (pos 0) (λ n. n) Stay stay refl sums.0.kept) (column-list d next P steps fits goes)

  none-longer : (xs : List (Option ℤ)) → Certain delta_trace value s xs → Prefix xs (map value (delta_trace s).readings)
  none-longer =
      let n : ℕ = sums.0.m in
      let c : ℕ = lacking.0 in
      let l : c ≤ limit = lacking.1 in
      let h : n < 2 ^ 64 = sums.0.kept in
      elim (dec_lt n (2 ^ 63)) [
        | yes k ↦ other-column (pos 1) (λ n. suc n) Up up refl (omega arith) up-bytes (sums-differ n)
        | no k ↦
            let z : suc (n - 1) ≡ n = omega arith in
            other-column (negsuc 0) (λ n. n - 1) Down down refl (omega arith, h) down-bytes
            (λ q. sums-differ (n - 1) (sym q ∙ ap sum_of (sym z)))
      ]

-- THE LAW of a delta column
pub delta-open : Open delta_trace value
delta-open = record { mended = a-column; longest = none-longer }
