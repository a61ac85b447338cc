-- Sizes that a u64 holds: what a sum of them comes to, and what is owed while sizes are added up. Assumes nothing.
use Prim.Native.Nat.{ℕ, ◌+◌, ◌^◌, ◌≤◌, ◌<◌}
use mathlib.Core.Path.{◌≡◌, refl, sym, ◌∙◌, ap}
use mathlib.Core.Option.{Option, none, some}
use mathlib.Core.Bool.{Bool, true, false, cond}
use native.Mathlib.Omega.{arith}
use lib.Dec.{ltb}
use borrow.Author.Tests.{ltb-true, ltb-false, lt-ltb, le-ltb}
use Rattle.encoding.specs.Cases.{fit}

pub fit_is : (n : ℕ) → n < 2 ^ 64 → some n ≡ fit n
unfolding fit
fit_is n h = sym (ap (λ (t : Bool). cond t (some n) none) (lt-ltb n (2 ^ 64) h))

pub fit-beyond : (n : ℕ) → 2 ^ 64 ≤ n → none ≡ fit n
unfolding fit
fit-beyond n h = sym (ap (λ (t : Bool). cond t (some n) none) (le-ltb n (2 ^ 64) h))

pub is-fit : (n m : ℕ) → some m ≡ fit n → (m ≡ n) × (n < 2 ^ 64)
unfolding fit
is-fit n m e = go (ltb n (2 ^ 64)) refl e
  where
    go : (t : Bool) → ltb n (2 ^ 64) ≡ t → some m ≡ cond t (some n) none → (m ≡ n) × (n < 2 ^ 64)
    go true h z = (cc, ltb-true n (2 ^ 64) h)
    go false h z = let y : ◌≡◌ {A = ℕ} 0 1 = cc in absurd (omega arith)

pub beyond-fit : (n : ℕ) → none ≡ fit n → 2 ^ 64 ≤ n
unfolding fit
beyond-fit n e = go (ltb n (2 ^ 64)) refl e
  where
    go : (t : Bool) → ltb n (2 ^ 64) ≡ t → none ≡ cond t (some n) none → 2 ^ 64 ≤ n
    go true h z = let y : ◌≡◌ {A = ℕ} 0 1 = cc in absurd (omega arith)
    go false h z = ltb-false n (2 ^ 64) h

-- ---- a size behind so many bytes

pub sum_is : (before n size : ℕ) {r : Option ℕ} → some n ≡ fit size → r ≡ fit (before + n) → r ≡ fit (before + size)
sum_is before n size e s = s ∙ ap (λ (k : ℕ). fit (before + k)) (is-fit size n e).0

pub sum-beyond : (before size : ℕ) → none ≡ fit size → none ≡ fit (before + size)
sum-beyond before size e = let b = beyond-fit size e in fit-beyond (before + size) (omega arith)

-- ---- sizes added up one by one: `all` is owed at the start; here n are counted, and `whole` is what is left to count

pub owed_start : (whole : ℕ) → fit whole ≡ fit (0 + whole)
owed_start whole = let y : whole ≡ 0 + whole = omega arith in ap fit y

module _ {all : Option ℕ} (n whole : ℕ) (owed : all ≡ fit (n + whole)) where
  pub owed-on : (part rest : ℕ) {m : ℕ} → whole ≡ part + rest → some m ≡ fit (n + part) → all ≡ fit (m + rest)
  owed-on part rest {m} w e =
      let z = (is-fit (n + part) m e).0 in
      let y : n + whole ≡ m + rest = omega arith in
      owed ∙ ap fit y

  pub owed-beyond : (part rest : ℕ) → whole ≡ part + rest → none ≡ fit (n + part) → none ≡ all
  owed-beyond part rest w e = let b = beyond-fit (n + part) e in fit-beyond (n + whole) (omega arith) ∙ sym owed

  pub owed-end : whole ≡ 0 → n < 2 ^ 64 → some n ≡ all
  owed-end w h = let y : n ≡ n + whole = omega arith in fit_is n h ∙ ap fit y ∙ sym owed
