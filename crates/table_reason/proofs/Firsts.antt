-- The first row that falls and the first that is compressed: one row more, and the end; whether there is one; and what is true of it and of those before it. Assumes nothing.
use mathlib.Core.Path.{◌≡◌, refl, sym, ap}
use mathlib.Core.List.{List, [], ◌∷◌}
use mathlib.Core.Bool.{Bool, true, false, cond, not}
use Prim.Native.Nat.{ℕ, zero, suc, ◌+◌, ◌≤◌, ◌<◌}
use native.Mathlib.Omega.{arith}
use lib.ListN.{length, get_or, drop}
use Rattle.std.proofs.Common.{drop_of_length-le}
use lib.Dec.{ltb}
use borrow.Author.Tests.{ltb-true, ltb-false, lt-ltb, le-ltb}
use Rattle.column_specification.specs.Key.{key}
use Rattle.column_specification.specs.Specification.{compressed_of}
use Rattle.raw_column.specs.Table.{in_order, plain, sum}
use Rattle.std.specs.Prelude.{Option, Some, None}
use Rattle.std.proofs.lemmas.Option.{cond_some, none-some}
use Rattle.std.proofs.lemmas.List.{drop_more}
use Rattle.std.specs.List.{position_or_len}
use Rattle.table_reason.specs.Rows.{first_of}
use Rattle.table_reason.specs.TableReason.{first_fall, first_compressed}

-- ---- what a search over n rows answers, that ends at k
pub first-some : {i k n : ℕ} → Some i ≡ first_of k n → (i ≡ k) × (k < n)
first-some {i} {k} {n} e = let w = cond_some (ltb k n) k i (sym e) in (sym w.1, ltb-true k n w.0)

pub first-none : {k n : ℕ} → None ≡ first_of k n → n ≤ k
first-none {k} {n} e = go (ltb k n) refl e
  where
    go : (b : Bool) → ltb k n ≡ b → ◌≡◌ {A = Option ℕ} None (cond b (Some k) None) → n ≤ k
    go true f g = absurd (none-some k g)
    go false f g = ltb-false k n f

pub first-at : {k n : ℕ} → k < n → Some k ≡ first_of k n
first-at {k} {n} h = rw (lt-ltb k n h)

pub first-past : {k n : ℕ} → n ≤ k → None ≡ first_of k n
first-past {k} {n} h = rw (le-ltb k n h)

-- ---- one element more, and the end
module _ (xs : List ℕ) (i : ℕ) (t : i < length xs) where
  pub fall-hit : {last k : ℕ} → k ≡ key (get_or xs i 0) → k < last → first_fall last (drop i xs) ≡ 0
  unfolding first_fall
  fall-hit {last} {k} e l = rw (drop_more xs i 0 t, ← e, lt-ltb k last l)

  pub fall-on : {last k : ℕ} → k ≡ key (get_or xs i 0) → last ≤ k → first_fall last (drop i xs) ≡ suc (first_fall k (drop (i + 1) xs))
  unfolding first_fall
  fall-on {last} {k} e l = rw (drop_more xs i 0 t, ← e, le-ltb k last l)

  pub sum-on : sum (drop i xs) ≡ get_or xs i 0 + sum (drop (i + 1) xs)
  unfolding sum
  sum-on = rw (drop_more xs i 0 t)

module _ (xs : List ℕ) (i : ℕ) (h : length xs ≤ i) where
  pub fall-end : (last : ℕ) → first_fall last (drop i xs) ≡ 0
  unfolding first_fall
  fall-end last = rw (drop_of_length-le xs h)

  pub sum-end : sum (drop i xs) ≡ 0
  unfolding sum
  sum-end = rw (drop_of_length-le xs h)

-- the first that is compressed is the first of which the bit is true
pub compressed-position : (specs : List ℕ) → position_or_len compressed_of specs ≡ first_compressed specs
unfolding first_compressed
compressed-position [] = refl
compressed-position (spec ∷ specs) = go (compressed_of spec) (compressed-position specs)
  where
    go : (b : Bool) {k n : ℕ} → k ≡ n → cond (not b) (1 + k) 0 ≡ cond b 0 (suc n)
    go true e = refl
    go false e = omega arith

-- ---- the first that falls
-- the key before row i, that before all rows being k
abbrev pub prior : ℕ → List ℕ → ℕ → ℕ
prior k specs zero = k
prior k specs (suc i) = key (get_or specs i 0)

prior-on : (k spec : ℕ) (specs : List ℕ) (i : ℕ) → prior (key spec) specs i ≡ prior k (spec ∷ specs) (suc i)
prior-on k spec specs zero = refl
prior-on k spec specs (suc i) = refl

pub fall-none : (k : ℕ) (specs : List ℕ) → in_order k specs ≡ true → first_fall k specs ≡ length specs
unfolding in_order first_fall
fall-none k [] e = refl
fall-none k (spec ∷ specs) e = go (ltb (key spec) k) (fall-none (key spec) specs) e
  where
    go : (b : Bool) → (in_order (key spec) specs ≡ true → first_fall (key spec) specs ≡ length specs) → cond b false (in_order (key spec) specs) ≡ true
        → cond b 0 (suc (first_fall (key spec) specs)) ≡ suc (length specs)
    go true r e = cc
    go false r e = ap suc (r e)

abbrev pub FallsAt : ℕ → List ℕ → ℕ → Type 0
FallsAt k specs i = (i < length specs) × (key (get_or specs i 0) < prior k specs i)

pub fall-is : (k : ℕ) (specs : List ℕ) → in_order k specs ≡ false → FallsAt k specs (first_fall k specs)
unfolding in_order first_fall
fall-is k [] e = let z : ◌≡◌ {A = ℕ} 0 1 = cc in absurd (omega arith)
fall-is k (spec ∷ specs) e = go (ltb (key spec) k) refl (fall-is (key spec) specs) e
  where
    go : (b : Bool) → ltb (key spec) k ≡ b → (in_order (key spec) specs ≡ false → FallsAt (key spec) specs (first_fall (key spec) specs))
        → cond b false (in_order (key spec) specs) ≡ false → FallsAt k (spec ∷ specs) (cond b 0 (suc (first_fall (key spec) specs)))
    go true f r e = (omega arith, ltb-true (key spec) k f)
    go false f r e = (omega (arith, (r e).0), rw (← prior-on k spec specs (first_fall (key spec) specs)) (r e).1)

pub fall-before : (k : ℕ) (specs : List ℕ) (j : ℕ) → j < first_fall k specs → prior k specs j ≤ key (get_or specs j 0)
unfolding first_fall
fall-before k [] j h = absurd (omega arith)
fall-before k (spec ∷ specs) j h = go (ltb (key spec) k) refl (fall-before (key spec) specs) j h
  where
    go : (b : Bool) → ltb (key spec) k ≡ b → ((j : ℕ) → j < first_fall (key spec) specs → prior (key spec) specs j ≤ key (get_or specs j 0)) → (j : ℕ)
        → j < cond b 0 (suc (first_fall (key spec) specs)) → prior k (spec ∷ specs) j ≤ key (get_or (spec ∷ specs) j 0)
    go true f r j h = absurd (omega arith)
    go false f r zero h = ltb-false (key spec) k f
    go false f r (suc j) h = rw (← prior-on k spec specs j) (r j (omega arith))

-- ---- the first that is compressed
pub compressed-none : (specs : List ℕ) → plain specs ≡ true → first_compressed specs ≡ length specs
unfolding plain first_compressed
compressed-none [] e = refl
compressed-none (spec ∷ specs) e = go (compressed_of spec) (compressed-none specs) e
  where
    go : (b : Bool) → (plain specs ≡ true → first_compressed specs ≡ length specs) → cond b false (plain specs) ≡ true
        → cond b 0 (suc (first_compressed specs)) ≡ suc (length specs)
    go true r e = cc
    go false r e = ap suc (r e)

abbrev pub CompressedAt : List ℕ → ℕ → Type 0
CompressedAt specs i = (i < length specs) × (compressed_of (get_or specs i 0) ≡ true)

pub compressed-is : (specs : List ℕ) → plain specs ≡ false → CompressedAt specs (first_compressed specs)
unfolding plain first_compressed
compressed-is [] e = let z : ◌≡◌ {A = ℕ} 0 1 = cc in absurd (omega arith)
compressed-is (spec ∷ specs) e = go (compressed_of spec) refl (compressed-is specs) e
  where
    go : (b : Bool) → compressed_of spec ≡ b → (plain specs ≡ false → CompressedAt specs (first_compressed specs)) → cond b false (plain specs) ≡ false
        → CompressedAt (spec ∷ specs) (cond b 0 (suc (first_compressed specs)))
    go true f r e = (omega arith, f)
    go false f r e = (omega (arith, (r e).0), (r e).1)

pub compressed-before : (specs : List ℕ) (j : ℕ) → j < first_compressed specs → compressed_of (get_or specs j 0) ≡ false
unfolding first_compressed
compressed-before [] j h = absurd (omega arith)
compressed-before (spec ∷ specs) j h = go (compressed_of spec) refl (compressed-before specs) j h
  where
    go : (b : Bool) → compressed_of spec ≡ b → ((j : ℕ) → j < first_compressed specs → compressed_of (get_or specs j 0) ≡ false) → (j : ℕ)
        → j < cond b 0 (suc (first_compressed specs)) → compressed_of (get_or (spec ∷ specs) j 0) ≡ false
    go true f r j h = absurd (omega arith)
    go false f r zero h = f
    go false f r (suc j) h = r j (omega arith)

-- ---- whether there is one, from where the search ended
module _ (specs : List ℕ) where
  pub falls-so : first_fall 0 specs < length specs → in_order 0 specs ≡ false
  falls-so h = go (in_order 0 specs) refl
    where
      go : (b : Bool) → in_order 0 specs ≡ b → b ≡ false
      go true e = absurd (omega (arith, fall-none 0 specs e))
      go false e = refl

  pub falls-not : length specs ≤ first_fall 0 specs → in_order 0 specs ≡ true
  falls-not h = go (in_order 0 specs) refl
    where
      go : (b : Bool) → in_order 0 specs ≡ b → b ≡ true
      go true e = refl
      go false e = absurd (omega (arith, (fall-is 0 specs e).0))

  pub compressed-so : first_compressed specs < length specs → plain specs ≡ false
  compressed-so h = go (plain specs) refl
    where
      go : (b : Bool) → plain specs ≡ b → b ≡ false
      go true e = absurd (omega (arith, compressed-none specs e))
      go false e = refl

  pub compressed-not : length specs ≤ first_compressed specs → plain specs ≡ true
  compressed-not h = go (plain specs) refl
    where
      go : (b : Bool) → plain specs ≡ b → b ≡ true
      go true e = refl
      go false e = absurd (omega (arith, (compressed-is specs e).0))

  -- the row that falls has one before it
  pub fall-behind : in_order 0 specs ≡ false → 0 < first_fall 0 specs
  fall-behind e = go (first_fall 0 specs) (fall-is 0 specs e).1
    where
      go : (i : ℕ) → key (get_or specs i 0) < prior 0 specs i → 0 < i
      go zero h = absurd (omega arith)
      go (suc i) h = omega arith
