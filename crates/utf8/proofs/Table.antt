-- The table, line by line. Assumes nothing.
use Prim.Native.Nat.{ℕ, ◌≤◌, ◌<◌}
use mathlib.Core.Path.{◌≡◌, refl}
use mathlib.Core.List.{[], ◌∷◌}
use mathlib.Core.Option.{none, some}
use mathlib.Core.Bool.{Bool, true, false, ◌&&◌}
use native.Mathlib.Omega.{arith}
use Rattle.std.proofs.Common.{rules, tests}
use lib.Dec.{leb}
use borrow.Author.Tests.{leb-true, le-leb}
use Rattle.utf8.specs.Utf8.{range, among, tail, follow}

pub yes-among : (low high b : ℕ) → low ≤ b → b ≤ high → among (range low high) b ≡ true
yes-among low high b l h = rw (le-leb low b l, le-leb b high h)

pub among-yes : (low high b : ℕ) → among (range low high) b ≡ true → (low ≤ b) × (b ≤ high)
among-yes low high b e = go (leb low b) refl (leb b high) refl e
  where
    go : (t : Bool) → leb low b ≡ t → (u : Bool) → leb b high ≡ u → t && u ≡ true → (low ≤ b) × (b ≤ high)
    go true a true c e = (leb-true low b a, leb-true b high c)
    go true a false c e = let z : ◌≡◌ {A = ℕ} 0 1 = cc in absurd (omega arith)
    go false a u c e = let z : ◌≡◌ {A = ℕ} 0 1 = cc in absurd (omega arith)

module _ (b : ℕ) where
  pub follow-1 : b ≤ 0x7f → follow b ≡ some []
  unfolding follow
  follow-1 l = search (rules, tests)

  pub follow-2 : 0xc2 ≤ b → b ≤ 0xdf → follow b ≡ some (tail ∷ [])
  unfolding follow
  follow-2 l h = search (rules, tests)

  pub follow-e0 : b ≡ 0xe0 → follow b ≡ some (range 0xa0 0xbf ∷ tail ∷ [])
  unfolding follow
  follow-e0 l = search (rules, tests)

  pub follow-e1 : 0xe1 ≤ b → b ≤ 0xec → follow b ≡ some (tail ∷ tail ∷ [])
  unfolding follow
  follow-e1 l h = search (rules, tests)

  pub follow-ed : b ≡ 0xed → follow b ≡ some (range 0x80 0x9f ∷ tail ∷ [])
  unfolding follow
  follow-ed l = search (rules, tests)

  pub follow-ee : 0xee ≤ b → b ≤ 0xef → follow b ≡ some (tail ∷ tail ∷ [])
  unfolding follow
  follow-ee l h = search (rules, tests)

  pub follow-f0 : b ≡ 0xf0 → follow b ≡ some (range 0x90 0xbf ∷ tail ∷ tail ∷ [])
  unfolding follow
  follow-f0 l = search (rules, tests)

  pub follow-f1 : 0xf1 ≤ b → b ≤ 0xf3 → follow b ≡ some (tail ∷ tail ∷ tail ∷ [])
  unfolding follow
  follow-f1 l h = search (rules, tests)

  pub follow-f4 : b ≡ 0xf4 → follow b ≡ some (range 0x80 0x8f ∷ tail ∷ tail ∷ [])
  unfolding follow
  follow-f4 l = search (rules, tests)

  pub follow-80 : 0x80 ≤ b → b < 0xc2 → follow b ≡ none
  unfolding follow
  follow-80 l h = search (rules, tests)

  pub follow-f5 : 0xf5 ≤ b → follow b ≡ none
  unfolding follow
  follow-f5 l = search (rules, tests)
