-- What stands where a place and a row meet, one law for each way out. Assumes nothing.
use mathlib.Core.Path.{◌≡◌}
use Prim.Native.Nat.{ℕ, ◌≤◌, ◌<◌}
use borrow.Author.Tests.{lt-ltb, le-ltb, eq-eqb, ne_eqb}
use Rattle.picture.specs.Scale.{row_of}
use Rattle.picture.specs.Shade.{shade_of, shade_at}
use Rattle.picture.specs.declared.Scale.{Scale}
use Rattle.picture.specs.declared.Stretch.{Stretch}

module _ (row top bottom here gone : ℕ) where
  pub shade-gap : here ≡ 0 → shade_of row top bottom here gone ≡ 0
  unfolding shade_of
  shade-gap e = simp (eq-eqb here 0 e)

  module _ (n : here ≡ 0 → ⊥) where
    pub shade-air : row < top → shade_of row top bottom here gone ≡ 0
    unfolding shade_of
    shade-air a = simp (ne_eqb here 0 n, lt-ltb row top a)

    pub shade-clay : top ≤ row → bottom < row → shade_of row top bottom here gone ≡ 3
    unfolding shade_of
    shade-clay t b = simp (ne_eqb here 0 n, le-ltb row top t, lt-ltb bottom row b)

    pub shade-whole : top ≤ row → row ≤ bottom → gone ≡ 0 → shade_of row top bottom here gone ≡ 1
    unfolding shade_of
    shade-whole t b g = simp (ne_eqb here 0 n, le-ltb row top t, le-ltb bottom row b, eq-eqb gone 0 g)

    pub shade-part : top ≤ row → row ≤ bottom → (gone ≡ 0 → ⊥) → shade_of row top bottom here gone ≡ 2
    unfolding shade_of
    shade-part t b g = simp (ne_eqb here 0 n, le-ltb row top t, le-ltb bottom row b, ne_eqb gone 0 g)

pub shade-is : (c : Scale) (row : ℕ) (s : Stretch) (top bottom r : ℕ) → top ≡ row_of s.low c.base c.step
    → bottom ≡ row_of s.high c.base c.step
    → r ≡ shade_of row top bottom s.here s.gone → r ≡ shade_at c row s
unfolding shade_at
shade-is c row s top bottom r t b e = cc
