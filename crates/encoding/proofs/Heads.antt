-- Run heads: what a count that was read opens (`passed`, `head_read`, `head-by`); by a table that is the fixed one they are what stands there
-- (`head_fixed`). Assumes nothing.
use mathlib.Core.Path.{◌≡◌, sym, ap}
use mathlib.Core.List.{List}
use Prim.Native.Nat.{ℕ}
use lib.IntN.{ℤ}
use Rattle.leb128.specs.Got.{Got, got}
use Rattle.leb128.specs.Read.{i64_at}
use Rattle.leb128.specs.Short.{short, i64_by}
use Rattle.leb128.proofs.Lookup.{by-fixed}
use Rattle.encoding.specs.Head.{begun, head_at, head_by}

-- a count reaches what opens the run as its bits read back
pub passed : (s : List ℕ) (at had q : ℕ) {x z : ℤ} → z ≡ x → begun s at had (got z q) ≡ begun s at had (got x q)
passed s at had q e = ap (λ (y : ℤ). begun s at had (got y q)) e

module _ (s : List ℕ) (at had : ℕ) where
  pub head_read : {g : Got ℤ} → i64_at s at ≡ g → begun s at had g ≡ head_at s at had
  unfolding head_at
  head_read e = ap (begun s at had) (sym e)

  pub head-by : (table : List ℤ) {g : Got ℤ} → i64_by table s at ≡ g → begun s at had g ≡ head_by table s at had
  unfolding head_by
  head-by table e = ap (begun s at had) (sym e)

  pub head_fixed : {table : List ℤ} → table ≡ short → head_by table s at had ≡ head_at s at had
  unfolding head_by head_at
  head_fixed e = ap (begun s at had) (by-fixed e s at)
