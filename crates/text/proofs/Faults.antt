-- A name that does not read has a refusal's number, never 0: the length number's own, 1 or 20. Assumes nothing.
use Prim.Native.Nat.{ℕ, ◌+◌, ◌<◌}
use mathlib.Core.Path.{◌≡◌, refl}
use mathlib.Core.List.{List}
use mathlib.Core.Bool.{Bool, true, false, cond}
use native.Mathlib.Omega.{arith}
use lib.Dec.{leb}
use lib.ListN.{length}
use Rattle.leb128.specs.Got.{Got, got, bad}
use Rattle.leb128.specs.Read.{u64_at}
use Rattle.leb128.proofs.Refusals.{u64-fault}
use Rattle.utf8.specs.Utf8.{is_utf8}
use Rattle.text.specs.Text.{bytes_at, valued, text_at}

pub text-fault : (s : List ℕ) (p number place : ℕ) → text_at s p ≡ bad number place → 0 < number
unfolding text_at
text-fault s p number place e = go (u64_at s p) refl e
  where
    one : (n q : ℕ) (a b : Bool) → cond a (cond b (got (bytes_at s q n) (q + n)) (bad 20 p)) (bad 1 p) ≡ bad number place → 0 < number
    one n q true true e = let z : ◌≡◌ {A = ℕ} 0 1 = cc in absurd (omega arith)
    one n q true false e = let z : number ≡ 20 = cc in omega arith
    one n q false b e = let z : number ≡ 1 = cc in omega arith

    go : (g : Got ℕ) → u64_at s p ≡ g → valued s p g ≡ bad number place → 0 < number
    go (got n q) h e = one n q (leb (q + n) (length s)) (is_utf8 (bytes_at s q n)) e
    go (bad m k) h e = let z : number ≡ m = cc in omega (arith, z, u64-fault s p m k h)
