-- The runs of a column put together are its trace, over any machine. Assumes nothing.
use Prim.Native.Nat.{ℕ, zero, suc}
use mathlib.Core.Path.{◌≡◌, refl, ap}
use mathlib.Core.List.{[]}
use Rattle.encoding.specs.Walk.{Run, Next, over, on, off, sound, walk, before, after}
use Rattle.reason.specs.Runs.{later, runs, ended, flat}

module _ {R S : Type 0} (run : S → Run R S) where
  pub flat_walk : (f : ℕ) (st : S) → flat (runs run f st) ≡ walk run f st
  unfolding flat runs walk
  flat_walk zero st = ap (before (run st).readings) (go (run st).next)
    where
      go : (x : Next S) → ended x (flat {R = R} {S = S} []) ≡ after x (λ z. record { readings = []; ending = sound })
      go over = refl
      go (on z) = refl
      go (off number place) = refl
  flat_walk (suc f) st = ap (before (run st).readings) (go (run st).next (flat_walk f))
    where
      go : (x : Next S) → ((z : S) → flat (runs run f z) ≡ walk run f z) → ended x (flat (later x (λ z. runs run f z))) ≡ after x (λ z. walk run f z)
      go over k = refl
      go (on z) k = k z
      go (off number place) k = refl
