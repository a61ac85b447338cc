-- What a size that was asked for within a room says: it is the size, and there is room for it; or there is not, and that is 10. Assumes nothing.
use Prim.Native.Nat.{ℕ, ◌≤◌, ◌<◌}
use mathlib.Core.Path.{◌≡◌, sym}
use native.Mathlib.Omega.{arith}
use lib.Dec.{leb}
use borrow.Author.Tests.{leb-true, leb-false}
use Rattle.leb128.specs.Answer.{Answer, done, refused, within}
use Rattle.encoding.proofs.Lists.{cond-by}

module _ (room n : ℕ) where
  pub size-found : (size : ℕ) → within 10 room (done n) ≡ done size → (size ≡ n) × (size ≤ room)
  unfolding within
  size-found size =
      cond-by (λ (o : Answer). o ≡ done size → (size ≡ n) × (size ≤ room)) (leb n room)
      (λ l e. let k : n ≡ size = cc in (sym k, omega (arith, leb-true n room l)))
      (λ l e. let z : ◌≡◌ {A = ℕ} 0 1 = cc in absurd (omega arith))

  pub size-refused : (number place : ℕ) → within 10 room (done n) ≡ refused number place → (refused number place ≡ refused 10 0) × (room < n)
  unfolding within
  size-refused number place =
      cond-by (λ (o : Answer). o ≡ refused number place → (refused number place ≡ refused 10 0) × (room < n)) (leb n room)
      (λ l e. let z : ◌≡◌ {A = ℕ} 0 1 = cc in absurd (omega arith)) (λ l e. (sym e, leb-false n room l))
