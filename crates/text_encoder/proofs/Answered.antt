-- A list of names that was judged good: its pairs, and that it is within the limit. Assumes nothing.
use Prim.Native.Nat.{ℕ, ◌≤◌}
use mathlib.Core.Path.{◌≡◌, refl}
use mathlib.Core.List.{List}
use mathlib.Core.Bool.{Bool, true, false, cond}
use native.Mathlib.Omega.{arith}
use lib.Dec.{leb}
use lib.ListN.{length}
use borrow.Author.Tests.{leb-true}
use Rattle.leb128.specs.Answer.{Answer, done, refused}
use Rattle.encoding.specs.Limit.{limit}
use Rattle.text.specs.Given.{names_given, within_limit, names_judged}
use Rattle.text.proofs.Givens.{given-good}
use Rattle.text_encoder.specs.Walks.{Pairs}
use Rattle.text_encoder.proofs.Pairs.{pairs-given}

-- ---- a list that was judged good

module _ (b a l p : List ℕ) where
  pub judged-pairs : (m : ℕ) → names_judged b a l p ≡ done m → (Pairs b a l p) × (length a ≤ limit)
  unfolding names_judged
  judged-pairs m e = go (names_given b a l p) refl e
    where
      size : (g : ℕ) → names_given b a l p ≡ done g → (t : Bool) → leb (length a) limit ≡ t → cond t (done (length a)) (refused 5 0) ≡ done m
          → (Pairs b a l p) × (length a ≤ limit)
      size g h true k z = (pairs-given (given-good b a l p h), leb-true (length a) limit k)
      size g h false k z = let y : ◌≡◌ {A = ℕ} 0 1 = cc in absurd (omega arith)

      go : (o : Answer) → names_given b a l p ≡ o → within_limit (length a) o ≡ done m → (Pairs b a l p) × (length a ≤ limit)
      go (done g) h z = size g h (leb (length a) limit) refl z
      go (refused number place) h z = let y : ◌≡◌ {A = ℕ} 0 1 = cc in absurd (omega arith)
