-- The answers of encoding a list whose size a u64 may not hold: one law for each way out. Assumes nothing.
use Prim.Native.Nat.{ℕ, ◌-◌, ◌^◌, ◌<◌}
use mathlib.Core.Path.{◌≡◌, refl, sym, ◌∙◌, ap, subst}
use mathlib.Core.List.{List}
use mathlib.Core.Option.{none, some}
use mathlib.Core.Bool.{Bool, true, false, cond}
use native.Mathlib.Omega.{arith}
use lib.Dec.{leb}
use lib.ListN.{length}
use borrow.Author.Tests.{leb-false, le-leb, lt-leb}
use Rattle.leb128.specs.Answer.{Answer, done, refused, within}
use Rattle.encoding.specs.Given.{sized, Encoded}
use Rattle.encoding.proofs.Putting.{encode-refused, encode-short}
use Rattle.encoding.specs.Cases.{fit}
use Rattle.encoding.proofs.Fits.{is-fit, beyond-fit}

-- ---- the size: 10 where a u64 does not count it

module _ (bytes : List ℕ) (judged : Answer) where
  pub len-refused : (number place : ℕ) → judged ≡ refused number place → refused number place ≡ within 10 (2 ^ 64 - 1) (sized bytes judged)
  unfolding within sized
  len-refused number place e = sym (ap (λ (o : Answer). within 10 (2 ^ 64 - 1) (sized bytes o)) e)

  pub len_is : (m n : ℕ) → judged ≡ done m → some n ≡ fit (length bytes) → done n ≡ within 10 (2 ^ 64 - 1) (sized bytes judged)
  unfolding within sized
  len_is m n e f =
      let z = is-fit (length bytes) n f in
      ap done z.0
      ∙ sym (ap (λ (o : Answer). within 10 (2 ^ 64 - 1) (sized bytes o)) e
      ∙ ap (λ (t : Bool). cond t (done (length bytes)) (refused 10 0)) (le-leb (length bytes) (2 ^ 64 - 1) (omega arith)))

  pub len-beyond : (m : ℕ) → judged ≡ done m → none ≡ fit (length bytes) → refused 10 0 ≡ within 10 (2 ^ 64 - 1) (sized bytes judged)
  unfolding within sized
  len-beyond m e f =
      let z = beyond-fit (length bytes) f in
      sym (ap (λ (o : Answer). within 10 (2 ^ 64 - 1) (sized bytes o)) e
      ∙ ap (λ (t : Bool). cond t (done (length bytes)) (refused 10 0)) (lt-leb (length bytes) (2 ^ 64 - 1) (omega arith)))

  -- ---- the size that was answered, or its refusal
  pub len-sized : (n : ℕ) → within 10 (2 ^ 64 - 1) (sized bytes judged) ≡ done n → sized bytes judged ≡ done n
  unfolding within
  len-sized n e = go (sized bytes judged) refl e
    where
      room : (k : ℕ) (t : Bool) → sized bytes judged ≡ done k → cond t (done k) (refused 10 0) ≡ done n → sized bytes judged ≡ done n
      room k true h z = h ∙ z
      room k false h z = let y : ◌≡◌ {A = ℕ} 0 1 = cc in absurd (omega arith)

      go : (o : Answer) → sized bytes judged ≡ o → within 10 (2 ^ 64 - 1) o ≡ done n → sized bytes judged ≡ done n
      go (done k) h z = room k (leb k (2 ^ 64 - 1)) h z
      go (refused number place) h z = let y : ◌≡◌ {A = ℕ} 0 1 = cc in absurd (omega arith)

  -- more than a u64 counts is more than any output holds
  pub list-refused : (out : List ℕ) (number place : ℕ) → within 10 (2 ^ 64 - 1) (sized bytes judged) ≡ refused number place → length out < 2 ^ 64
      → Encoded bytes judged out out (refused number place)
  unfolding within
  list-refused out number place e l = go (sized bytes judged) refl e
    where
      room : (k : ℕ) (t : Bool) → leb k (2 ^ 64 - 1) ≡ t → sized bytes judged ≡ done k → cond t (done k) (refused 10 0) ≡ refused number place
          → Encoded bytes judged out out (refused number place)
      room k true f h z = let y : ◌≡◌ {A = ℕ} 0 1 = cc in absurd (omega arith)
      room k false f h z =
          let b = leb-false k (2 ^ 64 - 1) f in
          let x : refused 10 0 ≡ refused number place = z in
          subst (Encoded bytes judged out out) x (encode-short bytes judged out k h (omega arith))

      go : (o : Answer) → sized bytes judged ≡ o → within 10 (2 ^ 64 - 1) o ≡ refused number place → Encoded bytes judged out out (refused number place)
      go (done k) h z = room k (leb k (2 ^ 64 - 1)) refl h z
      go (refused m q) h z = encode-refused bytes judged out number place (h ∙ z)
