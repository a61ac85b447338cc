-- A difference as the code takes it: a value minus the last one before it, in bits. Assumes nothing.
use Prim.Native.Nat.{ℕ, ◌^◌, ◌≤◌, ◌<◌}
use mathlib.Core.Path.{◌≡◌, refl, sym, ◌∙◌, ap, subst}
use mathlib.Core.List.{List}
use mathlib.Core.Bool.{Bool, true, false}
use native.Mathlib.Omega.{arith}
use lib.IntN.{ℤ, pos, ◌-ℤ◌}
use lib.ListN.{length, get_or}
use lib.Signed.{mag}
use borrow.Author.Tests.{ltb-true}
use mir.Syntax.{w64}
use mir.Val.{SFits, to_z, of_z}
use mir.ValLaws.{to_z-of_z}
use Rattle.delta_encoder.specs.Ahead.{diffs, last_before, Narrow}
use Rattle.delta_decoder.specs.Difference.{same_z}
use Rattle.delta_decoder.proofs.DifferenceLaws.{i64-laws}
use Rattle.delta_encoder.proofs.Differing.{diffs-length, diff-at}

-- a signed number that was read, or passed, is its bits read back
pub read_back : {x : ℤ} → mag x < 2 ^ 63 → to_z w64 (of_z w64 x) ≡ x
read_back {x} h = to_z-of_z w64 x (record { sfits = h })

pub passed : {x : ℤ} → SFits w64 x → to_z w64 (of_z w64 x) ≡ x
passed {x} h = to_z-of_z w64 x h

module _ (v : List ℤ) (p : List ℕ) (N : Narrow v p) where
  -- there are as many differences as values
  pub below : (k : ℕ) → k < length v → k < length (diffs v p)
  below k l = omega (arith, diffs-length (pos 0) v p N.even)

  pub upto : (k : ℕ) → k ≤ length v → k ≤ length (diffs v p)
  upto k l = omega (arith, diffs-length (pos 0) v p N.even)

  pub past : (k : ℕ) → length v ≤ k → length (diffs v p) ≤ k
  past k l = omega (arith, diffs-length (pos 0) v p N.even)

  diff-fits : (k : ℕ) → k < length v → SFits w64 (get_or (diffs v p) k (pos 0))
  diff-fits k l = record { sfits = ltb-true (mag (get_or (diffs v p) k (pos 0))) (2 ^ 63) (N.held k l) }

  module _ (k : ℕ) (l : k < length v) (f : get_or p k 0 ≡ 0 → ⊥) {x y : ℤ} (a : x ≡ get_or v k (pos 0)) (b : y ≡ last_before v p k) where
    pub taken : x -ℤ y ≡ get_or (diffs v p) k (pos 0)
    taken = let d = diff-at v p N.even k l f in cc

    pub taken-fits : SFits w64 (x -ℤ y)
    taken-fits = subst (SFits w64) (sym taken) (diff-fits k l)

    -- it reaches a callee as its bits read back
    pub taken_back : to_z w64 (of_z w64 (x -ℤ y)) ≡ get_or (diffs v p) k (pos 0)
    taken_back = to_z-of_z w64 (x -ℤ y) taken-fits ∙ taken

  -- two of them compared by their bits
  module _ (k i : ℕ) (l : k < length v) (m : i < length v) {x y : ℤ} (a : x ≡ get_or (diffs v p) k (pos 0)) (b : y ≡ get_or (diffs v p) i (pos 0)) where
    pub bits-same : of_z w64 x ≡ of_z w64 y → get_or (diffs v p) k (pos 0) ≡ get_or (diffs v p) i (pos 0)
    bits-same e =
        sym (to_z-of_z w64 (get_or (diffs v p) k (pos 0)) (diff-fits k l))
        ∙ ap (to_z w64) (ap (of_z w64) (sym a) ∙ e ∙ ap (of_z w64) b)
        ∙ to_z-of_z w64 (get_or (diffs v p) i (pos 0)) (diff-fits i m)

    pub bits-other : (of_z w64 x ≡ of_z w64 y → ⊥) → same_z (get_or (diffs v p) i (pos 0)) (get_or (diffs v p) k (pos 0)) ≡ false
    bits-other e = go (same_z (get_or (diffs v p) i (pos 0)) (get_or (diffs v p) k (pos 0))) (i64-laws.same-eq (get_or (diffs v p) i (pos 0)) (get_or (diffs v p) k (pos 0)))
      where
        go : (t : Bool) → (t ≡ true → get_or (diffs v p) i (pos 0) ≡ get_or (diffs v p) k (pos 0)) → t ≡ false
        go true h = absurd (e (ap (of_z w64) (a ∙ sym (h refl) ∙ sym b)))
        go false h = refl
