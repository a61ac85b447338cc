-- How far a step goes in a run-length column: ahead or not at all, and never past the end. Assumes nothing.
use Prim.Native.Nat.{ℕ, ◌≤◌, ◌<◌}
use mathlib.Core.Path.{◌≡◌, refl}
use mathlib.Core.List.{List}
use native.Mathlib.Omega.{arith}
use lib.ListN.{length}
use Rattle.leb128.specs.Got.{Got, got, bad}
use Rattle.encoding.specs.Element.{Element}
use Rattle.encoding.proofs.Elements.{ElementLaws}
use Rattle.cursor.specs.Cursor.{Sort, same, literal, Cursor, one_literal, one_of, one, ready_at, step}
use Rattle.cursor.proofs.Stepping.{Holds, holds_by, keeps}
use Rattle.cursor.proofs.Cursors.{entering, enter-beyond}

module _ {A : Type 0} (E : Element A) (L : ElementLaws E) (s : List ℕ) where
  -- a value read goes ahead, and stays within
  pub literal-beyond : (x : Cursor A) → Holds (λ d. (x.at < d.at) × (d.at ≤ length s)) (one_literal x (E.read s x.at))
  unfolding one_literal
  literal-beyond x = go (E.read s x.at) refl
    where
      go : (g : Got A) → E.read s x.at ≡ g → Holds (λ d. (x.at < d.at) × (d.at ≤ length s)) (one_literal x g)
      go (got a z) e = (L.ahead s x.at z a e, L.within s x.at z a e)
      go (bad number place) e = tt

  -- it goes ahead or stays, and stays within
  pub step-within : (c : Cursor A) → c.at ≤ length s → Holds (λ d. (c.at ≤ d.at) × (d.at ≤ length s)) (step E s c)
  unfolding step ready_at one_of
  step-within c w =
      keeps (entering E L s) (one E s) P P (λ x y p h. let k = enter-beyond E L s x.at x.had y h in (omega (arith, p.0, k.0), k.1)) (λ x p l. ones x p x.sort) c
      (omega arith, w)
    where
      P : Cursor A → Type 0
      P x = (c.at ≤ x.at) × (x.at ≤ length s)

      ones : (x : Cursor A) → P x → (y : Sort A) → Holds P (one_of E s x y)
      ones x p (same r) = p
      ones x p literal = holds_by (λ d h. (omega (arith, p.0, h.0), h.1)) (one_literal x (E.read s x.at)) (literal-beyond x)
