-- Readings that are held, compared: by their bytes, and the cases of absent readings. Assumes nothing.
use Prim.Native.Nat.{ℕ, ◌-◌, ◌≤◌}
use mathlib.Core.Path.{◌≡◌, refl, sym, ◌∙◌, ap, subst}
use native.Mathlib.Omega.{arith}
use mathlib.Core.List.{List}
use mathlib.Core.Bool.{Bool, true, false}
use lib.ListN.{length}
use Rattle.std.specs.Prelude.{Some, None, is_some, not}
use Rattle.encoding.specs.Ahead.{alike}
use Rattle.text.specs.Text.{bytes_at, same_bytes}
use Rattle.rewriting.specs.Values.{plain_e, held_in, Within}
use Rattle.runs.specs.Pieces.{Held}

-- ---- readings that are held

module _ (s : List ℕ) (h : Held) where
  pub within-value : (a b : ℕ) → h ≡ Some (a, b) → Within s h → (a ≤ b) × (b ≤ length s)
  within-value a b e w = subst (Within s) e w

  module _ (from till : ℕ) where
    pub alike-absent-value : h ≡ None → false ≡ alike plain_e (held_in s h) (held_in s (Some (from, till)))
    unfolding alike
    alike-absent-value e = ap (λ (x : Held). alike plain_e (held_in s x) (held_in s (Some (from, till)))) (sym e)

    pub alike-parts : (a b : ℕ) {r : Bool} → h ≡ Some (a, b) → r ≡ same_bytes (bytes_at s a (b - a)) (bytes_at s from (till - from))
        → r ≡ alike plain_e (held_in s h) (held_in s (Some (from, till)))
    unfolding alike
    alike-parts a b e g = g ∙ ap (λ (x : Held). alike plain_e (held_in s x) (held_in s (Some (from, till)))) (sym e)

module _ (s : List ℕ) (a b : Held) where
  pub alike-absent : b ≡ None → {r : Bool} → is_some a ≡ not r → r ≡ alike plain_e (held_in s a) (held_in s b)
  unfolding alike
  alike-absent f {r} e = go a r e ∙ ap (λ (x : Held). alike plain_e (held_in s a) (held_in s x)) (sym f)
    where
      go : (a : Held) (r : Bool) → is_some a ≡ not r → r ≡ alike plain_e (held_in s a) (held_in s None)
      go None true e = refl
      go None false e = absurd (let z : ◌≡◌ {A = ℕ} 0 1 = cc in omega arith)
      go (Some (from, till)) true e = absurd (let z : ◌≡◌ {A = ℕ} 0 1 = cc in omega arith)
      go (Some (from, till)) false e = refl

  pub alike-value : (from till : ℕ) {r : Bool} → b ≡ Some (from, till) → r ≡ alike plain_e (held_in s a) (held_in s (Some (from, till)))
      → r ≡ alike plain_e (held_in s a) (held_in s b)
  alike-value from till f g = g ∙ ap (λ (x : Held). alike plain_e (held_in s a) (held_in s x)) (sym f)
