-- Readings that are held, compared and measured: values are equal where their bytes are, since our encoding is the only one that is read. Over any element;
-- assumes nothing.
use Prim.Native.Nat.{ℕ, ◌-◌, ◌≤◌, ◌<◌}
use mathlib.Core.Path.{◌≡◌, refl, sym, ◌∙◌, ap, subst}
use mathlib.Core.List.{List}
use mathlib.Core.Option.{none, some}
use mathlib.Core.Bool.{Bool, true, false}
use native.Mathlib.Omega.{arith}
use lib.ListN.{length, get_or}
use Rattle.std.specs.Prelude.{Some, None}
use Rattle.encoding.specs.Ahead.{alike}
use Rattle.encoding.specs.Cuts.{written_in}
use Rattle.encoding.specs.Element.{Element}
use Rattle.encoding.proofs.Elements.{ElementLaws}
use Rattle.encoding.proofs.Written.{bytes-length}
use Rattle.text.specs.Text.{bytes_at, same_bytes}
use Rattle.text.proofs.Bytes.{same-written}
use Rattle.runs.specs.Pieces.{Held, read_of, held_in, Within, AbsentIf, size_in, Ordered}

pub value-held : (h : Held) (from till : ℕ) → h ≡ Some (from, till) → h ≡ None → ⊥
value-held h from till e f = let z : ◌≡◌ {A = Held} (Some (from, till)) None = sym e ∙ f in let y : ◌≡◌ {A = ℕ} 0 1 = cc in absurd (omega arith)

pub absent-true : (h : Held) (b : Bool) → AbsentIf h b → b ≡ true → h ≡ None
absent-true h b f e = subst (AbsentIf h) e f

pub absent-false : (h : Held) (b : Bool) → AbsentIf h b → b ≡ false → h ≡ None → ⊥
absent-false h b f e = subst (AbsentIf h) e f

pub ordered-as : (h : Held) (from till : ℕ) → h ≡ Some (from, till) → Ordered h → from ≤ till
ordered-as h from till e o = let z : Ordered (Some (from, till)) = subst Ordered e o in z

module _ {A : Type 0} (E : Element A) (L : ElementLaws E) where
  pub held_none : (s : List ℕ) (h : Held) → h ≡ None → held_in E s h ≡ none
  held_none s h e = ap (held_in E s) e

  -- a value that is held was read
  pub held-some : (s : List ℕ) (h : Held) → Within E s h → (h ≡ None → ⊥) → (a : A) × (held_in E s h ≡ some a)
  held-some s None w f = absurd (f refl)
  held-some s (Some (from, till)) w f = (w.0, ap read_of w.1)

  -- its bytes are there
  pub part-within : (s : List ℕ) (from till : ℕ) → Within E s (Some (from, till)) → (from ≤ till) × (till ≤ length s)
  part-within s from till w = (omega (arith, L.ahead s from till w.0 w.1), L.within s from till w.0 w.1)

  pub within-as : (s : List ℕ) (h : Held) (from till : ℕ) → h ≡ Some (from, till) → Within E s h → Within E s (Some (from, till))
  within-as s h from till e w = subst (Within E s) e w

  pub within-ordered : (s : List ℕ) (h : Held) → Within E s h → Ordered h
  within-ordered s None w = tt
  within-ordered s (Some (from, till)) w = (part-within s from till w).0

  -- what is written of it are those bytes
  pub part-written : (s : List ℕ) → ((i : ℕ) → get_or s i 0 < 256) → (h : Held) (from till : ℕ) → h ≡ Some (from, till) → Within E s (Some (from, till))
      → bytes_at s from (till - from) ≡ written_in E (held_in E s h)
  part-written s B h from till e w =
      (L.exact s B from till w.0 w.1).0
      ∙ ap (λ g. written_in E (read_of g)) (sym w.1)
      ∙ ap (λ (z : Held). written_in E (held_in E s z)) (sym e)

  pub held-length : (s : List ℕ) → ((i : ℕ) → get_or s i 0 < 256) → (h : Held) → Within E s h → length (written_in E (held_in E s h)) ≡ size_in h
  held-length s B None w = refl
  held-length s B (Some (from, till)) w =
      let p = part-within s from till w in
      sym (ap length (part-written s B (Some (from, till)) from till refl w)) ∙ bytes-length s from (till - from) (omega arith)

  -- ---- are two readings alike, one held in x and one in y

  module _ (x y : List ℕ) where
    module _ (h : Held) (from till : ℕ) (v : Within E y (Some (from, till))) where
      pub alike-absent : h ≡ None → false ≡ alike E (held_in E x h) (held_in E y (Some (from, till)))
      unfolding alike
      alike-absent e =
          sym (ap (λ (z : Held). alike E (held_in E x z) (held_in E y (Some (from, till)))) e ∙ ap (λ g. alike E none (read_of g)) v.1)

      pub alike-parts : ((i : ℕ) → get_or x i 0 < 256) → ((i : ℕ) → get_or y i 0 < 256) → (a b : ℕ) {r : Bool} → h ≡ Some (a, b) → Within E x (Some (a, b))
          → r ≡ same_bytes (bytes_at x a (b - a)) (bytes_at y from (till - from)) → r ≡ alike E (held_in E x h) (held_in E y (Some (from, till)))
      unfolding alike
      alike-parts B C a b e w k =
          let m = L.exact x B a b w.0 w.1 in
          let n = L.exact y C from till v.0 v.1 in
          k ∙ ap (λ (l : List ℕ). same_bytes l (bytes_at y from (till - from))) m.0
          ∙ ap (same_bytes (E.write w.0)) n.0
          ∙ sym (same-written E L w.0 v.0 m.1 n.1)
          ∙ ap (λ g. alike E (some w.0) (read_of g)) (sym v.1)
          ∙ ap (λ g. alike E (read_of g) (read_of (E.read y from))) (sym w.1)
          ∙ ap (λ (z : Held). alike E (held_in E x z) (held_in E y (Some (from, till)))) (sym e)

    pub alike-with : (a b : Held) (from till : ℕ) {r : Bool} → b ≡ Some (from, till) → r ≡ alike E (held_in E x a) (held_in E y (Some (from, till)))
        → r ≡ alike E (held_in E x a) (held_in E y b)
    alike-with a b from till e k = k ∙ ap (λ (z : Held). alike E (held_in E x a) (held_in E y z)) (sym e)

    pub alike-none : (a b : Held) (r : Bool) → Within E x a → b ≡ None → AbsentIf a r → r ≡ alike E (held_in E x a) (held_in E y b)
    unfolding alike
    alike-none a b r w e k = go a r w k ∙ ap (λ (z : Held). alike E (held_in E x a) (held_in E y z)) (sym e)
      where
        go : (a : Held) (r : Bool) → Within E x a → AbsentIf a r → r ≡ alike E (held_in E x a) none
        go None true w k = refl
        go None false w k = absurd (k refl)
        go (Some (from, till)) true w k = absurd (value-held (Some (from, till)) from till refl k)
        go (Some (from, till)) false w k = sym (ap (λ g. alike E (read_of g) none) w.1)
