-- Readings that are held: their bytes compared, and what that says of the stretches. Assumes nothing.
use Prim.Native.Nat.{ℕ, ◌+◌, ◌-◌, ◌≤◌, ◌<◌}
use mathlib.Core.Path.{◌≡◌, refl, sym, ◌∙◌, ap, subst}
use mathlib.Core.List.{List, [], ◌∷◌, ◌++◌}
use mathlib.Core.Option.{Option, none, some}
use mathlib.Core.Bool.{Bool, true, false}
use native.Mathlib.Omega.{arith}
use lib.ListN.{length, drop, replicate}
use Rattle.encoding.specs.Stretches.{stretches}
use Rattle.encoding.specs.Ahead.{Off, Closed}
use Rattle.encoding.proofs.Looking.{off-none, off-some, closed_none}
use Rattle.encoding.proofs.Times.{piece-first}
use Rattle.text.specs.Text.{bytes_at, same_bytes}
use Rattle.text.proofs.TextLaws.{text-laws}
use Rattle.text_encoder.specs.Walks.{held_in, Within, name_in, AbsentIf, same_as, same_of}
use Rattle.text_encoder.specs.declared.walk.Held.{Held}
use Rattle.text_encoder.specs.declared.walk.Held.TheVariants as held

-- two names, by where they begin and end
pub parts_same : (s : List ℕ) (i n : ℕ) (t : List ℕ) (j m : ℕ) {r : Bool} → r ≡ same_bytes (bytes_at s i (i + n - i)) (bytes_at t j (j + m - j))
    → r ≡ same_bytes (bytes_at s i n) (bytes_at t j m)
parts_same s i n t j m e =
    let x : i + n - i ≡ n = omega arith in
    let y : j + m - j ≡ m = omega arith in
    e ∙ ap (λ (k : ℕ). same_bytes (bytes_at s i k) (bytes_at t j (j + m - j))) x ∙ ap (λ (k : ℕ). same_bytes (bytes_at s i n) (bytes_at t j k)) y

-- ---- readings that are held

module _ (column bytes : List ℕ) where
  pub held_none : (h : Held) → h ≡ held.Absent → held_in column bytes h ≡ none
  held_none h e = ap (held_in column bytes) e

  pub held-name : (h : Held) → (h ≡ held.Absent → ⊥) → held_in column bytes h ≡ some (name_in (held_in column bytes h))
  held-name held.Absent f = absurd (f refl)
  held-name (held.Old start len) f = refl
  held-name (held.New start len) f = refl

pub old-held : (h : Held) (start len : ℕ) → h ≡ held.Old start len → h ≡ held.Absent → ⊥
old-held h start len e f = let z : held.Old start len ≡ held.Absent = sym e ∙ f in let y : ◌≡◌ {A = ℕ} 0 1 = cc in absurd (omega arith)

pub new-held : (h : Held) (start len : ℕ) → h ≡ held.New start len → h ≡ held.Absent → ⊥
new-held h start len e f = let z : held.New start len ≡ held.Absent = sym e ∙ f in let y : ◌≡◌ {A = ℕ} 0 1 = cc in absurd (omega arith)

pub absent-true : (h : Held) (b : Bool) → AbsentIf h b → b ≡ true → h ≡ held.Absent
absent-true h b f e = subst (AbsentIf h) e f

pub absent-false : (h : Held) (b : Bool) → AbsentIf h b → b ≡ false → h ≡ held.Absent → ⊥
absent-false h b f e = subst (AbsentIf h) e f

-- the name a, and the reading y at the front of a list
pub same_true : (a : List ℕ) (x y : Option (List ℕ)) → x ≡ some a → same_of x y ≡ true → y ≡ some a
same_true a x y e f = go y (ap (λ (z : Option (List ℕ)). same_of z y) (sym e) ∙ f)
  where
    go : (y : Option (List ℕ)) → same_as a y ≡ true → y ≡ some a
    go none f = let z : false ≡ true = f in cc
    go (some b) f = ap some (sym (text-laws.same-eq a b f))

pub off-end : (a : List ℕ) (ys : List (Option (List ℕ))) → ys ≡ [] → Off same_bytes a (stretches same_bytes ys)
unfolding stretches
off-end a ys e = subst (λ (l : List (Option (List ℕ))). Off same_bytes a (stretches same_bytes l)) (sym e) tt

off-first : (a : List ℕ) (y : Option (List ℕ)) (ys : List (Option (List ℕ))) → same_as a y ≡ false → Off same_bytes a (stretches same_bytes (y ∷ ys))
unfolding stretches
off-first a none ys f = off-none same_bytes a (stretches same_bytes ys)
off-first a (some b) ys f = off-some same_bytes text-laws.same-eq text-laws.same_self a b (stretches same_bytes ys) f

pub off-other : (a : List ℕ) (x y : Option (List ℕ)) (n : ℕ) (ys : List (Option (List ℕ))) → x ≡ some a → 0 < n → same_of x y ≡ false
    → Off same_bytes a (stretches same_bytes (replicate n y ++ ys))
off-other a x y n ys e l f =
    subst (λ (l : List (Option (List ℕ))). Off same_bytes a (stretches same_bytes l)) (sym (piece-first n y y ys l refl))
    (off-first a y (drop 1 (replicate n y ++ ys)) (ap (λ (z : Option (List ℕ)). same_of z y) (sym e) ∙ f))

pub closed-none-first : (ys : List (Option (List ℕ))) → Closed (stretches same_bytes (none ∷ ys))
unfolding stretches
closed-none-first ys = closed_none same_bytes (stretches same_bytes ys)

-- ---- two names compared, where one is held

module _ (column bytes : List ℕ) (h : Held) (start len : ℕ) where
  pub within-old : h ≡ held.Old start len → Within column bytes h → start + len ≤ length column
  within-old e w = subst (Within column bytes) e w

  pub within_new : h ≡ held.New start len → Within column bytes h → start + len ≤ length bytes
  within_new e w = subst (Within column bytes) e w

  pub as-old : (v : List ℕ) (b : Bool) → h ≡ held.Old start len → b ≡ same_bytes v (bytes_at column start len) → b ≡ same_as v (held_in column bytes h)
  as-old v b e f = f ∙ ap (λ (x : Held). same_as v (held_in column bytes x)) (sym e)

  pub as-new : (v : List ℕ) (b : Bool) → h ≡ held.New start len → b ≡ same_bytes v (bytes_at bytes start len) → b ≡ same_as v (held_in column bytes h)
  as-new v b e f = f ∙ ap (λ (x : Held). same_as v (held_in column bytes x)) (sym e)

  pub of-old : (y : Option (List ℕ)) (b : Bool) → h ≡ held.Old start len → b ≡ same_as (bytes_at column start len) y → b ≡ same_of (held_in column bytes h) y
  of-old y b e f = f ∙ ap (λ (x : Held). same_of (held_in column bytes x) y) (sym e)

  pub of-new : (y : Option (List ℕ)) (b : Bool) → h ≡ held.New start len → b ≡ same_as (bytes_at bytes start len) y → b ≡ same_of (held_in column bytes h) y
  of-new y b e f = f ∙ ap (λ (x : Held). same_of (held_in column bytes x) y) (sym e)
