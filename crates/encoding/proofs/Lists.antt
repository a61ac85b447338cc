-- Laws on lists and choices that the kit's libraries do not have. Assumes nothing.
use Prim.Native.Nat.{ℕ, zero, suc, ◌+◌, ◌-◌, ◌≤◌, ◌<◌}
use mathlib.Core.Path.{◌≡◌, refl, sym, ◌∙◌, ap}
use mathlib.Core.List.{List, [], ◌∷◌, ◌++◌, map}
use mathlib.Core.Bool.{Bool, true, false, cond}
use native.Mathlib.Omega.{arith}
use native.Mathlib.Nat.{add-zero}
use native.Mathlib.Numerals.{add-one}
use lib.ListN.{set, length, replicate}
use lib.Seq.{sets}

-- a choice has a property where each side has it under its test
pub cond-by : {A : Type 0} (P : A → Type 0) (b : Bool) {x y : A} → (b ≡ true → P x) → (b ≡ false → P y) → P (cond b x y)
cond-by P true f g = f refl
cond-by P false f g = g refl

pub map-append : {A B : Type 0} (f : A → B) (xs ys : List A) → map f (xs ++ ys) ≡ map f xs ++ map f ys
map-append f [] ys = refl
map-append f (x ∷ xs) ys = ap (λ l. f x ∷ l) (map-append f xs ys)

pub map-replicate : {A B : Type 0} (f : A → B) (n : ℕ) (a : A) → map f (replicate n a) ≡ replicate n (f a)
map-replicate f zero a = refl
map-replicate f (suc n) a = ap (λ l. f a ∷ l) (map-replicate f n a)

-- stores in a row
pub sets-append : {B : Type 0} (l : List B) (n : ℕ) (xs ys : List B) → sets l n (xs ++ ys) ≡ sets (sets l n xs) (n + length xs) ys
sets-append l n [] ys = ap (λ (k : ℕ). sets l k ys) (sym (add-zero n))
sets-append l n (x ∷ xs) ys =
    let e : suc n + length xs ≡ n + suc (length xs) = omega arith in
    sets-append (set l n x) (suc n) xs ys ∙ ap (λ (k : ℕ). sets (sets (set l n x) (suc n) xs) k ys) e

-- equal elements stored one by one
pub fill_step : {B : Type 0} (l : List B) (i left : ℕ) (v : B) → 0 < left
    → sets l i (replicate left v) ≡ sets (set l i v) (i + 1) (replicate (left - 1) v)
fill_step l i zero v h = absurd (omega arith)
fill_step l i (suc k) v h =
    let e : k ≡ suc k - 1 = omega arith in
    ap (λ (j : ℕ). sets (set l i v) j (replicate k v)) (sym (add-one i)) ∙ ap (λ (j : ℕ). sets (set l i v) (i + 1) (replicate j v)) e

pub fill_none : {B : Type 0} (l : List B) (i left : ℕ) (v : B) → left ≤ 0 → sets l i (replicate left v) ≡ l
fill_none l i zero v h = refl
fill_none l i (suc k) v h = absurd (omega arith)
