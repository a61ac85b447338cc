-- 7 and 10, over the kind of column: what is answered and written is the same whether the slots hold the new list or are left as found. Assumes nothing.
use Prim.Native.Nat.{ℕ}
use mathlib.Core.Path.{◌≡◌, refl, ap}
use mathlib.Core.List.{List}
use mathlib.Core.Bool.{Bool, true, false, cond}
use Rattle.slots.specs.Splice.{in_slots}
use Rattle.splice.specs.Kind.{Kind}
use Rattle.splice.specs.Edit.{Edited, stop, late, refuses, refusal, answered, slots_left, out_left}

module _ {A : Type 0} (K : Kind A) (number place old : ℕ) (xs : List A) where
  -- whatever holds of both
  pub refuses-by : (P : Edited A → Type 0) → P (stop number place) → P (late number place old xs) → P (refuses K number place old xs)
  refuses-by P s l = go K.keeps
    where
      go : (b : Bool) → P (cond b (stop number place) (late number place old xs))
      go true = s
      go false = l

  pub refuses-answer : answered K (refuses K number place old xs) ≡ refusal number place
  refuses-answer = refuses-by (λ (e : Edited A). answered K e ≡ refusal number place) refl refl

  pub refuses-out : (out : List ℕ) → out_left (refuses K number place old xs) out ≡ out
  refuses-out out = refuses-by (λ (e : Edited A). out_left e out ≡ out) refl refl

  pub refuses-slots : {B : Type 0} (z : B) (f : List A → List B) (slots : List B) → K.keeps ≡ false
      → slots_left z f (refuses K number place old xs) slots ≡ in_slots z slots old (f xs)
  refuses-slots z f slots h = ap (λ (b : Bool). slots_left z f (cond b (stop number place) (late number place old xs)) slots) h
