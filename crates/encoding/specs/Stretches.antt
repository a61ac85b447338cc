-- The writer of a run-length column cuts the list into stretches: a right fold over the list.
use Rattle.std.specs.Prelude.{ℕ, suc, List, [], ◌∷◌, Bool, cond}
use Rattle.std.proofs.Math.Option.{Option, none, some}

-- so many absent; one value two or more times; values that equal no neighbour, the first apart
pub data Stretch (A : Type 0) : Type 0 where
  absent : ℕ → Stretch A
  repeat : ℕ → A → Stretch A
  literal : A → List A → Stretch A

unfoldable pub literal_of : {A : Type 0} → List A → List (Stretch A) → List (Stretch A)
literal_of [] r = r
literal_of (b ∷ bs) r = Stretch.literal b bs ∷ r

-- a reading in front of a list that is cut: it joins the first stretch, or begins a new one
unfoldable pub join_none : {A : Type 0} → List (Stretch A) → List (Stretch A)
join_none [] = Stretch.absent 1 ∷ []
join_none (Stretch.absent n ∷ r) = Stretch.absent (suc n) ∷ r
join_none (Stretch.repeat n b ∷ r) = Stretch.absent 1 ∷ Stretch.repeat n b ∷ r
join_none (Stretch.literal b bs ∷ r) = Stretch.absent 1 ∷ Stretch.literal b bs ∷ r

unfoldable pub join_some : {A : Type 0} → (A → A → Bool) → A → List (Stretch A) → List (Stretch A)
join_some same a [] = Stretch.literal a [] ∷ []
join_some same a (Stretch.absent n ∷ r) = Stretch.literal a [] ∷ Stretch.absent n ∷ r
join_some same a (Stretch.repeat n b ∷ r) = cond (same a b) (Stretch.repeat (suc n) b ∷ r) (Stretch.literal a [] ∷ Stretch.repeat n b ∷ r)
join_some same a (Stretch.literal b bs ∷ r) = cond (same a b) (Stretch.repeat 2 b ∷ literal_of bs r) (Stretch.literal a (b ∷ bs) ∷ r)

unfoldable pub stretches : {A : Type 0} → (A → A → Bool) → List (Option A) → List (Stretch A)
stretches same [] = []
stretches same (none ∷ xs) = join_none (stretches same xs)
stretches same (some a ∷ xs) = join_some same a (stretches same xs)
