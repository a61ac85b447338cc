-- The stretches of a list whose first readings are known: absent ones, values one by one, one value some times. Assumes nothing.
use Prim.Native.Nat.{ℕ, zero, suc}
use mathlib.Core.Path.{◌≡◌, refl, ◌∙◌, ap}
use mathlib.Core.List.{List, [], ◌∷◌, ◌++◌, map}
use mathlib.Core.Option.{Option, none, some}
use mathlib.Core.Bool.{Bool, true, false, cond}
use lib.ListN.{replicate}
use Rattle.encoding.specs.Ahead.{repeats, join_all, Off, Closed}
use Rattle.encoding.specs.Stretches.{Stretch, literal_of, join_none, join_some, stretches}
use Rattle.encoding.proofs.Looking.{off-none, closed_none}

module _ {A : Type 0} (same : A → A → Bool) where
  before-some : (a : A) (r : List (Stretch A)) → join_none (join_some same a r) ≡ Stretch.absent 1 ∷ join_some same a r
  unfolding join_none join_some
  before-some a [] = refl
  before-some a (Stretch.absent n ∷ r) = refl
  before-some a (Stretch.repeat n b ∷ r) = go (same a b)
    where
      go : (t : Bool) → join_none (cond t (Stretch.repeat (suc n) b ∷ r) (Stretch.literal a [] ∷ Stretch.repeat n b ∷ r))
          ≡ Stretch.absent 1 ∷ cond t (Stretch.repeat (suc n) b ∷ r) (Stretch.literal a [] ∷ Stretch.repeat n b ∷ r)
      go true = refl
      go false = refl
  before-some a (Stretch.literal b bs ∷ r) = go (same a b)
    where
      go : (t : Bool) → join_none (cond t (Stretch.repeat 2 b ∷ literal_of bs r) (Stretch.literal a (b ∷ bs) ∷ r))
          ≡ Stretch.absent 1 ∷ cond t (Stretch.repeat 2 b ∷ literal_of bs r) (Stretch.literal a (b ∷ bs) ∷ r)
      go true = refl
      go false = refl

  -- the list does not begin with an absent reading; it does not begin with a value
  abbrev pub NoAbsent : List (Option A) → Type 0
  NoAbsent [] = Unit {0}
  NoAbsent (none ∷ ys) = ⊥
  NoAbsent (some b ∷ ys) = Unit {0}

  abbrev pub NoValue : List (Option A) → Type 0
  NoValue [] = Unit {0}
  NoValue (none ∷ ys) = Unit {0}
  NoValue (some b ∷ ys) = ⊥

  pub absent-cut : (n : ℕ) (ys : List (Option A)) → NoAbsent ys → stretches same (replicate (suc n) none ++ ys) ≡ Stretch.absent (suc n) ∷ stretches same ys
  unfolding join_none stretches
  absent-cut zero [] h = refl
  absent-cut zero (none ∷ ys) h = absurd h
  absent-cut zero (some a ∷ ys) h = before-some a (stretches same ys)
  absent-cut (suc n) ys h = ap join_none (absent-cut n ys h)

  repeats-front : (m : ℕ) (a : A) (r : List (Stretch A)) → join_some same a (repeats same m a r) ≡ repeats same m a (join_some same a r)
  unfolding repeats
  repeats-front zero a r = refl
  repeats-front (suc m) a r = repeats-front m a (join_some same a r)

  pub repeats-cut : (m : ℕ) (a : A) (ys : List (Option A)) → stretches same (replicate m (some a) ++ ys) ≡ repeats same m a (stretches same ys)
  unfolding repeats stretches
  repeats-cut zero a ys = refl
  repeats-cut (suc m) a ys = ap (join_some same a) (repeats-cut m a ys) ∙ repeats-front m a (stretches same ys)

  pub joined : (l : List A) (ys : List (Option A)) → stretches same (map some l ++ ys) ≡ join_all same l (stretches same ys)
  unfolding stretches join_all
  joined [] ys = refl
  joined (a ∷ l) ys = ap (join_some same a) (joined l ys)

  pub off-ended : (a : A) (ys : List (Option A)) → NoValue ys → Off same a (stretches same ys)
  unfolding stretches
  off-ended a [] h = tt
  off-ended a (none ∷ ys) h = off-none same a (stretches same ys)
  off-ended a (some b ∷ ys) h = absurd h

  pub closed-ended : (ys : List (Option A)) → NoValue ys → Closed (stretches same ys)
  unfolding stretches
  closed-ended [] h = tt
  closed-ended (none ∷ ys) h = closed_none same (stretches same ys)
  closed-ended (some b ∷ ys) h = absurd h

-- a value behind others is one of them
pub some_more : {A : Type 0} (l : List A) (a : A) (ys : List (Option A)) → map some l ++ (some a ∷ ys) ≡ map some (l ++ (a ∷ [])) ++ ys
some_more [] a ys = refl
some_more {A} (b ∷ l) a ys = ap (λ (m : List (Option A)). some b ∷ m) (some_more l a ys)
