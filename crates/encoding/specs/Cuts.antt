-- Looking ahead for the next stretch of a list that is not in slices but walked piece by piece: what the private functions of the writers promise one another.
-- No public promise cites it. `Ahead` says the same of a list in slices, by its indices.
use Rattle.std.specs.Prelude.{ℕ, suc, ◌≤◌, ◌<◌, ◌≡◌, List, [], ◌∷◌, ◌++◌, map, Bool, true, false, length, take, drop, replicate}
use Rattle.std.proofs.Math.Option.{Option, none, some}
use Rattle.encoding.specs.Ahead.{alike, repeats, Off, Closed, Apart, end_of}
use Rattle.encoding.specs.Element.{Element}
use Rattle.encoding.specs.Stretches.{Stretch, stretches}
use Rattle.encoding.specs.declared.StretchEnd.{StretchEnd}
use Rattle.encoding.specs.declared.StretchEnd.TheVariants as stretch

-- the values of the readings that are present
abbrev pub somes : {A : Type 0} → List (Option A) → List A
somes [] = []
somes (none ∷ xs) = somes xs
somes (some a ∷ xs) = a ∷ somes xs

-- what is written of a reading; nothing of an absent one
abbrev pub written_in : {A : Type 0} → Element A → Option A → List ℕ
written_in E none = []
written_in E (some a) = E.write a

-- k times the first value; values as a literal stretch
abbrev pub repeat_in : {A : Type 0} → ℕ → List A → Stretch A
repeat_in k [] = Stretch.absent 0
repeat_in k (a ∷ l) = Stretch.repeat k a

abbrev pub literal_in : {A : Type 0} → List A → Stretch A
literal_in [] = Stretch.absent 0
literal_in (a ∷ l) = Stretch.literal a l

-- a stretch as the code has it here: how many readings it has, and which stretch of the list it is
abbrev pub stretch_in : {A : Type 0} → List (Option A) → StretchEnd → Stretch A
stretch_in xs (stretch.Absent k) = Stretch.absent k
stretch_in xs (stretch.Repeat k) = repeat_in k (somes (take 1 xs))
stretch_in xs (stretch.Literal k) = literal_in (somes (take k xs))

-- every reading of a literal stretch, and the first of a repeated one, is present
abbrev pub PresentIn : {A : Type 0} → List (Option A) → StretchEnd → Type 0
PresentIn xs (stretch.Absent k) = Unit {0}
PresentIn xs (stretch.Repeat k) = length (somes (take 1 xs)) ≡ 1
PresentIn xs (stretch.Literal k) = length (somes (take k xs)) ≡ k

-- the first stretch of xs, with ys behind it
pub record CutOf {A : Type 0} (same : A → A → Bool) (xs : List (Option A)) (r : StretchEnd) (ys : List (Option A)) : Type 0 where
  pub later : 0 < end_of r
  pub within : end_of r ≤ length xs
  pub whole : PresentIn xs r
  pub behind : ys ≡ drop (end_of r) xs
  pub cuts : stretches same xs ≡ stretch_in xs r ∷ stretches same ys

-- k readings of the value a in front of ys, which does not begin with it
pub record RepeatOf {A : Type 0} (same : A → A → Bool) (a : A) (xs : List (Option A)) (k : ℕ) (ys : List (Option A)) : Type 0 where
  pub later : 0 < k
  pub within : k ≤ length xs
  pub behind : ys ≡ drop k xs
  pub cuts : stretches same xs ≡ repeats same k a (stretches same ys)
  pub off : Off same a (stretches same ys)

-- does the first value, a, stand there twice
abbrev pub PairedIn : {A : Type 0} → (A → A → Bool) → A → List (Option A) → Bool → Type 0
PairedIn same a xs true = Closed (stretches same xs)
PairedIn same a xs false = Off same a (stretches same (drop 1 xs))

-- the first reading of a list, if it has one, is not like x
abbrev pub Other : {A : Type 0} → Element A → Option A → List (Option A) → Type 0
Other E x [] = Unit {0}
Other E x (y ∷ ys) = alike E x y ≡ false

-- c readings like x in front of ys, and no more
pub record SameRun {A : Type 0} (E : Element A) (x : Option A) (xs : List (Option A)) (c : ℕ) (ys : List (Option A)) : Type 0 where
  pub later : 0 < c
  pub split : xs ≡ replicate c x ++ ys
  pub other : Other E x ys

-- values in front of ys that equal no neighbour, c with the one before them, and no more
pub record LoneRun {A : Type 0} (E : Element A) (xs : List (Option A)) (c : ℕ) (ys : List (Option A)) : Type 0 where
  pub values : List A
  pub count : c ≡ suc (length values)
  pub split : xs ≡ map some values ++ ys
  pub apart : (a : A) → Off E.same a (stretches E.same xs) → Apart E.same a values (stretches E.same ys)
  pub closed : Closed (stretches E.same ys)
