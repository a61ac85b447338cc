-- What a cut into longest stretches is. Document 01, "Columns": "The writer cuts the list into longest stretches: absent readings;
-- two or more equal values; values that equal no reading directly beside them."
use Rattle.std.specs.Prelude.{◌≤◌, ◌≡◌, List, [], ◌∷◌, ◌++◌, map, replicate}
use Rattle.std.proofs.Math.Option.{Option, none, some}
use Rattle.encoding.specs.Stretches.{Stretch}

-- the list that a cut stands for
unfoldable pub readings_in : {A : Type 0} → Stretch A → List (Option A)
readings_in (Stretch.absent n) = replicate n none
readings_in (Stretch.repeat n a) = replicate n (some a)
readings_in (Stretch.literal a more) = map some (a ∷ more)

unfoldable pub readings_of : {A : Type 0} → List (Stretch A) → List (Option A)
readings_of [] = []
readings_of (s ∷ r) = readings_in s ++ readings_of r

-- the reading directly after x, if there is one, does not equal x
abbrev pub Unlike : {A : Type 0} → Option A → List (Option A) → Type 0
Unlike x [] = Unit {0}
Unlike x (y ∷ after) = x ≡ y → ⊥

-- no value equals the reading directly after it, be that the next value or what comes behind the last one
abbrev pub Unpaired : {A : Type 0} → List A → List (Option A) → Type 0
Unpaired [] after = Unit {0}
Unpaired (a ∷ more) after = Unlike (some a) (map some more ++ after) × Unpaired more after

abbrev pub NoLiteral : {A : Type 0} → List (Stretch A) → Type 0
NoLiteral [] = Unit {0}
NoLiteral (Stretch.absent n ∷ r) = Unit {0}
NoLiteral (Stretch.repeat n a ∷ r) = Unit {0}
NoLiteral (Stretch.literal a more ∷ r) = ⊥

-- Each stretch is of one of the three sorts, and goes on as long as it can. Two readings directly beside one another are looked at once,
-- from the left: before a literal stretch stands an absent one, which holds no value, or a repeated one, which says itself that its value does not follow
-- (`cut-beside` of proofs/Cut.antt says it of every border).
abbrev pub Longest : {A : Type 0} → List (Stretch A) → Type 0
Longest [] = Unit {0}
Longest (Stretch.absent n ∷ r) = (1 ≤ n) × Unlike none (readings_of r) × Longest r
Longest (Stretch.repeat n a ∷ r) = (2 ≤ n) × Unlike (some a) (readings_of r) × Longest r
Longest (Stretch.literal a more ∷ r) = Unpaired (a ∷ more) (readings_of r) × NoLiteral r × Longest r
