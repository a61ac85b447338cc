-- Looking ahead over the list that is walked for the writer's next stretch: what the private functions promise one another. No public promise cites it.
use Rattle.std.specs.Prelude.{suc, ◌<◌, ◌≡◌, List, ◌∷◌, ◌++◌, length}
use Rattle.std.proofs.Math.Option.{Option}
use Rattle.encoding.specs.Element.{Element}
use Rattle.encoding.specs.Longest.{readings_in}
use Rattle.encoding.specs.Stretches.{Stretch, stretches}
use Rattle.encoding.specs.declared.StretchEnd.{StretchEnd}
use Rattle.encoding.specs.declared.StretchEnd.TheVariants as stretch

-- a stretch by its sort and how many readings it has
abbrev pub sort_of : {A : Type 0} → Stretch A → StretchEnd
sort_of (Stretch.absent n) = stretch.Absent n
sort_of (Stretch.repeat n a) = stretch.Repeat n
sort_of (Stretch.literal a more) = stretch.Literal (suc (length more))

-- the writer's first stretch of a list, and what comes behind it
pub record Found {A : Type 0} (E : Element A) (xs : List (Option A)) (r : StretchEnd) : Type 0 where
  pub stretch : Stretch A
  pub behind : List (Option A)
  pub sort : r ≡ sort_of stretch
  pub some : 0 < length (readings_in stretch)
  pub split : xs ≡ readings_in stretch ++ behind
  pub cuts : stretches E.same xs ≡ stretch ∷ stretches E.same behind
