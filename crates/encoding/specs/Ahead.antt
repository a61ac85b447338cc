-- Looking ahead over a given list for its next stretch: what the private functions of the writers promise one another. No public promise
-- cites it.
use Rattle.std.specs.Prelude.{ℕ, zero, suc, ◌+◌, ◌-◌, ◌≤◌, ◌<◌, ◌≡◌, List, [], ◌∷◌, Bool, true, false, length, get_or, drop}
use Rattle.std.proofs.Math.Option.{Option, none, some}
use Rattle.std.proofs.Math.Seq.{slice}
use Rattle.std.proofs.lemmas.List.Edits.{sets}
use Rattle.encoding.specs.Element.{Element}
use Rattle.encoding.specs.Stretches.{Stretch, join_some, stretches}
use Rattle.encoding.specs.Writer.{stretches_bytes}
use Rattle.encoding.specs.Given.{slot_list}
use Rattle.encoding.specs.declared.StretchEnd.{StretchEnd}
use Rattle.encoding.specs.declared.StretchEnd.TheVariants as stretch

-- two readings are the same
unfoldable pub alike : {A : Type 0} → Element A → Option A → Option A → Bool
alike E none none = true
alike E none (some b) = false
alike E (some a) none = false
alike E (some a) (some b) = E.same a b

-- the stretches from an index on, and their bytes
unfoldable pub from : {A : Type 0} → (A → A → Bool) → List A → List ℕ → ℕ → List (Stretch A)
from same v p k = stretches same (drop k (slot_list v p))

unfoldable pub bytes_from : {A : Type 0} → Element A → List A → List ℕ → ℕ → List ℕ
bytes_from E v p i = stretches_bytes E (from E.same v p i)

-- m equal values in front of stretches; values one by one
unfoldable pub repeats : {A : Type 0} → (A → A → Bool) → ℕ → A → List (Stretch A) → List (Stretch A)
repeats same zero a r = r
repeats same (suc m) a r = repeats same m a (join_some same a r)

unfoldable pub join_all : {A : Type 0} → (A → A → Bool) → List A → List (Stretch A) → List (Stretch A)
join_all same [] r = r
join_all same (a ∷ l) r = join_some same a (join_all same l r)

-- the first value of the stretches, if they begin with one, is not a; they do not begin with a literal one; values each unlike the next
abbrev pub Off : {A : Type 0} → (A → A → Bool) → A → List (Stretch A) → Type 0
Off same a [] = Unit {0}
Off same a (Stretch.absent n ∷ r) = Unit {0}
Off same a (Stretch.repeat n b ∷ r) = same a b ≡ false
Off same a (Stretch.literal b bs ∷ r) = same a b ≡ false

abbrev pub Closed : {A : Type 0} → List (Stretch A) → Type 0
Closed [] = Unit {0}
Closed (Stretch.absent n ∷ r) = Unit {0}
Closed (Stretch.repeat n b ∷ r) = Unit {0}
Closed (Stretch.literal b bs ∷ r) = ⊥

abbrev pub Apart : {A : Type 0} → (A → A → Bool) → A → List A → List (Stretch A) → Type 0
Apart same a [] r = Off same a r
Apart same a (b ∷ l) r = (same a b ≡ false) × Apart same b l r

-- a stretch as the code has it: where it ends, and which stretch of the values v it is (d stands past their end)
abbrev pub end_of : StretchEnd → ℕ
end_of (stretch.Absent k) = k
end_of (stretch.Repeat k) = k
end_of (stretch.Literal k) = k

abbrev pub stretch_of : {A : Type 0} → A → List A → ℕ → StretchEnd → Stretch A
stretch_of d v i (stretch.Absent k) = Stretch.absent (k - i)
stretch_of d v i (stretch.Repeat k) = Stretch.repeat (k - i) (get_or v i d)
stretch_of d v i (stretch.Literal k) = Stretch.literal (get_or v i d) (slice (i + 1) k v)

-- the stretch at i
pub record StretchAt {A : Type 0} (same : A → A → Bool) (d : A) (v : List A) (p : List ℕ) (i : ℕ) (r : StretchEnd) : Type 0 where
  pub later : i < end_of r
  pub within : end_of r ≤ length v
  pub cuts : from same v p i ≡ stretch_of d v i r ∷ from same v p (end_of r)

-- equal values from i up to k, and no further
pub record RepeatTo {A : Type 0} (same : A → A → Bool) (d : A) (v : List A) (p : List ℕ) (i k : ℕ) : Type 0 where
  pub later : i < k
  pub within : k ≤ length v
  pub cuts : from same v p i ≡ repeats same (k - i) (get_or v i d) (from same v p k)
  pub off : Off same (get_or v i d) (from same v p k)

-- the literal stretch so far, from i up to k
pub record LiteralTo {A : Type 0} (same : A → A → Bool) (d : A) (v : List A) (p : List ℕ) (i k : ℕ) : Type 0 where
  pub later : i < k
  pub within : k ≤ length v
  pub cuts : from same v p i ≡ join_some same (get_or v i d) (join_all same (slice (i + 1) k v) (from same v p k))
  pub apart : Apart same (get_or v i d) (slice (i + 1) k v) (from same v p k)

-- does the value at k stand there twice
abbrev pub Paired : {A : Type 0} → (A → A → Bool) → A → List A → List ℕ → ℕ → Bool → Type 0
Paired same d v p k true = Closed (from same v p k)
Paired same d v p k false = Off same (get_or v k d) (from same v p (k + 1))

-- every reading from i up to k is present
abbrev pub AllPresent : List ℕ → ℕ → ℕ → Type 0
AllPresent p i k = (j : ℕ) → i ≤ j → j < k → get_or p j 0 ≡ 0 → ⊥

-- bytes w put at a position, and the position behind them
pub record PutAt (out out' : List ℕ) (at next : ℕ) (w : List ℕ) : Type 0 where
  pub after : next ≡ at + length w
  pub bytes : out' ≡ sets out at w
