-- 01, "Columns": the bytes of a run-length column, over the element. "Each stretch is one run, the last sort with a negative count even
-- for one value. A list with no value present writes nothing."
use Rattle.std.specs.Prelude.{ℕ, List, [], ◌∷◌, ◌++◌, Bool, true, false, cond, length, pos, negsuc}
use Rattle.std.proofs.Math.Option.{Option, none, some}
use Rattle.leb128.specs.Write.{u64_bytes, i64_bytes}
use Rattle.encoding.specs.Element.{Element}
use Rattle.encoding.specs.Stretches.{Stretch, stretches}

unfoldable pub all_bytes : {A : Type 0} → Element A → List A → List ℕ
all_bytes E [] = []
all_bytes E (a ∷ more) = E.write a ++ all_bytes E more

-- one stretch, one run; negsuc n is -(n + 1), so the count of a literal run is the number of its values, negative
unfoldable pub stretch_bytes : {A : Type 0} → Element A → Stretch A → List ℕ
stretch_bytes E (Stretch.absent n) = i64_bytes (pos 0) ++ u64_bytes n
stretch_bytes E (Stretch.repeat n a) = i64_bytes (pos n) ++ E.write a
stretch_bytes E (Stretch.literal a more) = i64_bytes (negsuc (length more)) ++ all_bytes E (a ∷ more)

unfoldable pub stretches_bytes : {A : Type 0} → Element A → List (Stretch A) → List ℕ
stretches_bytes E [] = []
stretches_bytes E (x ∷ r) = stretch_bytes E x ++ stretches_bytes E r

-- is any reading present
unfoldable pub any_present : {A : Type 0} → List (Option A) → Bool
any_present [] = false
any_present (none ∷ xs) = any_present xs
any_present (some a ∷ xs) = true

-- the column: nothing where no value is present
unfoldable pub column_bytes : {A : Type 0} → Element A → List (Option A) → List ℕ
column_bytes E xs = cond (any_present xs) (stretches_bytes E (stretches E.same xs)) []
