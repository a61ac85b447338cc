-- A run by its numbers before the values, and by the values: what private functions compare. No public promise cites it.
use Rattle.std.specs.Prelude.{ℕ, List, [], ◌∷◌, ◌++◌, pos, negsuc, length}
use Rattle.leb128.specs.Write.{u64_bytes, i64_bytes}
use Rattle.encoding.specs.Element.{Element}
use Rattle.encoding.specs.Stretches.{Stretch}
use Rattle.encoding.specs.Writer.{all_bytes}

-- the count of a stretch, of absent readings both numbers
unfoldable pub head_bytes : {A : Type 0} → Stretch A → List ℕ
head_bytes (Stretch.absent n) = i64_bytes (pos 0) ++ u64_bytes n
head_bytes (Stretch.repeat n a) = i64_bytes (pos n)
head_bytes (Stretch.literal a more) = i64_bytes (negsuc (length more))

-- and its values
unfoldable pub value_bytes : {A : Type 0} → Element A → Stretch A → List ℕ
value_bytes E (Stretch.absent n) = []
value_bytes E (Stretch.repeat n a) = E.write a
value_bytes E (Stretch.literal a more) = all_bytes E (a ∷ more)
