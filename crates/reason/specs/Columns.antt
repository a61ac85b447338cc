-- 02, [3], as 02-readings has it: one call over a column's bytes and its type. "Types that no call serves get 17 and no reason."
use Rattle.std.specs.Prelude.{ℕ, List, cond}
use Rattle.std.proofs.Math.Option.{Option, none, some}
use Rattle.column_specification.specs.Served.{integer_type, delta_type, boolean_type, text_type}
use Rattle.reason.specs.Reason.{Reason, integer_reason, delta_reason, boolean_reason, text_reason}

-- the reason of the column's fault; that it has none, as it is sound; or a refusal of the call's own
pub data Told : Type 0 where
  because : Reason → Told
  faultless : Told
  refused : ℕ → ℕ → Told

abbrev pub answered : Option Reason → Told
answered none = faultless
answered (some r) = because r

-- by the type's number
unfoldable pub column_reason : ℕ → List ℕ → Told
column_reason t s =
    cond (integer_type t) (answered (integer_reason s))
    (cond (delta_type t) (answered (delta_reason s))
    (cond (boolean_type t) (answered (boolean_reason s))
    (cond (text_type t) (answered (text_reason s))
    (refused 17 0))))
