-- 02, [5]: a cursor in a delta column: one in its differences, with the sum so far; and one step of it.
use Rattle.std.specs.Prelude.{ℕ, List, ℤ, pos}
use Rattle.std.proofs.Math.Option.{Option, none, some}
use Rattle.encoding.specs.Walk.{fault, Trace}
use Rattle.encoding.specs.Column.{Reading, absent, present}
use Rattle.cursor.specs.Steps.{Stepped, ends, gives}
use Rattle.cursor.specs.Cursor.{Cursor, fresh, step, coming}
use Rattle.delta_decoder.specs.Difference.{i64_e}
use Rattle.delta_decoder.specs.Sums.{held_sum, add_up}

pub record SumCursor : Type 0 where
  pub differences : Cursor ℤ
  pub sum : ℤ

abbrev pub summing : Cursor ℤ → ℤ → SumCursor
summing c z = record { differences = c; sum = z }

-- before the first difference, which is taken from 0
abbrev pub sum_fresh : SumCursor
sum_fresh = summing fresh (pos 0)

-- a difference that stands at a place: the reading is its sum, where an i64 holds it, else 6; d is the cursor behind it
unfoldable pub summed : ℕ → Option ℤ → Cursor ℤ → Stepped (Reading ℤ) SumCursor
summed place none d = ends (fault 6 place)
summed place (some z) d = gives (present z place) (summing d z)

-- a step in the differences, on the sum z; "absent readings pass through and change no sum"
unfoldable pub add_step : ℤ → Stepped (Reading ℤ) (Cursor ℤ) → Stepped (Reading ℤ) SumCursor
add_step z (ends e) = ends e
add_step z (gives absent d) = gives absent (summing d z)
add_step z (gives (present x place) d) = summed place (held_sum z x) d

-- ONE STEP, from any cursor
unfoldable pub delta_step : List ℕ → SumCursor → Stepped (Reading ℤ) SumCursor
delta_step s c = add_step c.sum (step i64_e s c.differences)

-- what is to come: the differences to come, added up
unfoldable pub delta_coming : List ℕ → SumCursor → Trace (Reading ℤ)
delta_coming s c = add_up c.sum (coming i64_e s c.differences).readings (coming i64_e s c.differences).ending
