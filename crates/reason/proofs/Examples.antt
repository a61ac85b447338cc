-- Reasons worked out from 02 by hand, against the definitions: runs that add nothing count too; an absent run's count is 0; the fact of 5 is how many readings are asked
-- for; the sum of 6 is the one before the reading at fault; a name that is cut; and a sound column has none. Assumes nothing.
use mathlib.Core.Path.{◌≡◌, refl}
use mathlib.Core.List.{[], ◌∷◌}
use mathlib.Core.Option.{none, some}
use lib.IntN.{pos}
use Rattle.leb128.specs.Read.{u64_at, i64_at}
use Rattle.encoding.specs.Column.{repeated, literals, literal_next, run_of, run_at, trace_from, trace}
use Rattle.encoding.specs.Head.{absent_head, begun, head_at}
use Rattle.encoding.specs.Walk.{walk}
use Rattle.delta_decoder.specs.Sums.{held_sum, added, add_up, delta_trace}
use Rattle.boolean_decoder.specs.Turns.{counted, turn_at, turns_from, bool_trace}
use Rattle.text.specs.Text.{text_at}
use Rattle.reason.specs.Runs.{runs}
use Rattle.reason.specs.Reason.{unread, plus, minus, bytes, name, passes, sum, number_bytes, holding, integer_reason, text_reason, delta_reason, boolean_reason}

pub second_run : integer_reason (0x00 ∷ 0x00 ∷ 0x80 ∷ []) ≡ some (record { number = 1; place = 2; run = 1; begins = 2; count = unread; index = 0; facts = bytes 1 })
unfolding integer_reason trace trace_from walk run_at run_of head_at begun absent_head u64_at i64_at runs holding number_bytes
second_run = refl

pub absent-run : integer_reason (0x00 ∷ []) ≡ some (record { number = 21; place = 1; run = 0; begins = 0; count = plus 0; index = 0; facts = bytes 0 })
unfolding integer_reason trace trace_from walk run_at run_of head_at begun absent_head u64_at i64_at runs holding number_bytes
absent-run = refl

pub too_many : integer_reason (0x80 ∷ 0x80 ∷ 0x80 ∷ 0x80 ∷ 0x70 ∷ [])
    ≡ some (record { number = 5; place = 0; run = 0; begins = 0; count = minus 4294967296; index = 0; facts = passes 0 4294967296 })
unfolding integer_reason trace trace_from walk run_at run_of head_at begun absent_head u64_at i64_at runs holding number_bytes
too_many = refl

pub cut-literal : integer_reason (0x7e ∷ 0x05 ∷ []) ≡ some (record { number = 21; place = 2; run = 0; begins = 0; count = minus 2; index = 1; facts = bytes 0 })
unfolding integer_reason trace trace_from walk run_at run_of head_at begun absent_head literals literal_next u64_at i64_at runs holding number_bytes
cut-literal = refl

pub sound-column : integer_reason (0x7f ∷ 0x05 ∷ []) ≡ none
unfolding integer_reason trace trace_from walk run_at run_of head_at begun absent_head literals literal_next u64_at i64_at runs holding number_bytes
sound-column = refl

pub sum-leaves : delta_reason (0x02 ∷ 0x80 ∷ 0x80 ∷ 0x80 ∷ 0x80 ∷ 0x80 ∷ 0x80 ∷ 0x80 ∷ 0x80 ∷ 0xc0 ∷ 0x00 ∷ [])
    ≡ some (
    record {
      number = 6;
      place = 1;
      run = 0;
      begins = 0;
      count = plus 2;
      index = 1;
      facts = sum (pos 4611686018427387904) (pos 4611686018427387904);
    })
unfolding delta_reason delta_trace add_up added held_sum trace trace_from walk run_at run_of head_at begun absent_head repeated u64_at i64_at runs holding number_bytes
sum-leaves = refl

pub second-count : boolean_reason (0x00 ∷ 0x80 ∷ []) ≡ some (record { number = 1; place = 1; run = 1; begins = 1; count = unread; index = 0; facts = bytes 1 })
unfolding boolean_reason bool_trace turns_from walk turn_at counted u64_at runs holding number_bytes
second-count = refl

pub name-cut : text_reason (0x7f ∷ 0x02 ∷ 0x61 ∷ []) ≡ some (record { number = 1; place = 1; run = 0; begins = 0; count = minus 1; index = 0; facts = name 2 1 })
unfolding text_reason trace trace_from walk run_at run_of head_at begun absent_head literals literal_next text_at u64_at i64_at runs holding number_bytes
name-cut = refl

-- a count that is too long as a signed number, and would read as a name's length
pub count-overlong : text_reason (0xff ∷ 0x7f ∷ []) ≡ some (record { number = 3; place = 0; run = 0; begins = 0; count = unread; index = 0; facts = bytes 2 })
unfolding text_reason trace trace_from walk run_at run_of head_at begun absent_head literals literal_next text_at u64_at i64_at runs holding number_bytes
count-overlong = refl
