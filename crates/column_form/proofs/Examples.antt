-- Forms worked out from 02 by hand, against the definitions, type by type: absent readings alone, a run of one, equal neighbours, a column
-- that goes on behind ours, a fault before any place, and 17 before a fault. Assumes nothing.
use mathlib.Core.Path.{◌≡◌, refl}
use mathlib.Core.List.{[], ◌∷◌}
use Rattle.leb128.specs.Read.{u64_at, i64_at}
use Rattle.leb128.specs.Write.{encoded}
use Rattle.encoding.specs.Column.{value, repeated, literals, literal_next, run_of, run_at, trace_from, trace}
use Rattle.encoding.specs.Head.{absent_head, begun, head_at}
use Rattle.encoding.specs.Stretches.{literal_of, join_none, join_some, stretches}
use Rattle.encoding.specs.Walk.{walk}
use Rattle.encoding.specs.Writer.{all_bytes, stretch_bytes, stretches_bytes, any_present, column_bytes}
use Rattle.delta_decoder.specs.Sums.{held_sum, added, add_up, delta_trace}
use Rattle.delta_encoder.specs.Differences.{differences, delta_bytes}
use Rattle.own_form.specs.Difference.{differ_at}
use Rattle.own_form.specs.Form.{ours, other, refused, form_by, form_in, form_of}

pub record Tried : Type 0 where
  -- nothing is written for these
  pub absent-alone : form_of 2 (0x00 ∷ 0x03 ∷ []) ≡ other 0
  pub absent_none : form_of 2 (0x00 ∷ 0x00 ∷ []) ≡ other 0
  -- ours is 7f 05; 7f 01 02 02 7f 03, a byte longer; 02 05
  pub run-of-one : form_of 1 (0x01 ∷ 0x05 ∷ []) ≡ other 0
  pub neighbours : form_of 2 (0x7c ∷ 0x01 ∷ 0x02 ∷ 0x02 ∷ 0x03 ∷ []) ≡ other 0
  pub goes_on : form_of 2 (0x02 ∷ 0x05 ∷ 0x00 ∷ 0x00 ∷ []) ≡ other 2
  pub written : form_of 2 (0x7f ∷ 0x01 ∷ 0x02 ∷ 0x02 ∷ []) ≡ ours
  -- equal differences, and equal readings
  pub differences-repeat : form_of 3 (0x7e ∷ 0x01 ∷ 0x01 ∷ []) ≡ other 0
  pub readings-repeat : form_of 3 (0x7e ∷ 0x05 ∷ 0x00 ∷ []) ≡ ours
  -- a fault, and a type that no call serves
  pub cut : form_of 2 (0x01 ∷ 0x05 ∷ 0x01 ∷ []) ≡ refused 21 3
  pub unserved : form_of 6 (0x02 ∷ []) ≡ refused 17 0

pub tried : Tried
unfolding form_of form_in form_by differ_at trace trace_from walk run_at run_of head_at begun absent_head repeated literals literal_next value u64_at i64_at column_bytes any_present stretches_bytes stretch_bytes all_bytes stretches join_none join_some literal_of encoded delta_trace add_up added held_sum delta_bytes differences
tried =
    record {
      absent-alone = refl;
      absent_none = refl;
      run-of-one = refl;
      neighbours = refl;
      goes_on = refl;
      written = refl;
      differences-repeat = refl;
      readings-repeat = refl;
      cut = refl;
      unserved = refl;
    }
