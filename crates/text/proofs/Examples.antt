-- The smallest columns where two readings of 02, [1] differ, as one statement. Assumes nothing.
use mathlib.Core.Path.{◌≡◌, refl}
use mathlib.Core.List.{[], ◌∷◌, ◌++◌, map}
use lib.ListN.{replicate}
use Rattle.leb128.specs.Answer.{refused}
use Rattle.leb128.specs.Read.{u64_at, i64_at}
use Rattle.leb128.specs.Write.{encoded}
use Rattle.encoding.specs.Walk.{walk, outcome_of, outcome}
use Rattle.encoding.specs.Head.{absent_head, begun, head_at}
use Rattle.encoding.specs.Column.{repeated, literal_next, literals, run_of, run_at, trace_from, trace}
use Rattle.utf8.specs.Utf8.{follow, goes_on, is_utf8}
use Rattle.text.specs.Text.{text_at, text_e}
use Rattle.text.specs.Name.{start_of}

pub record Examples : Type 0 where
  -- no byte of a length number is there, and none of a value
  pub no_length : outcome (trace text_e (0x7f ∷ [])) ≡ refused 21 1
  pub no_value : outcome (trace text_e (0x7f ∷ 0x01 ∷ [])) ≡ refused 1 1
  -- of one value, 1 is judged before 20; 20 of the first value comes before 1 of the second
  pub cut-first : outcome (trace text_e (0x7f ∷ 0x02 ∷ 0xff ∷ [])) ≡ refused 1 1
  pub first-fault : outcome (trace text_e (0x7e ∷ 0x01 ∷ 0xff ∷ 0x01 ∷ [])) ≡ refused 20 1
  -- a length near 2^64
  pub no_wrap : outcome (trace text_e (0x7f ∷ replicate 9 0xff ++ 0x01 ∷ [])) ≡ refused 1 1
  -- an empty name starts behind its length number, a repeated one at the same byte each time, an absent one at 0
  pub empty_name : map start_of (trace text_e (0x7f ∷ 0x00 ∷ [])).readings ≡ 2 ∷ []
  pub repeated-name : map start_of (trace text_e (0x02 ∷ 0x01 ∷ 0x61 ∷ [])).readings ≡ 2 ∷ 2 ∷ []
  pub absent-name : map start_of (trace text_e (0x00 ∷ 0x01 ∷ 0x7f ∷ 0x01 ∷ 0x61 ∷ [])).readings ≡ 0 ∷ 4 ∷ []

pub examples : Examples
unfolding outcome outcome_of trace trace_from walk run_at head_at begun absent_head run_of repeated literals literal_next text_at u64_at i64_at encoded is_utf8 goes_on follow start_of
examples =
    record {
      no_length = refl;
      no_value = refl;
      cut-first = refl;
      first-fault = refl;
      no_wrap = refl;
      empty_name = refl;
      repeated-name = refl;
      absent-name = refl;
    }
