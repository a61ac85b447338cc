-- Forms worked out from 02 by hand, against the definitions: what is ours, where another writer's runs make it another, and a fault before any place. Assumes
-- nothing.
use Prim.Native.Nat.{ℕ}
use mathlib.Core.Path.{◌≡◌, refl}
use mathlib.Core.List.{List, [], ◌∷◌, map}
use Rattle.leb128.specs.Read.{u64_at, i64_at}
use Rattle.leb128.specs.Write.{encoded}
use Rattle.encoding.specs.Column.{value, trace, trace_from, run_at, run_of, repeated, literals, literal_next}
use Rattle.encoding.specs.Head.{head_at, begun, absent_head}
use Rattle.encoding.specs.Stretches.{literal_of, join_none, join_some, stretches}
use Rattle.encoding.specs.Walk.{walk}
use Rattle.encoding.specs.Writer.{all_bytes, stretch_bytes, stretches_bytes, any_present, column_bytes}
use Rattle.rle_decoder.specs.Word.{u64_e}
use Rattle.own_form.specs.Difference.{differ_at}
use Rattle.own_form.specs.Form.{Form, ours, other, refused, form_by, form_in}

abbrev form : List ℕ → Form
form = form_in (trace u64_e) (λ rs. column_bytes u64_e (map value rs))

pub record Tried : Type 0 where
  -- ours: no list, a value twice, one value alone, and absent readings before a value
  pub nothing : form [] ≡ ours
  pub twice : form (0x02 ∷ 0x05 ∷ []) ≡ ours
  pub once : form (0x7f ∷ 0x05 ∷ []) ≡ ours
  pub absent-first : form (0x00 ∷ 0x03 ∷ 0x02 ∷ 0x05 ∷ []) ≡ ours
  -- not ours: absent readings alone, and no reading at all
  pub absent-alone : form (0x00 ∷ 0x03 ∷ []) ≡ other 0
  pub absent_none : form (0x00 ∷ 0x00 ∷ []) ≡ other 0
  -- one stretch in two runs, ours are 04 05 and 7e 05 06; a value once with a positive count, ours is 7f 05; a pair in a literal run, ours is 02 05
  pub split : form (0x02 ∷ 0x05 ∷ 0x02 ∷ 0x05 ∷ []) ≡ other 0
  pub literals-split : form (0x7f ∷ 0x05 ∷ 0x7f ∷ 0x06 ∷ []) ≡ other 0
  pub positive : form (0x01 ∷ 0x05 ∷ []) ≡ other 0
  pub paired : form (0x7e ∷ 0x05 ∷ 0x05 ∷ []) ≡ other 0
  -- a later run, and a later byte of a count: ours are 02 05 04 06 and c8 01 05
  pub later-run : form (0x02 ∷ 0x05 ∷ 0x02 ∷ 0x06 ∷ 0x02 ∷ 0x06 ∷ []) ≡ other 2
  pub later-byte : form (0xc8 ∷ 0x00 ∷ 0x05 ∷ 0x80 ∷ 0x01 ∷ 0x05 ∷ []) ≡ other 1
  -- our bytes are the start: the shorter length
  pub behind : form (0x02 ∷ 0x05 ∷ 0x00 ∷ 0x00 ∷ []) ≡ other 2
  -- a fault comes before any place
  pub cut : form (0x02 ∷ 0x05 ∷ 0x02 ∷ 0x05 ∷ 0x02 ∷ 0x80 ∷ []) ≡ refused 1 5

pub tried : Tried
unfolding form_in form_by differ_at trace trace_from walk run_at run_of repeated literals literal_next value head_at begun absent_head u64_at i64_at column_bytes any_present stretches join_none join_some literal_of stretches_bytes stretch_bytes all_bytes encoded
tried =
    record {
      nothing = refl;
      twice = refl;
      once = refl;
      absent-first = refl;
      absent-alone = refl;
      absent_none = refl;
      split = refl;
      literals-split = refl;
      positive = refl;
      paired = refl;
      later-run = refl;
      later-byte = refl;
      behind = refl;
      cut = refl;
    }
