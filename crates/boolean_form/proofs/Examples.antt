-- Forms worked out from 02 by hand, against the definitions: what is ours, where a 0 makes it another, and a fault before any place. Assumes nothing.
use Prim.Native.Nat.{ℕ}
use mathlib.Core.Path.{◌≡◌, refl}
use mathlib.Core.List.{List, [], ◌∷◌}
use Rattle.leb128.specs.Read.{u64_at}
use Rattle.leb128.specs.Write.{encoded}
use Rattle.encoding.specs.Walk.{walk}
use Rattle.boolean_decoder.specs.Turns.{counted, turn_at, turns_from, bool_trace}
use Rattle.boolean_encoder.specs.Writer.{add_one, counts, counts_bytes, bool_bytes}
use Rattle.own_form.specs.Difference.{differ_at}
use Rattle.own_form.specs.Form.{Form, ours, other, refused, form_by, form_in}

abbrev form : List ℕ → Form
form = form_in bool_trace bool_bytes

pub record Tried : Type 0 where
  -- ours: no list, the plain form of false alone, and the 0 before a list that begins true
  pub nothing : form [] ≡ ours
  pub false-alone : form (0x01 ∷ []) ≡ ours
  pub true-first : form (0x00 ∷ 0x03 ∷ []) ≡ ours
  -- not ours: a 0 that counts nothing, alone, inside (ours is 08) and behind (05 03)
  pub zero-alone : form (0x00 ∷ []) ≡ other 0
  pub zero-inside : form (0x05 ∷ 0x00 ∷ 0x03 ∷ []) ≡ other 0
  pub zero-behind : form (0x05 ∷ 0x03 ∷ 0x00 ∷ []) ≡ other 2
  -- a fault comes before any place
  pub cut : form (0x05 ∷ 0x00 ∷ 0x80 ∷ []) ≡ refused 1 2

pub tried : Tried
unfolding form_in form_by differ_at bool_trace turns_from turn_at counted walk u64_at bool_bytes counts_bytes counts add_one encoded
tried =
    record {
      nothing = refl;
      false-alone = refl;
      true-first = refl;
      zero-alone = refl;
      zero-inside = refl;
      zero-behind = refl;
      cut = refl;
    }
