-- 02, [13]: "For a column of any served type, say yes exactly when its bytes are what our writer gives for the list they read as. .. It takes no slots and
-- refuses with 17, then with the column's own fault."
use Rattle.std.specs.Prelude.{ℕ, List, map, cond}
use Rattle.std.proofs.Math.Option.{Option, none, some}
use Rattle.column_specification.specs.Served.{integer_type, delta_type, boolean_type, text_type}
use Rattle.encoding.specs.Column.{value, trace}
use Rattle.encoding.specs.Walk.{Ending, sound, fault, Trace}
use Rattle.encoding.specs.Writer.{column_bytes}
use Rattle.rle_decoder.specs.Word.{u64_e}
use Rattle.delta_decoder.specs.Sums.{delta_trace}
use Rattle.delta_encoder.specs.Differences.{delta_bytes}
use Rattle.boolean_decoder.specs.Turns.{bool_trace}
use Rattle.boolean_encoder.specs.Writer.{bool_bytes}
use Rattle.text.specs.Text.{text_e}
use Rattle.own_form.specs.Difference.{differ_at}

-- our form; another one, first differing at a place; or a refusal
pub data Form : Type 0 where
  ours : Form
  other : ℕ → Form
  refused : ℕ → ℕ → Form

abbrev pub compared : Option ℕ → Form
compared none = ours
compared (some place) = other place

-- bytes s that end so, of which our writer gives `bytes` for what they read as
unfoldable pub form_by : Ending → List ℕ → List ℕ → Form
form_by sound s bytes = compared (differ_at 0 s bytes)
form_by (fault number place) s bytes = refused number place

-- the column read, written again, compared; booleans with the plain form
unfoldable pub form_in : {R : Type 0} → (List ℕ → Trace R) → (List R → List ℕ) → List ℕ → Form
form_in read write s = form_by (read s).ending s (write (read s).readings)

-- by the type's number: "17, then .. the column's own fault"
unfoldable pub form_of : ℕ → List ℕ → Form
form_of t s =
    cond (integer_type t) (form_in (trace u64_e) (λ rs. column_bytes u64_e (map value rs)) s)
    (cond (delta_type t) (form_in delta_trace (λ rs. delta_bytes (map value rs)) s)
    (cond (boolean_type t) (form_in bool_trace bool_bytes s)
    (cond (text_type t) (form_in (trace text_e) (λ rs. column_bytes text_e (map value rs)) s)
    (refused 17 0))))
