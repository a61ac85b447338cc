-- What the slots say is the list: the names that the starts, lengths and presence bytes of a column cut out of its bytes are those that it reads as,
-- and of a written list the names that were written. Assumes nothing.
use Prim.Native.Nat.{ℕ, ◌≤◌, ◌<◌}
use mathlib.Core.Path.{◌≡◌, refl, ◌∙◌, ap}
use mathlib.Core.List.{List, [], ◌∷◌, map}
use mathlib.Core.Option.{Option, none, some}
use mathlib.Core.Bool.{true}
use lib.ListN.{length, get_or}
use Rattle.encoding.specs.Column.{Reading, absent, present, value, trace}
use Rattle.encoding.specs.Given.{slot_list}
use Rattle.encoding.specs.Limit.{limit}
use Rattle.encoding.specs.Slots.{flag_of}
use Rattle.encoding.specs.Writer.{any_present, column_bytes}
use Rattle.encoding.proofs.Back.{ListFits}
use Rattle.text.specs.Text.{text_e}
use Rattle.text.specs.Name.{start_of, length_of}
use Rattle.text.specs.Given.{cut_names, name_list}
use Rattle.text.proofs.Names.{Named, names-there}
use Rattle.text.proofs.Placed.{Each}
use Rattle.text.proofs.Texts.{text-trip}
use Rattle.text.proofs.WrittenBytes.{names-bytes}

-- the list that the slots of readings say, read in the bytes s as a list that is given (`name_list`)
abbrev pub said_by : List ℕ → List (Reading (List ℕ)) → List (Option (List ℕ))
said_by s rs = name_list s (map start_of rs) (map length_of rs) (map flag_of rs)

said_each : (s : List ℕ) (rs : List (Reading (List ℕ))) → Each (Named s) rs → said_by s rs ≡ map value rs
unfolding value slot_list cut_names
said_each s [] h = refl
said_each s (absent ∷ rs) h = ap (λ (xs : List (Option (List ℕ))). none ∷ xs) (said_each s rs h)
said_each s (present v place ∷ rs) h =
    ap (λ (w : List ℕ). some w ∷ said_by s rs) h.0.1 ∙ ap (λ (xs : List (Option (List ℕ))). some v ∷ xs) (said_each s rs h.1)

pub slots-say : (s : List ℕ) → ((i : ℕ) → get_or s i 0 < 256) → said_by s (trace text_e s).readings ≡ map value (trace text_e s).readings
slots-say s B = said_each s (trace text_e s).readings (names-there s B)

-- A WRITTEN LIST READS BACK AS ITSELF, by starts, lengths and presence bytes
pub names-back : (xs : List (Option (List ℕ))) → any_present xs ≡ true → ListFits text_e xs → length xs ≤ limit
    → said_by (column_bytes text_e xs) (trace text_e (column_bytes text_e xs)).readings ≡ xs
names-back xs e h k = slots-say (column_bytes text_e xs) (names-bytes xs h) ∙ (text-trip xs e h k).0
