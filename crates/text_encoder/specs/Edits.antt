-- An edit of names: what its private functions ask and promise. No public promise cites it.
use Rattle.std.specs.Prelude.{ℕ, ◌-◌, ◌≤◌, ◌≡◌, List, ◌++◌, map, length, drop, replicate}
use Rattle.std.proofs.Math.Option.{Option}
use Rattle.std.proofs.Math.Seq.{paste}
use Rattle.leb128.specs.Answer.{done}
use Rattle.encoding.specs.Column.{value, trace}
use Rattle.encoding.specs.Limit.{limit}
use Rattle.encoding.specs.Slots.{flag_of}
use Rattle.encoding.specs.Walk.{outcome}
use Rattle.slots.specs.Splice.{spliced}
use Rattle.text.specs.Text.{text_e}
use Rattle.text.specs.Name.{start_of, length_of}
use Rattle.text.specs.Given.{name_list}
use Rattle.text_encoder.specs.Walks.{Pairs}

-- the names of a column with a range replaced by given ones
abbrev pub new_names : List ℕ → List ℕ → List ℕ → List ℕ → List ℕ → ℕ → ℕ → List (Option (List ℕ))
new_names column bytes starts lens flags start end = spliced (map value (trace text_e column).readings) start end (name_list bytes starts lens flags)

-- a column that reads soundly, a range of its list, and names to stand there, all judged
pub record Spliceable (column bytes starts lens flags : List ℕ) (start end : ℕ) : Type 0 where
  pub pairs : Pairs bytes starts lens flags
  pub sound : outcome (trace text_e column) ≡ done (length (trace text_e column).readings)
  pub ordered : start ≤ end
  pub within : end ≤ length (trace text_e column).readings
  pub few : length (new_names column bytes starts lens flags start end) ≤ limit

-- zeros from one slot up to another
abbrev pub cleared : ℕ → ℕ → List ℕ → List ℕ
cleared from to slots = paste slots from (replicate (to - from) 0) (to - from)

-- slots that begin with a column's readings, and with zeros behind them up to m
abbrev pub refilled : ℕ → List ℕ → List ℕ → List ℕ
refilled m ys slots = ys ++ (replicate (m - length ys) 0 ++ drop m slots)

pub record Refilled (column : List ℕ) (m : ℕ) (a a' l l' p p' : List ℕ) : Type 0 where
  pub starts : a' ≡ refilled m (map start_of (trace text_e column).readings) a
  pub lens : l' ≡ refilled m (map length_of (trace text_e column).readings) l
  pub presence : p' ≡ refilled m (map flag_of (trace text_e column).readings) p

-- slots of one length, with room for m readings, of which a column that reads soundly has no more
pub record Refillable (column : List ℕ) (m a l p : ℕ) : Type 0 where
  pub sound : outcome (trace text_e column) ≡ done (length (trace text_e column).readings)
  pub few : length (trace text_e column).readings ≤ m
  pub room : m ≤ a
  pub even : l ≡ a
  pub flagged : p ≡ a
