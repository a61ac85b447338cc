-- A plain list is the new list of a column of no bytes, of which nothing is replaced. Assumes nothing.
use Prim.Native.Nat.{ℕ, ◌≤◌}
use mathlib.Core.Path.{◌≡◌, refl, ◌∙◌, ap}
use mathlib.Core.List.{List, [], map, append-nil}
use native.Mathlib.Omega.{arith}
use lib.ListN.{length}
use Rattle.leb128.specs.Answer.{done}
use Rattle.encoding.specs.Column.{Reading, value, run_at, trace_from, trace}
use Rattle.encoding.specs.Limit.{limit}
use Rattle.encoding.specs.Walk.{walk, outcome_of, outcome}
use Rattle.slots.specs.Splice.{spliced}
use Rattle.text.specs.Text.{text_e}
use Rattle.text.specs.Given.{name_list}
use Rattle.text.proofs.Givens.{names-length}
use Rattle.text_encoder.specs.Walks.{Pairs}
use Rattle.text_encoder.specs.Edits.{new_names, Spliceable}

-- no bytes are a sound column of no readings
pub nothing-sound : outcome (trace text_e []) ≡ done (length (trace text_e []).readings)
unfolding outcome outcome_of trace trace_from walk run_at
nothing-sound = refl

pub nothing_read : (trace text_e []).readings ≡ []
unfolding trace trace_from walk run_at
nothing_read = refl

module _ (bytes starts lens flags : List ℕ) where
  pub nothing-spliced : new_names [] bytes starts lens flags 0 0 ≡ name_list bytes starts lens flags
  nothing-spliced =
      ap (λ (rs : List (Reading (List ℕ))). spliced (map value rs) 0 0 (name_list bytes starts lens flags)) nothing_read ∙ append-nil (name_list bytes starts lens flags)

  pub nothing-spliceable : Pairs bytes starts lens flags → length starts ≤ limit → Spliceable [] bytes starts lens flags 0 0
  nothing-spliceable h k =
      let n = names-length bytes starts lens flags h.even h.flagged in
      record {
        pairs = h;
        sound = nothing-sound;
        ordered = omega arith;
        within = omega arith;
        few = omega (arith, k, n, ap length nothing-spliced);
      }
