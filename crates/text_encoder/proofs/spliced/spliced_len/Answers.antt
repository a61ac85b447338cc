-- `text_encoder::spliced::spliced_len` meets its contract: the walk is over the new list. Assumes nothing.
use Prim.Native.Nat.{ℕ}
use mathlib.Core.Path.{◌∙◌, ap}
use mathlib.Core.List.{List}
use mathlib.Core.Option.{Option}
use native.Mathlib.Omega.{arith}
use lib.ListN.{length}
use Rattle.encoding.specs.Writer.{column_bytes}
use Rattle.text.specs.Text.{text_e}
use Rattle.encoding.specs.Cases.{fit}
use Rattle.text_encoder.proofs.spliced.spliced_len.Goals as goal

pub first-s-requires : goal.first-s-requires
first-s-requires c = let p = c.requires in record { pairs = p.pairs; start_le_end = (p.ordered, p.sound, p.within) }

pub column_len-requires : goal.column_len-requires
column_len-requires c =
    let p = c.requires in
    let e = c.first-s.ensures.result_value in
    record { pairs = p.pairs; «at» = c.first-s.ensures.«at»; s_len_bound = omega (arith, p.few, ap length e) }

pub returns : goal.returns
returns c = c.column_len.ensures ∙ ap (λ (xs : List (Option (List ℕ))). fit (length (column_bytes text_e xs))) c.first-s.ensures.result_value
