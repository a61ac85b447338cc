-- `text_encoder::spliced::put_spliced` meets its contract: the walk is over the new list. Assumes nothing.
use Prim.Native.Nat.{ℕ}
use mathlib.Core.Path.{◌∙◌, ap}
use mathlib.Core.List.{List}
use mathlib.Core.Option.{Option}
use native.Mathlib.Omega.{arith}
use lib.ListN.{length}
use lib.Seq.{sets}
use Rattle.encoding.specs.Writer.{column_bytes}
use Rattle.text.specs.Text.{text_e}
use Rattle.text_encoder.proofs.spliced.put_spliced.Goals as goal

pub first-s-requires : goal.first-s-requires
first-s-requires c = let p = c.requires.spliceable in record { pairs = p.pairs; start_le_end = (p.ordered, p.sound, p.within) }

pub put_column-requires : goal.put_column-requires
put_column-requires c =
    let p = c.requires.spliceable in
    let e = c.first-s.ensures.result_value in
    let f = ap (λ (xs : List (Option (List ℕ))). length (column_bytes text_e xs)) e in
    record { pairs = p.pairs; «at» = c.first-s.ensures.«at»; s_len_bound = omega (arith, p.few, ap length e); s_in_bounds = omega (arith, c.requires.end_in_bounds, f) }

pub returns : goal.returns
returns c = c.put_column.ensures ∙ ap (λ (xs : List (Option (List ℕ))). sets c.args.out.now 0 (column_bytes text_e xs)) c.first-s.ensures.result_value
