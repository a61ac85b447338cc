-- `text_encoder::list_len` meets its contract: nothing replaced in no old column is the list. Assumes nothing.
use Prim.Native.Nat.{ℕ}
use mathlib.Core.Path.{◌∙◌, ap}
use mathlib.Core.List.{List}
use mathlib.Core.Option.{Option}
use lib.ListN.{length}
use Rattle.encoding.specs.Writer.{column_bytes}
use Rattle.text.specs.Text.{text_e}
use Rattle.encoding.specs.Cases.{fit}
use Rattle.text_encoder.proofs.Plain.{nothing-spliced, nothing-spliceable}
use Rattle.text_encoder.proofs.list_len.Goals as goal

pub spliced_len-requires : goal.spliced_len-requires
spliced_len-requires c =
    let a = c.args in
    nothing-spliceable a.bytes.now a.starts.now a.lens.now a.present.now c.requires.0 c.requires.1

pub returns : goal.returns
returns c =
    let a = c.args in
    c.spliced_len.ensures
    ∙ ap (λ (xs : List (Option (List ℕ))). fit (length (column_bytes text_e xs))) (nothing-spliced a.bytes.now a.starts.now a.lens.now a.present.now)
