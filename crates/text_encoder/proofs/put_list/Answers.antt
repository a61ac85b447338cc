-- `text_encoder::put_list` meets its contract: nothing replaced in no old column is the list. Assumes nothing.
use Prim.Native.Nat.{ℕ}
use mathlib.Core.Path.{◌∙◌, ap}
use mathlib.Core.List.{List}
use mathlib.Core.Option.{Option}
use native.Mathlib.Omega.{arith}
use lib.ListN.{length}
use lib.Seq.{sets}
use Rattle.encoding.specs.Writer.{column_bytes}
use Rattle.text.specs.Text.{text_e}
use Rattle.text_encoder.proofs.Plain.{nothing-spliced, nothing-spliceable}
use Rattle.text_encoder.proofs.put_list.Goals as goal

pub put_spliced-requires : goal.put_spliced-requires
put_spliced-requires c =
    let a = c.args in
    let n = nothing-spliced a.bytes.now a.starts.now a.lens.now a.present.now in
    let w = ap (λ (xs : List (Option (List ℕ))). length (column_bytes text_e xs)) n in
    record { spliceable = nothing-spliceable a.bytes.now a.starts.now a.lens.now a.present.now c.requires.pairs.0 c.requires.pairs.1; end_in_bounds = omega (arith, c.requires.present_in_bounds, w) }

pub returns : goal.returns
returns c =
    let a = c.args in
    c.put_spliced.ensures
    ∙ ap (λ (xs : List (Option (List ℕ))). sets a.out.now 0 (column_bytes text_e xs)) (nothing-spliced a.bytes.now a.starts.now a.lens.now a.present.now)
