-- `boolean_range::splice_boolean` meets its contract: refused by its plan, or ready. Assumes nothing.
use mathlib.Core.Path.{refl}
use Rattle.std.proofs.lemmas.Result.{err_from_is_err_and}
use Rattle.splice.proofs.BooleanEdits.{boolean-stopped, boolean-ready}
use Rattle.boolean_range.proofs.splice_boolean.Goals as goal

pub edit_u8-requires : goal.edit_u8-requires
edit_u8-requires c =
    let a = c.args in
    let both : _ × _ = boolean-ready a.block.now a.position a.start a.end a.new.now a.values.now a.out.now c.in_ok-found.ensures in
    record { ready = both.0; value = both.1 }

pub returns-in_err-found : goal.returns-in_err-found
returns-in_err-found c =
    let a = c.args in
    let p = err_from_is_err_and c.from_residual.result c.from_residual.ensures.1 in
    rw (p.1, p.2) (boolean-stopped a.block.now a.position a.start a.end a.new.now a.values.now a.out.now c.in_err-found.ensures refl)
