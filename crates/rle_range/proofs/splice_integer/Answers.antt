-- `rle_range::splice_integer` meets its contract: refused by its plan, or ready. Assumes nothing.
use mathlib.Core.Path.{refl}
use Rattle.std.proofs.lemmas.Result.{err_from_is_err_and}
use Rattle.splice.specs.Kinds.{integer}
use Rattle.splice.proofs.Counting.{integer-counts}
use Rattle.splice.proofs.OptionalEdits.{optional-stopped, optional-ready}
use Rattle.rle_range.proofs.splice_integer.Goals as goal

pub edit_u64-requires : goal.edit_u64-requires
edit_u64-requires c =
    let a = c.args in
    let e = c.in_ok-found.ensures in
    let both : _ × _ = optional-ready integer 0 a.block.now a.position a.start a.end a.new.now a.new_present.now a.values.now a.present.now a.out.now
    integer-counts e in record { ready = both.0; new_present_value = both.1 }

pub returns-in_err-found : goal.returns-in_err-found
returns-in_err-found c =
    let a = c.args in
    let p = err_from_is_err_and c.from_residual.result c.from_residual.ensures.1 in
    rw (p.1, p.2) (optional-stopped integer 0 a.block.now a.position a.start a.end a.new.now a.new_present.now a.values.now a.present.now a.out.now
    integer-counts c.in_err-found.ensures refl)
