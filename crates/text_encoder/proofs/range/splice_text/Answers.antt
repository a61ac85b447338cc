-- `text_encoder::range::splice_text` meets its contract: by its plan. Assumes nothing.
use mathlib.Core.Path.{refl}
use Rattle.std.proofs.lemmas.Result.{err_from_is_err_and}
use Rattle.text_encoder.proofs.EditedNames.{names-planned, names-ready}
use Rattle.text_encoder.proofs.range.splice_text.Goals as goal

pub edit_text-requires : goal.edit_text-requires
edit_text-requires c =
    let a = c.args in
    let both : _ × _ = names-ready a.block.now a.position a.start a.end a.bytes.now a.new_starts.now a.new_lens.now a.new_present.now a.starts.now a.lens.now a.present.now a.out.now
    c.in_ok-found.ensures in record { ready = both.0; new_present_value = both.1 }

pub returns-in_err-found : goal.returns-in_err-found
returns-in_err-found c =
    let a = c.args in
    let p = err_from_is_err_and c.from_residual.result c.from_residual.ensures.1 in
    rw (p.1, p.2) (names-planned a.block.now a.position a.start a.end a.bytes.now a.new_starts.now a.new_lens.now a.new_present.now a.starts.now a.lens.now a.present.now a.out.now
    c.in_err-found.ensures refl)
