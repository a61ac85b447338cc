-- `rle_encoder::column_len` meets its contract: a value is present, or there are no bytes. Assumes nothing.
use mathlib.Core.Path.{sym, ◌∙◌, ap}
use lib.ListN.{length}
use Rattle.encoding.proofs.Putting.{any-list, bytes-all, bytes-none}
use Rattle.rle_decoder.specs.Word.{u64_e}
use Rattle.rle_encoder.proofs.column_len.Goals as goal

pub returns-then-not-any_present : goal.returns-then-not-any_present
returns-then-not-any_present c =
    let t = c.if-not-any_present.true in
    let a = any-list _ _ c.requires.0 ∙ sym c.any_present.ensures ∙ t in
    ap length (sym (bytes-none u64_e 0 _ _ a))

pub returns : goal.returns
returns c =
    let t = c.if-not-any_present.false in
    let a = any-list _ _ c.requires.0 ∙ sym c.any_present.ensures ∙ t in
    c.bytes_len.ensures ∙ ap length (sym (bytes-all u64_e 0 _ _ a))
