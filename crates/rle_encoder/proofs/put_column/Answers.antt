-- `rle_encoder::put_column` meets its contract: a value is present, or there are no bytes. Assumes nothing.
use mathlib.Core.Path.{sym, ◌∙◌, ap}
use native.Mathlib.Omega.{arith}
use lib.ListN.{length}
use Rattle.encoding.proofs.Putting.{any-list, bytes-all, bytes-none}
use Rattle.rle_decoder.specs.Word.{u64_e}
use Rattle.rle_encoder.proofs.put_column.Goals as goal

pub put_all-requires : goal.put_all-requires
put_all-requires c =
    let v = c.args.values.now in
    let p = c.args.present.now in
    let a = any-list v p c.requires.present_len.0 ∙ sym c.any_present.ensures ∙ c.if-any_present.true in
    record { present_len = c.requires.present_len; present_in_bounds = omega (arith, ap length (bytes-all u64_e 0 v p a), c.requires.present_in_bounds) }

pub returns-then-any_present : goal.returns-then-any_present
returns-then-any_present c =
    let v = c.args.values.now in
    let p = c.args.present.now in
    let t = c.if-any_present.true in
    let a = any-list v p c.requires.present_len.0 ∙ sym c.any_present.ensures ∙ t in
    rw (bytes-all u64_e 0 v p a) c.put_all.ensures

pub returns-else-any_present : goal.returns-else-any_present
returns-else-any_present c =
    let v = c.args.values.now in
    let p = c.args.present.now in
    let a = any-list v p c.requires.present_len.0 ∙ sym c.any_present.ensures ∙ c.if-any_present.false in
    rw (bytes-none u64_e 0 v p a)
