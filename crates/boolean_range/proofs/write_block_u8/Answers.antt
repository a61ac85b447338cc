-- `boolean_range::write_block_u8` meets its contract: its size, and then the block. Assumes nothing.
use mathlib.Core.Path.{◌∙◌, refl, sym, ap}
use mathlib.Core.Option.{none}
use Rattle.std.proofs.lemmas.Result.{err_from_is_err_and}
use Rattle.encoding.specs.Given.{sized}
use Rattle.splice.specs.Kinds.{boolean}
use Rattle.splice.proofs.Writing.{good-judged, size-done, finish-refused}
use Rattle.boolean_range.proofs.write_block_u8.Goals as goal

pub put_block_u8-requires : goal.put_block_u8-requires
put_block_u8-requires c =
    let W = boolean.writes c.args.values.now in
    let e = sym (ap (sized W) (good-judged c.requires.good)) ∙ sym c.in_ok-size.ensures in
    record { has_row = c.requires.has_row; good = c.requires.good; size_value = (size-done W _ none e).0 }

pub returns-in_err-size : goal.returns-in_err-size
returns-in_err-size c =
    let a = c.args in
    let W = boolean.writes a.values.now in
    let e = sym (ap (sized W) (good-judged c.requires.good)) ∙ sym c.in_err-size.ensures in
    let p = err_from_is_err_and c.from_residual.result c.from_residual.ensures.1 in
    rw (p.1, p.2) (finish-refused boolean c.requires.has_row a.values.now a.out.now _ e refl)
