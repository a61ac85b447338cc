-- `rle_cursor::literal_at` meets its contract: the value was read, or its refusal passed on. Assumes nothing.
use mathlib.Core.Path.{sym, ◌∙◌}
use Rattle.leb128.specs.Cases.{parsed_of}
use Rattle.encoding.proofs.Via.{via}
use Rattle.rle_cursor.proofs.Outs.{out-by, literal-got, literal-bad}
use Rattle.rle_cursor.proofs.literal_at.Goals as goal

pub returns-in-Ok : goal.returns-in-Ok
returns-in-Ok c =
    let a = c.args in
    out-by c.bare.ensures ∙ sym (literal-got a.lent a.c (via parsed_of c.leb128_u64.ensures c.in-Ok.is))

pub returns-in-Err : goal.returns-in-Err
returns-in-Err c =
    let a = c.args in
    sym (literal-bad a.lent a.c (via parsed_of c.leb128_u64.ensures c.in-Err.is))
