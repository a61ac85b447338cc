-- `rle_cursor::carried_at` meets its contract: the value was read, or its refusal passed on. Assumes nothing.
use mathlib.Core.Path.{sym, ap}
use Rattle.std.proofs.lemmas.Result.{err_from_is_err_and}
use Rattle.leb128.specs.Cases.{parsed_of}
use Rattle.encoding.proofs.Via.{via}
use Rattle.cursor.specs.Cursor.{carried}
use Rattle.cursor.specs.Kept.{sort_of}
use Rattle.rle_cursor.proofs.carried_at.Goals as goal

pub returns : goal.returns
unfolding carried sort_of
returns c = sym (ap (carried _ _ _) (via parsed_of c.leb128_u64.ensures c.in_ok-v.was))

pub returns-in_err-v : goal.returns-in_err-v
unfolding carried
returns-in_err-v c =
    let p = err_from_is_err_and c.from_residual.result c.from_residual.ensures.1 in
    rw (p.1, p.2) (sym (ap (carried c.args.had c.args.c c.args.q) (via parsed_of c.leb128_u64.ensures c.in_err-v.was)))
