-- `rle_decoder::scan_repeat` meets its contract: the value was read, or its refusal passed on. Assumes nothing.
use mathlib.Core.Path.{sym}
use Rattle.std.proofs.lemmas.Result.{err_from_is_err_and}
use Rattle.leb128.specs.Cases.{parsed_of}
use Rattle.encoding.proofs.Via.{via}
use Rattle.encoding.proofs.Walking.{next-eq}
use Rattle.encoding.proofs.Columns.{repeated-got, repeated-bad}
use Rattle.rle_decoder.proofs.scan_repeat.Goals as goal

pub returns : goal.returns
returns c =
    let r = via parsed_of c.leb128_u64.ensures c.in_ok-behind.was in
    sym (next-eq (repeated-got _ _ _ _ _ _ r))

pub returns-in_err-behind : goal.returns-in_err-behind
returns-in_err-behind c =
    let p = err_from_is_err_and c.from_residual.result c.from_residual.ensures.1 in
    let r = via parsed_of c.leb128_u64.ensures c.in_err-behind.was in
    rw (p.1, p.2) (sym (next-eq (repeated-bad c.args.had c.args.c _ _ _ _ r)))
