-- `boolean_decoder::turn_at` meets its contract: a count that is read, or its fault. Assumes nothing.
use mathlib.Core.Path.{sym, ◌∙◌}
use Rattle.std.proofs.lemmas.Result.{err_from_is_err_and}
use Rattle.leb128.specs.Cases.{parsed_of}
use Rattle.encoding.proofs.Via.{via}
use Rattle.encoding.proofs.Walking.{next-eq}
use Rattle.boolean_decoder.proofs.Turning.{counted-bad, turn-read}
use Rattle.boolean_decoder.proofs.turn_at.Goals as goal

pub returns : goal.returns
returns c =
    let leb128-u64 = c.leb128_u64 in
    c.counted_at.ensures ∙ sym (next-eq (turn-read _ _ _ c.requires.0
    (via parsed_of leb128-u64.ensures c.in_ok-c.was)))

pub returns-in_err-c : goal.returns-in_err-c
returns-in_err-c c =
    let p = err_from_is_err_and c.from_residual.result c.from_residual.ensures.1 in
    let leb128-u64 = c.leb128_u64 in
    rw (p.1, p.2) (sym (next-eq (turn-read _ _ _ c.requires.0 (via parsed_of leb128-u64.ensures c.in_err-c.was)
    ∙ counted-bad _ _ _)))
