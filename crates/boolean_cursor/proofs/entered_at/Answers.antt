-- `boolean_cursor::entered_at` meets its contract: the count was read, or its refusal passed on. Assumes nothing.
use mathlib.Core.Path.{sym, ◌∙◌}
use Rattle.std.proofs.lemmas.Result.{err_from_is_err_and}
use Rattle.leb128.specs.Cases.{parsed_of}
use Rattle.encoding.proofs.Via.{via}
use Rattle.boolean_cursor.proofs.TurnCursors.{counting-bad, enter-read, enter-end}
use Rattle.boolean_cursor.proofs.entered_at.Goals as goal

pub returns-then-len-at : goal.returns-then-len-at
returns-then-len-at c = sym (enter-end _ _ _ _ c.if-len-at.true)

pub returns : goal.returns
returns c = c.counted_at.ensures ∙ sym (enter-read _ _ _ _ _ c.if-len-at.false (via parsed_of c.leb128_u64.ensures c.in_ok-c.was))

pub returns-in_err-c : goal.returns-in_err-c
returns-in_err-c c =
    let p = err_from_is_err_and c.from_residual.result c.from_residual.ensures.1 in
    rw (p.1, p.2) (sym (enter-read _ _ c.args.had c.args.flag _ c.if-len-at.false (via parsed_of c.leb128_u64.ensures c.in_err-c.was) ∙ counting-bad _ _ _ _ _))
