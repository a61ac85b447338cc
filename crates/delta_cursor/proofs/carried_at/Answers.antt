-- `delta_cursor::carried_at` meets its contract: the difference was read, or its refusal passed on. Assumes nothing.
use mathlib.Core.Path.{sym, ap}
use mir.Syntax.{w64}
use mir.Val.{SFits}
use mir.ValLaws.{to_z-of_z}
use borrow.Author.Rules.{rules}
use Rattle.std.proofs.lemmas.Result.{err_from_is_err_and}
use Rattle.leb128.specs.Cases.{parsed_of}
use Rattle.encoding.proofs.Via.{via}
use Rattle.cursor.specs.Cursor.{carried}
use Rattle.cursor.specs.Kept.{sort_of}
use Rattle.delta_cursor.proofs.carried_at.Goals as goal

pub returns : goal.returns
unfolding carried sort_of
returns c =
    let d = c.in_ok-d.d in
    let f : SFits w64 d = search rules in
    rw (to_z-of_z w64 d f) (sym (ap (carried _ _ _) (via parsed_of c.i64_by_bytes.ensures c.in_ok-d.was)))

pub returns-in_err-d : goal.returns-in_err-d
unfolding carried
returns-in_err-d c =
    let p = err_from_is_err_and c.from_residual.result c.from_residual.ensures.1 in
    rw (p.1, p.2) (sym (ap (carried c.args.had c.args.c c.args.q) (via parsed_of c.i64_by_bytes.ensures c.in_err-d.was)))
