-- `run_head::head_far` meets its contract: the count is read by the table that is lent, and opens the run. Assumes nothing.
use mathlib.Core.Path.{◌∙◌}
use lib.IntN.{ℤ}
use mir.Syntax.{w64}
use mir.Val.{SFits}
use borrow.Author.Rules.{rules}
use Rattle.leb128.proofs.Twos.{same}
use Rattle.leb128.specs.Cases.{parsed_of}
use Rattle.std.proofs.lemmas.Result.{err_from_is_err_and}
use Rattle.encoding.specs.Head.{begun}
use Rattle.encoding.proofs.Heads.{passed, head-by}
use Rattle.encoding.proofs.Via.{via}
use Rattle.run_head.proofs.head_far.Goals as goal

pub returns : goal.returns
returns c =
    let x : ℤ = c.in_ok-c.c in
    let f : SFits w64 x = search rules in
    c.begun_at.ensures ∙ passed _ _ _ _ (same x f) ∙ head-by _ _ _ _ (via parsed_of c.i64_by.ensures c.in_ok-c.was)

pub returns-in_err-c : goal.returns-in_err-c
unfolding begun
returns-in_err-c c =
    let p = err_from_is_err_and c.from_residual.result c.from_residual.ensures.1 in
    rw (p.1, p.2) (head-by _ _ c.args.had _ (via parsed_of c.i64_by.ensures c.in_err-c.was))
