-- `run_head::head_by_bytes` meets its contract: the count is read by its bytes, and opens the run. Assumes nothing.
use mathlib.Core.Path.{◌∙◌}
use lib.IntN.{ℤ}
use mir.Syntax.{w64}
use mir.Val.{SFits}
use borrow.Author.Rules.{rules}
use Rattle.leb128.proofs.Twos.{same}
use Rattle.leb128.specs.Cases.{parsed_of}
use Rattle.std.proofs.lemmas.Result.{err_from_is_err_and}
use Rattle.encoding.specs.Head.{begun}
use Rattle.encoding.proofs.Heads.{passed, head_read}
use Rattle.encoding.proofs.Via.{via}
use Rattle.run_head.proofs.head_by_bytes.Goals as goal

pub returns : goal.returns
returns c =
    let x : ℤ = c.in_ok-c.c in
    let f : SFits w64 x = search rules in
    c.begun_at.ensures ∙ passed _ _ _ _ (same x f) ∙ head_read _ _ _ (via parsed_of c.i64_by_bytes.ensures c.in_ok-c.was)

pub returns-in_err-c : goal.returns-in_err-c
unfolding begun
returns-in_err-c c =
    let p = err_from_is_err_and c.from_residual.result c.from_residual.ensures.1 in
    rw (p.1, p.2) (head_read _ _ c.args.had (via parsed_of c.i64_by_bytes.ensures c.in_err-c.was))
