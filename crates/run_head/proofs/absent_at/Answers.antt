-- `run_head::absent_at` meets its contract: the number was read, and its count judged. Assumes nothing.
use mathlib.Core.Path.{sym, ◌∙◌}
use Rattle.std.proofs.lemmas.Result.{err_from_is_err_and}
use Rattle.leb128.specs.Cases.{parsed_of}
use Rattle.encoding.specs.Head.{absent_head}
use Rattle.encoding.proofs.Via.{via}
use Rattle.run_head.proofs.absent_at.Goals as goal

pub returns-then-may_follow : goal.returns-then-may_follow
unfolding absent_head
returns-then-may_follow c =
    let r = via parsed_of c.leb128_u64.ensures c.in_ok-c.was in
    simp (r, sym c.may_follow.ensures ∙ c.if-may_follow.true)

pub returns : goal.returns
unfolding absent_head
returns c =
    let r = via parsed_of c.leb128_u64.ensures c.in_ok-c.was in
    simp (r, sym c.may_follow.ensures ∙ c.if-may_follow.false)

pub returns-in_err-c : goal.returns-in_err-c
unfolding absent_head
returns-in_err-c c =
    let p = err_from_is_err_and c.from_residual.result c.from_residual.ensures.1 in
    rw (p.1, p.2) (simp (via parsed_of c.leb128_u64.ensures c.in_err-c.was))
