-- `given_list::judge_list` meets its contract: each way out is a case of its definition. Assumes nothing.
use borrow.Author.Tests.{le-leb, lt-leb, eq-eqb, ne_eqb}
use Rattle.encoding.specs.Cases.{maybe_of}
use Rattle.encoding.specs.Given.{flags_judged, list_judged}
use Rattle.encoding.proofs.Via.{via}
use Rattle.given_list.proofs.judge_list.Goals as goal

pub returns-then-len-present : goal.returns-then-len-present
unfolding list_judged
returns-then-len-present c = simp (ne_eqb _ _ c.if-len-present.true)

pub returns-then-len-le-LIMIT : goal.returns-then-len-le-LIMIT
unfolding flags_judged list_judged
returns-then-len-le-LIMIT c =
    let f = via maybe_of c.check_flags.ensures c.in_default.is in
    simp (eq-eqb _ _ c.if-len-present.false, f, le-leb _ _ c.if-len-le-LIMIT.true)

pub returns-else-len-le-LIMIT : goal.returns-else-len-le-LIMIT
unfolding flags_judged list_judged
returns-else-len-le-LIMIT c =
    let f = via maybe_of c.check_flags.ensures c.in_default.is in
    simp (eq-eqb _ _ c.if-len-present.false, f, lt-leb _ _ c.if-len-le-LIMIT.false)

pub returns-in-Some : goal.returns-in-Some
unfolding flags_judged list_judged
returns-in-Some c =
    simp (eq-eqb _ _ c.if-len-present.false, via maybe_of c.check_flags.ensures c.in-Some.is)
