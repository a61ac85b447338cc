-- `runs::value_end` meets its contract: the value of the sort that was asked for was read, or its refusal passed on. Assumes nothing.
use native.Mathlib.Omega.{arith}
use Rattle.std.proofs.lemmas.Result.{err_from_is_err_and}
use Rattle.leb128.specs.Cases.{parsed_of}
use Rattle.encoding.proofs.Via.{via}
use Rattle.text.proofs.TextLaws.{text-laws}
use Rattle.text_decoder.specs.Cases.{name_of}
use Rattle.runs.proofs.Ends.{read_as}
use Rattle.runs.proofs.value_end.Goals as goal

pub overflow_add-result : goal.overflow_add-result
overflow_add-result c =
    let r = via (name_of c.args.s.now) c.name_at.ensures c.in_ok-start-in-Names.was in
    omega (arith, text-laws.within _ _ _ _ r)

pub returns-in_ok-word_end-in-Words : goal.returns-in_ok-word_end-in-Words
returns-in_ok-word_end-in-Words c =
    let r = via parsed_of c.leb128_u64.ensures c.in_ok-word_end-in-Words.was in
    read_as _ _ _ _ c.in-Words.is r

pub returns-in_err-word_end-in-Words : goal.returns-in_err-word_end-in-Words
returns-in_err-word_end-in-Words c =
    let p = err_from_is_err_and c.from_residual.result c.from_residual.ensures.1 in
    let r = via parsed_of c.leb128_u64.ensures c.in_err-word_end-in-Words.was in
    rw (p.1, p.2) (read_as _ _ _ _ c.in-Words.is r)

pub returns-in_ok-difference_end-in-Differences : goal.returns-in_ok-difference_end-in-Differences
returns-in_ok-difference_end-in-Differences c =
    let r = via parsed_of c.leb128_i64.ensures c.in_ok-difference_end-in-Differences.was in
    read_as _ _ _ _ c.in-Differences.is r

pub returns-in_err-difference_end-in-Differences : goal.returns-in_err-difference_end-in-Differences
returns-in_err-difference_end-in-Differences c =
    let p = err_from_is_err_and c.from_residual-in_err-difference_end-in-Differences.result c.from_residual-in_err-difference_end-in-Differences.ensures.1 in
    let r = via parsed_of c.leb128_i64.ensures c.in_err-difference_end-in-Differences.was in
    rw (p.1, p.2) (read_as _ _ _ _ c.in-Differences.is r)

pub returns-in_ok-start-in-Names : goal.returns-in_ok-start-in-Names
returns-in_ok-start-in-Names c =
    let r = via (name_of c.args.s.now) c.name_at.ensures c.in_ok-start-in-Names.was in
    read_as _ _ _ _ c.in-Names.is r

pub returns-in_err-start-in-Names : goal.returns-in_err-start-in-Names
returns-in_err-start-in-Names c =
    let p = err_from_is_err_and c.from_residual-in_err-start-in-Names.result c.from_residual-in_err-start-in-Names.ensures.1 in
    let r = via (name_of c.args.s.now) c.name_at.ensures c.in_err-start-in-Names.was in
    rw (p.1, p.2) (read_as _ _ _ _ c.in-Names.is r)
