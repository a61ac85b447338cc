-- `rle_decoder::survey` meets its contract: the survey owed at each run's start is the one owed at the column's. Assumes nothing.
use mathlib.Core.Path.{refl, sym, ◌∙◌}
use native.Mathlib.Omega.{arith}
use borrow.Author.Rules.{rules}
use Rattle.encoding.proofs.Via.{via}
use Rattle.encoding.proofs.Walking.{next-eq, readings-eq}
use Rattle.encoding.proofs.Surveying.{surveys-start, surveys-on, surveys-off, surveys-over}
use Rattle.encoding.proofs.Columns.{run_end, trace-rest}
use Rattle.rle_decoder.specs.Cases.{step_of}
use Rattle.rle_decoder.specs.Word.{u64_e}
use Rattle.rle_decoder.proofs.WordLaws.{u64-laws}
use Rattle.rle_decoder.proofs.Words.{words}
use Rattle.rle_decoder.proofs.survey.Goals as goal

pub loop-at-init : goal.loop-at-init
loop-at-init c = (omega arith, refl)

pub scan_run-requires : goal.scan_run-requires
scan_run-requires c = record { at_in_bounds = search rules; table_value = c.short_numbers-table.ensures }

pub loop-at-smaller : goal.loop-at-smaller
loop-at-smaller c = (words _).falls _ _ (via step_of c.scan_run.ensures c.in-Ok.is)

pub loop-at-preserved : goal.loop-at-preserved
loop-at-preserved c =
    let e = via step_of c.scan_run.ensures c.in-Ok.is in
    ((words _).capped _ _ e, c.loop-at.invariant.1 ∙ surveys-on (words _) _ _ e)

pub read_run-read-requires : goal.read_run-read-requires
read_run-read-requires c = record { at_in_bounds = search rules; table_value = c.short_numbers-table.ensures }

pub overflow_add-result : goal.overflow_add-result
overflow_add-result c = omega (arith, c.read_run-read.ensures.result_bound)

pub returns-in-Err : goal.returns-in-Err
returns-in-Err c =
    let e = via step_of c.scan_run.ensures c.in-Err.is in
    rw (trace-rest u64_e u64-laws)
    (sym (surveys-start (words _) _ refl ∙ c.loop-at.invariant.1 ∙ surveys-off (words _) _ _ _ _ e c.read_run-read.ensures.value))

pub returns : goal.returns
returns c =
    let e = run_end u64_e _ _ _ c.loop-at-test.false in
    rw (trace-rest u64_e u64-laws)
    (sym (surveys-start (words _) _ refl ∙ c.loop-at.invariant.1 ∙ surveys-over (words _) _ (next-eq e) (readings-eq e)))
