-- `rle_decoder::fill` meets its contract: answer and slots owed at each run's start are those owed at the column's. Assumes nothing.
use mathlib.Core.Path.{refl}
use borrow.Author.Rules.{rules}
use Rattle.std.proofs.lemmas.Result.{err_from_is_err_and}
use Rattle.encoding.specs.Column.{spot}
use Rattle.encoding.specs.Slots.{slot_of, flag_of}
use Rattle.encoding.proofs.Via.{via}
use Rattle.encoding.proofs.Walking.{next-eq, readings-eq}
use Rattle.encoding.proofs.Columns.{run_end, trace-rest}
use Rattle.encoding.proofs.Filling.{owed_start, owed-room, owed-on, owed-off, owed-over}
use Rattle.rle_decoder.specs.Cases.{step_of}
use Rattle.rle_decoder.specs.Word.{u64_e}
use Rattle.rle_decoder.proofs.WordLaws.{u64-laws}
use Rattle.rle_decoder.proofs.Words.{words}
use Rattle.rle_decoder.proofs.fill.Goals as goal

pub loop-at-init : goal.loop-at-init
loop-at-init c = owed_start (words _) (slot_of 0) flag_of (spot 0 0) refl _ _ (rw (trace-rest u64_e u64-laws) at c.requires)

pub fill_run-requires : goal.fill_run-requires
fill_run-requires c =
    record { at_in_bounds = search rules; room = owed-room (words _) (slot_of 0) flag_of (spot 0 0) refl _ _ _ _ _ c.loop-at.invariant; table_value = c.short_numbers-table.ensures }

pub loop-at-smaller : goal.loop-at-smaller
loop-at-smaller c =
    (words _).falls _ _ (via step_of c.fill_run.ensures.result_value c.in_ok-next.was)

pub loop-at-preserved : goal.loop-at-preserved
loop-at-preserved c =
    let o = c.loop-at.invariant in
    let w = c.fill_run.ensures in
    owed-on (words _) (slot_of 0) flag_of (spot 0 0) refl _ _ _ _ _ o _ _ _ w.wrote (via step_of w.result_value c.in_ok-next.was)

pub returns-in_err-next : goal.returns-in_err-next
returns-in_err-next c =
    let p = err_from_is_err_and c.from_residual.result c.from_residual.ensures.1 in
    let o = c.loop-at.invariant in
    let w = c.fill_run.ensures in
    rw (trace-rest u64_e u64-laws) (let both : _ × _ = owed-off (words _) (slot_of 0) flag_of (spot 0 0) refl _ _ _ _ _ o _ _ _ _ w.wrote (via step_of w.result_value c.in_err-next.was) in record { result_value = rw (p.1, p.2) both.0; wrote = both.1 })

pub shape_of-values : goal.shape_of-values
shape_of-values c = c.loop-at.invariant.same-v

pub shape_of-present : goal.shape_of-present
shape_of-present c = c.loop-at.invariant.same-p

pub returns : goal.returns
returns c =
    let o = c.loop-at.invariant in
    let e = run_end u64_e _ _ _ c.loop-at-test.false in
    rw (trace-rest u64_e u64-laws) (let both : _ × _ = owed-over (words _) (slot_of 0) flag_of (spot 0 0) refl _ _ _ _ _ o (next-eq e) (readings-eq e) in record { result_value = both.0; wrote = both.1 })
