-- `text_decoder::fill` meets its contract: answer and slots owed at each run's start are those owed at the column's. Assumes nothing.
use mathlib.Core.Path.{refl}
use Rattle.std.proofs.lemmas.Result.{err_from_is_err_and}
use Rattle.encoding.specs.Column.{spot}
use Rattle.encoding.specs.Slots.{flag_of}
use Rattle.encoding.proofs.Via.{via}
use Rattle.encoding.proofs.Walking.{next-eq, readings-eq}
use Rattle.encoding.proofs.Columns.{run_end, trace-rest}
use Rattle.encoding.proofs.Filling.{owed_start, owed-room, owed-on, owed-off, owed-over}
use Rattle.text.specs.Text.{text_e}
use Rattle.text.specs.Name.{start_of, length_of}
use Rattle.text.proofs.TextLaws.{text-laws}
use Rattle.text.proofs.Texts.{names}
use Rattle.text_decoder.specs.Cases.{step_of}
use Rattle.text_decoder.proofs.fill.Goals as goal

pub loop-at-init : goal.loop-at-init
loop-at-init c = (
  owed_start (names _) start_of flag_of (spot 0 0) refl _ _ (rw (trace-rest text_e text-laws) at c.requires.room),
  owed_start (names _) length_of flag_of (spot 0 0) refl _ _ (rw (trace-rest text_e text-laws) at c.requires.room_2),
)

pub fill_run-requires : goal.fill_run-requires
fill_run-requires c =
    let o = c.loop-at.invariant in
    let u = owed-room (names _) start_of flag_of (spot 0 0) refl _ _ _ _ _ o.0 in
    let v = owed-room (names _) length_of flag_of (spot 0 0) refl _ _ _ _ _ o.1 in
    record { at_in_bounds = (c.loop-at-test.true, o.0.capped); room = u; room_2 = v; table_value = c.short_numbers-table.ensures }

pub loop-at-smaller : goal.loop-at-smaller
loop-at-smaller c =
    (names _).falls _ _ (via step_of c.fill_run.ensures.result_value c.in_ok-next.was)

pub loop-at-preserved : goal.loop-at-preserved
loop-at-preserved c =
    let o = c.loop-at.invariant in
    let w = c.fill_run.ensures in
    let e = via step_of w.result_value c.in_ok-next.was in (
      owed-on (names _) start_of flag_of (spot 0 0) refl _ _ _ _ _ o.0 _ _ _ w.wrote e,
      owed-on (names _) length_of flag_of (spot 0 0) refl _ _ _ _ _ o.1 _ _ _ w.wrote_2 e,
    )

pub returns-in_err-next : goal.returns-in_err-next
returns-in_err-next c =
    let p = err_from_is_err_and c.from_residual.result c.from_residual.ensures.1 in
    let o = c.loop-at.invariant in
    let w = c.fill_run.ensures in
    let e = via step_of w.result_value c.in_err-next.was in
    let u = owed-off (names _) start_of flag_of (spot 0 0) refl _ _ _ _ _ o.0 _ _ _ _ w.wrote e in
    let v = owed-off (names _) length_of flag_of (spot 0 0) refl _ _ _ _ _ o.1 _ _ _ _ w.wrote_2 e in
    rw (p.1, p.2) (rw (trace-rest text_e text-laws) (record { result_value = u.0; wrote = u.1; wrote_2 = v.1 }))

pub shape_of-starts : goal.shape_of-starts
shape_of-starts c = c.loop-at.invariant.0.same-v

pub shape_of-lens : goal.shape_of-lens
shape_of-lens c = c.loop-at.invariant.1.same-v

pub shape_of-present : goal.shape_of-present
shape_of-present c = c.loop-at.invariant.0.same-p

pub returns : goal.returns
returns c =
    let o = c.loop-at.invariant in
    let e = run_end text_e _ _ _ c.loop-at-test.false in
    let u = owed-over (names _) start_of flag_of (spot 0 0) refl _ _ _ _ _ o.0 (next-eq e) (readings-eq e) in
    let v = owed-over (names _) length_of flag_of (spot 0 0) refl _ _ _ _ _ o.1 (next-eq e) (readings-eq e) in
    rw (trace-rest text_e text-laws) (record { result_value = u.0; wrote = u.1; wrote_2 = v.1 })
