-- `pen_log::replay` meets its contract: one law for each way out. Assumes nothing.
use native.Mathlib.Omega.{arith}
use mathlib.Core.Path.{sym}
use Rattle.std.proofs.lemmas.Result.{err_from_is_err_and}
use Rattle.pen_log.proofs.Replaying.{replay-8, replay-fault, replay-9, replay-entry, few-read}
use Rattle.pen_log.proofs.replay.Goals as goal

pub returns-then-values-present : goal.returns-then-values-present
returns-then-values-present c =
    let a = c.args in
    replay-8 a.column.now a.log.now a.values.now a.present.now a.out.now c.if-values-present.true

pub returns-then-values-old : goal.returns-then-values-old
returns-then-values-old c =
    let a = c.args in
    replay-9 a.column.now a.log.now a.values.now a.present.now a.out.now c.if-values-present.false (sym c.in_ok-old.ensures) (omega arith)

pub judge_log-requires : goal.judge_log-requires
judge_log-requires c = few-read c.args.column.now (sym c.in_ok-old.ensures)

pub replay_good-requires : goal.replay_good-requires
replay_good-requires c =
    record {
      reads = sym c.in_ok-old.ensures;
      fits = omega arith;
      even = c.if-values-present.false;
      final = c.in_ok-judge_log.field-0;
      good = sym c.in_ok-judge_log.ensures;
    }

pub returns-in_err-judge_log : goal.returns-in_err-judge_log
returns-in_err-judge_log c =
    let a = c.args in
    let p = err_from_is_err_and c.from_residual-in_err-judge_log.result c.from_residual-in_err-judge_log.ensures.1 in
    rw (p.1, p.2) (replay-entry a.column.now a.log.now a.values.now a.present.now a.out.now c.if-values-present.false (sym c.in_ok-old.ensures) (omega arith) (sym c.in_err-judge_log.ensures))

pub returns-in_err-old : goal.returns-in_err-old
returns-in_err-old c =
    let a = c.args in
    let p = err_from_is_err_and c.from_residual.result c.from_residual.ensures.1 in
    rw (p.1, p.2) (replay-fault a.column.now a.log.now a.values.now a.present.now a.out.now c.if-values-present.false (sym c.in_err-old.ensures))
