-- `boolean_encoder::counts_len` meets its contract: the run that k is in, and the bytes of the counts before it. Assumes nothing.
use mathlib.Core.Path.{ap}
use mathlib.Core.Bool.{not}
use native.Mathlib.Omega.{arith}
use borrow.Author.Tests.{eq-eqb, ne_eqb}
use lib.ListN.{length}
use Rattle.boolean_encoder.proofs.Back.{one_more}
use Rattle.boolean_encoder.proofs.Counting.{bytes-start, bytes-end, run-start, run-skip, run_on, run-turn, run_end, ten-most}
use Rattle.boolean_encoder.proofs.counts_len.Goals as goal
use Rattle.boolean_encoder.proofs.counts_len.Goals.{else-b-flag, else-values-k-lt32, then-b-flag, then-values-k-lt32}

pub returns-then-values-eq0 : goal.returns-then-values-eq0
returns-then-values-eq0 c =
    let xs = c.args.values.now in
    omega (arith, ap length (bytes-start xs), ap length (bytes-end xs 0 0 (omega arith)))

pub loop-k-init : goal.loop-k-init
loop-k-init c = run-start _ (omega arith)

pub overflow_sub-values : goal.overflow_sub-values
overflow_sub-values c = omega arith

pub overflow_add-stop : goal.overflow_add-stop
overflow_add-stop c = omega arith

pub loop-k-2-init : goal.loop-k-2-init
loop-k-2-init c =
    let e = c.skip_blocks-k.ensures in
    (run-skip _ _ _ _ _ c.loop-k.invariant _ e.0 e.1 e.2, (elim c.if-values-k-lt32.branch [ then-values-k-lt32 w ↦ omega arith | else-values-k-lt32 w ↦ omega arith ]))

pub loop-k-smaller : goal.loop-k-smaller
loop-k-smaller c =
    let e = c.skip_blocks-k.ensures in
    (elim c.if-values-k-lt32.branch [ then-values-k-lt32 w ↦ omega arith | else-values-k-lt32 w ↦ omega arith ])

pub loop-k-preserved : goal.loop-k-preserved
loop-k-preserved c = c.loop-k-2.invariant.0

pub bounds-values-k : goal.bounds-values-k
bounds-values-k c = omega arith

pub overflow_sub-k : goal.overflow_sub-k
overflow_sub-k c = omega arith

pub overflow_add-n : goal.overflow_add-n
overflow_add-n c =
    omega (arith, one_more c.args.values.now, c.loop-k-2.invariant.0.total, c.ended_len-n.ensures.2, c.requires.1)

pub overflow_add-k : goal.overflow_add-k
overflow_add-k c = omega arith

pub loop-k-2-smaller : goal.loop-k-2-smaller
loop-k-2-smaller c = omega arith

pub loop-k-2-preserved : goal.loop-k-2-preserved
loop-k-2-preserved c =
    let inv = c.loop-k-2.invariant in
    let h = c.requires.0 in
    let e = c.ended_len-n.ensures in (
      (elim c.if-b-flag.branch [ then-b-flag w ↦ rw w.i-is (run-turn _ _ _ _ _ inv.0 h _ (e.0 (ap not (ne_eqb _ _ w.if-b-flag.true))) (omega arith) w.if-b-flag.true) | else-b-flag w ↦ rw w.i-is (run_on _ _ _ _ _ inv.0 _ (e.1 (ap not (eq-eqb _ _ w.if-b-flag.false))) (omega arith) w.if-b-flag.false) ]),
      inv.1,
    )

pub overflow_sub-k-2 : goal.overflow_sub-k-2
overflow_sub-k-2 c = omega arith

pub overflow_add-result : goal.overflow_add-result
overflow_add-result c =
    omega (arith, one_more c.args.values.now, c.loop-k.invariant.total, ten-most _ _ c.len_u64.ensures, c.requires.1)

pub returns : goal.returns
returns c =
    run_end _ _ _ _ _ c.loop-k.invariant c.requires.0 _ c.len_u64.ensures c.loop-k-test.false
