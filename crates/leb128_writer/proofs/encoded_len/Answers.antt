-- `leb128_writer::encoded_len` meets its contract: what was counted and what is left make the whole length. Assumes nothing.
use mathlib.Core.Path.{ap}
use mathlib.Core.Bool.{false}
use native.Mathlib.Omega.{arith}
use lib.ListN.{length}
use Rattle.leb128.proofs.Encoded.{encoded-last, encoded-more, encoded-short}
use Rattle.leb128_writer.proofs.encoded_len.Goals as goal

pub loop-w-init : goal.loop-w-init
loop-w-init c = (omega arith, λ neg. omega arith)

pub overflow_add-n : goal.overflow_add-n
overflow_add-n c = omega (arith, c.loop-w.invariant.1 false, encoded-short c.args.limit false c.args.v)

pub loop-w-smaller : goal.loop-w-smaller
loop-w-smaller c = omega arith

pub loop-w-preserved : goal.loop-w-preserved
loop-w-preserved c =
    let l = c.loop-w in (
      omega arith,
      λ neg. omega (
        arith,
        l.invariant.1 neg,
        ap length (encoded-more c.args.limit neg l.w c.requires c.loop-w-test.true
            l.invariant.0),
      ),
    )

pub returns : goal.returns
returns c neg =
    let l = c.loop-w in
    omega (arith, l.invariant.1 neg, ap length (encoded-last c.args.limit neg l.w c.loop-w-test.false))
