-- `rle_decoder::read_literals` meets its contract: the values read so far and those that can still be read are those that can be read of all. Assumes nothing.
use native.Mathlib.Omega.{arith}
use Rattle.leb128.specs.Cases.{parsed_of}
use Rattle.encoding.proofs.Via.{via}
use Rattle.encoding.proofs.Reading.{so-far-start, so-far-on, so-far-off, so-far-over}
use Rattle.rle_decoder.specs.Word.{u64_e}
use Rattle.rle_decoder.proofs.read_literals.Goals as goal

pub loop-read-init : goal.loop-read-init
loop-read-init c = so-far-start u64_e _ _ _

pub overflow_add-read : goal.overflow_add-read
overflow_add-read c = omega arith

pub loop-read-smaller : goal.loop-read-smaller
loop-read-smaller c = omega arith

pub loop-read-preserved : goal.loop-read-preserved
loop-read-preserved c =
    let r = via parsed_of c.leb128_u64.ensures c.in-Ok.is in
    so-far-on u64_e _ _ _ _ _ c.loop-read.invariant _ _ c.loop-read-test.true r

pub returns-in-Err : goal.returns-in-Err
returns-in-Err c =
    let r = via parsed_of c.leb128_u64.ensures c.in-Err.is in
    so-far-off u64_e _ _ _ _ _ c.loop-read.invariant _ _ c.loop-read-test.true r

pub returns : goal.returns
returns c = so-far-over u64_e _ _ _ _ _ c.loop-read.invariant c.loop-read-test.false
