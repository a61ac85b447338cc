-- `text_decoder::read_literals` meets its contract: the values read so far and those that can still be read are those that can be read of all. Assumes nothing.
use native.Mathlib.Omega.{arith}
use Rattle.encoding.proofs.Via.{via}
use Rattle.encoding.proofs.Reading.{so-far-start, so-far-on, so-far-off, so-far-over}
use Rattle.text.specs.Text.{text_e}
use Rattle.text.proofs.TextLaws.{text-laws}
use Rattle.text_decoder.specs.Cases.{name_of}
use Rattle.text_decoder.proofs.read_literals.Goals as goal

pub loop-read-init : goal.loop-read-init
loop-read-init c = so-far-start text_e _ _ _

pub overflow_add-at : goal.overflow_add-at
overflow_add-at c =
    let r = via (name_of c.args.s.now) c.name_at.ensures c.in-Ok.is in
    omega (arith, text-laws.within _ _ _ _ r)

pub overflow_add-read : goal.overflow_add-read
overflow_add-read c = omega arith

pub loop-read-smaller : goal.loop-read-smaller
loop-read-smaller c = omega arith

pub loop-read-preserved : goal.loop-read-preserved
loop-read-preserved c =
    let r = via (name_of c.args.s.now) c.name_at.ensures c.in-Ok.is in
    so-far-on text_e _ _ _ _ _ c.loop-read.invariant _ _ c.loop-read-test.true r

pub returns-in-Err : goal.returns-in-Err
returns-in-Err c =
    let r = via (name_of c.args.s.now) c.name_at.ensures c.in-Err.is in
    so-far-off text_e _ _ _ _ _ c.loop-read.invariant _ _ c.loop-read-test.true r

pub returns : goal.returns
returns c = so-far-over text_e _ _ _ _ _ c.loop-read.invariant c.loop-read-test.false
