-- `text_encoder::walk::skipped` meets its contract: so many are left to pass behind each piece. Assumes nothing.
use native.Mathlib.Omega.{arith}
use Rattle.text_encoder.proofs.Drawn.{passing-start, passing-on, passing-less, passing-end}
use Rattle.text_encoder.proofs.walk.skipped.Goals as goal

pub loop-left-init : goal.loop-left-init
loop-left-init c = passing-start _ _ _ c.requires.sound c.requires.n_in_bounds

pub drawn-d-requires : goal.drawn-d-requires
drawn-d-requires c = record { sound = c.loop-left.invariant.sound; most_nonzero = c.loop-left-test.true }

pub overflow_sub-left : goal.overflow_sub-left
overflow_sub-left c = omega (arith, c.drawn-d.ensures.few)

pub loop-left-smaller : goal.loop-left-smaller
loop-left-smaller c =
    passing-less _ _ _ _ _ _ c.loop-left-test.true c.loop-left.invariant c.drawn-d.ensures

pub loop-left-preserved : goal.loop-left-preserved
loop-left-preserved c = passing-on _ _ _ _ _ _ c.loop-left.invariant c.drawn-d.ensures

pub returns : goal.returns
returns c = record { sound_2 = c.loop-left.invariant.sound; result_value = passing-end _ _ _ _ _ c.loop-left-test.false c.loop-left.invariant }
