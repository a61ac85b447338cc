-- `text_encoder::walk::ready` meets its contract: the same readings are to come behind each head that is passed. Assumes nothing.
use native.Mathlib.Omega.{arith}
use Rattle.text_encoder.proofs.Entered.{onward-start, onward-on}
use Rattle.text_encoder.proofs.walk.ready.Goals as goal

pub loop-c-init : goal.loop-c-init
loop-c-init c = onward-start _ _ c.requires

pub returns-then-column-c : goal.returns-then-column-c
returns-then-column-c c = record { onward = c.loop-c.invariant; column_len_bound = λ z. c.if-column-c.true }

pub entered-c-requires : goal.entered-c-requires
entered-c-requires c = record { sound = c.loop-c.invariant.sound; left_value = (c.loop-c-test.true, omega arith) }

pub loop-c-smaller : goal.loop-c-smaller
loop-c-smaller c = omega (arith, c.entered-c.ensures.onward.sound.inside, c.entered-c.ensures.at_lt_at)

pub loop-c-preserved : goal.loop-c-preserved
loop-c-preserved c = onward-on _ _ _ _ c.loop-c.invariant c.entered-c.ensures.onward

pub returns : goal.returns
returns c = record { onward = c.loop-c.invariant; column_len_bound = λ z. absurd (c.loop-c-test.false z) }
