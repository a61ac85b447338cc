-- `pen_log::word` meets its contract: each byte at its place. Assumes nothing.
use Rattle.pen_log.specs.Entry.{word_at}
use native.Mathlib.Omega.{arith}
use Rattle.pen_log.proofs.word.Goals as goal

pub returns : goal.returns
unfolding word_at
returns c = omega (arith, c.wide.ensures.0, c.wide-2.ensures.0, c.wide-3.ensures.0, c.wide-4.ensures.0)
