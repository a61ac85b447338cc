-- `text_encoder::walk::same_drawn` meets its contract: all that is left of the run, or as many as are asked for. Assumes nothing.
use native.Mathlib.Omega.{arith}
use Rattle.text_encoder.proofs.Drawn.{drawn-same}
use Rattle.text_encoder.proofs.walk.same_drawn.Goals as goal

pub returns-then-c-most : goal.returns-then-c-most
returns-then-c-most c =
    let p = c.requires in
    drawn-same _ _ _ _ _ _ p.sound p.left_nonzero.2 p.left_nonzero.0 (omega arith) (omega arith)

pub returns : goal.returns
returns c =
    let p = c.requires in
    drawn-same _ _ _ _ _ _ p.sound p.left_nonzero.2 p.left_nonzero.1 (omega arith) (omega arith)
