-- `pieces::rle::standing_at` meets its contract: by the sort of the run. Assumes nothing.
use mathlib.Core.Path.{sym}
use native.Mathlib.Omega.{arith}
use Rattle.pieces.specs.Cases.{rle_read}
use Rattle.pieces.proofs.RlePieces.{standing-alone, standing-again}
use Rattle.pieces.proofs.rle.standing_at.Goals as goal

pub returns-then-c-ge-LITERAL : goal.returns-then-c-ge-LITERAL
returns-then-c-ge-LITERAL c = let a = c.args in sym (standing-alone a.c (rle_read a.reading) c.if-c-ge-LITERAL.true)

pub returns : goal.returns
returns c = let a = c.args in sym (standing-again a.c (rle_read a.reading) _ c.if-c-ge-LITERAL.false (omega arith))
