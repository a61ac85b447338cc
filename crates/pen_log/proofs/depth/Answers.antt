-- `pen_log::depth` meets its contract: the low half and the high one. Assumes nothing.
use borrow.Author.Rules.{rules}
use mathlib.Core.Path.{◌∙◌}
use Rattle.leb128.proofs.Twos.{same}
use Rattle.pen_log.specs.Entry.{depth_at}
use mir.Syntax.{w64}
use mir.Val.{SFits}
use Rattle.pen_log.specs.Entry.{signed}
use Rattle.pen_log.proofs.depth.Goals as goal

pub returns : goal.returns
unfolding depth_at
returns c =
    let g : SFits w64 c.signed.result = search rules in
    same c.signed.result g ∙ c.signed.ensures ∙ rw (c.word-low.ensures, c.word-high.ensures)
