-- `delta_decoder::difference` meets its contract: the table that is lent is the fixed one. Assumes nothing.
use mathlib.Core.Path.{◌∙◌}
use Rattle.leb128.proofs.Lookup.{by-fixed}
use Rattle.delta_decoder.proofs.difference.Goals as goal

pub returns : goal.returns
returns c = c.i64_by.ensures ∙ by-fixed c.requires _ _
