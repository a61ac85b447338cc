-- `splice::count_as` meets its contract: the count of each kind. Assumes nothing.
use mathlib.Core.Path.{◌∙◌}
use Rattle.splice.proofs.Counting.{count-integer, count-delta, count-boolean, count-text}
use Rattle.splice.proofs.count_as.Goals as goal

pub returns-in-Integer : goal.returns-in-Integer
returns-in-Integer c = c.count.ensures ∙ count-integer c.args.column.now c.in-Integer.is

pub returns-in-Delta : goal.returns-in-Delta
returns-in-Delta c = c.count-in-Delta.ensures ∙ count-delta c.args.column.now c.in-Delta.is

pub returns-in-Boolean : goal.returns-in-Boolean
returns-in-Boolean c = c.count-in-Boolean.ensures ∙ count-boolean c.args.column.now c.in-Boolean.is

pub returns-in-Text : goal.returns-in-Text
returns-in-Text c = c.count-in-Text.ensures ∙ count-text c.args.column.now c.in-Text.is
