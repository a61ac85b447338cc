-- `picture::stretches::with_reading` meets its contract: by the presence byte. Assumes nothing.
use mathlib.Core.Path.{◌∙◌}
use Rattle.picture.proofs.Ranges.{reading-absent, reading-present}
use borrow.Author.Rules.{rules}
use Rattle.picture.proofs.stretches.with_reading.Goals as goal

pub returns-then-here-eq0 : goal.returns-then-here-eq0
returns-then-here-eq0 c = let a = c.args in reading-absent a.s a.value a.here (search rules) _ c.one_more.ensures

pub returns : goal.returns
returns c = let a = c.args in c.with_value.ensures ∙ reading-present a.s a.value a.here (search rules)
