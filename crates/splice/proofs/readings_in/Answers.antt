-- `splice::readings_in` meets its contract. Assumes nothing.
use borrow.Author.Tests.{eq-eqb, ne_eqb}
use Rattle.splice.specs.Edit.{readings_in}
use Rattle.splice.proofs.readings_in.Goals as goal

pub returns-then-size-eq0 : goal.returns-then-size-eq0
unfolding readings_in
returns-then-size-eq0 c = rw (eq-eqb _ _ c.if-size-eq0.true)

pub returns : goal.returns
unfolding readings_in
returns c = rw (ne_eqb _ _ c.if-size-eq0.false)
