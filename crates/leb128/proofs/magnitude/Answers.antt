-- `leb128::magnitude` meets its contract. Assumes nothing.
use mathlib.Core.Path.{refl}
use Rattle.leb128.proofs.Twos.{below, above, mag-fits, mag-half}
use Rattle.leb128.proofs.magnitude.Goals as goal

pub overflow_cast-result : goal.overflow_cast-result
overflow_cast-result c = rw (below c.args.x c.ranges.x c.if-x-lt0.true) (tt, mag-fits c.args.x c.ranges.x)

pub overflow_cast-result-else-x-lt0 : goal.overflow_cast-result-else-x-lt0
overflow_cast-result-else-x-lt0 c = rw (above c.args.x c.ranges.x c.if-x-lt0.false) (tt, mag-fits c.args.x c.ranges.x)

pub returns-then-x-lt0 : goal.returns-then-x-lt0
returns-then-x-lt0 c = rw (below c.args.x c.ranges.x c.if-x-lt0.true) (refl, mag-half c.args.x c.ranges.x)

pub returns-else-x-lt0 : goal.returns-else-x-lt0
returns-else-x-lt0 c = rw (above c.args.x c.ranges.x c.if-x-lt0.false) (refl, mag-half c.args.x c.ranges.x)
