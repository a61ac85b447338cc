-- `run_head::count_of` meets its contract: the complement of a negative number is one less than its distance from 0. Assumes nothing.
use mathlib.Core.Path.{ap}
use native.Mathlib.Omega.{arith}
use lib.IntN.{nat_abs}
use Rattle.leb128.proofs.Twos.{below, above, is-neg, mag-fits, mag-half}
use Rattle.run_head.proofs.count_of.Goals as goal

pub overflow_cast-result : goal.overflow_cast-result
overflow_cast-result c = rw (below c.args.c c.ranges.c c.if-c-lt0.true) (tt, mag-fits c.args.c c.ranges.c)

pub overflow_add-result : goal.overflow_add-result
overflow_add-result c = rw (below c.args.c c.ranges.c c.if-c-lt0.true) (omega (arith, mag-half c.args.c c.ranges.c))

pub overflow_cast-result-else-c-lt0 : goal.overflow_cast-result-else-c-lt0
overflow_cast-result-else-c-lt0 c = rw (above c.args.c c.ranges.c c.if-c-lt0.false) (tt, mag-fits c.args.c c.ranges.c)

pub returns-then-c-lt0 : goal.returns-then-c-lt0
returns-then-c-lt0 c =
    rw (below c.args.c c.ranges.c c.if-c-lt0.true) (omega (arith, ap nat_abs (is-neg c.args.c c.ranges.c c.if-c-lt0.true)))
