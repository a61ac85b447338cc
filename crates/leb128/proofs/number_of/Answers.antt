-- `leb128::number_of` meets its contract: eight bits fit into 64. Assumes nothing.
use mir.Syntax.{w8, w64}
use mir.ValLaws.{to_z-of_z}
use Rattle.leb128.proofs.Twos.{wider}
use Rattle.leb128.proofs.number_of.Goals as goal

pub overflow_cast-result : goal.overflow_cast-result
overflow_cast-result c = rw (to_z-of_z w8 c.args.x c.ranges.x) (wider c.args.x c.ranges.x)

pub returns : goal.returns
returns c = rw (to_z-of_z w8 c.args.x c.ranges.x, to_z-of_z w64 c.args.x (wider c.args.x c.ranges.x))
