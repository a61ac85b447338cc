-- `leb128_writer::write_i64` meets its contract: the front is position 0. Assumes nothing.
use mathlib.Core.Path.{◌∙◌}
use mir.Syntax.{w64}
use mir.ValLaws.{to_z-of_z}
use Rattle.leb128.proofs.Encoded.{front, front_out}
use Rattle.leb128_writer.proofs.write_i64.Goals as goal

pub returns : goal.returns
returns c =
    let e = rw (to_z-of_z w64 c.args.x c.ranges.x) at c.put_i64.ensures in
    (record { result_value = e.result_value ∙ front _ _; out_after = e.out_after ∙ front_out _ _ })
