-- `leb128_writer::write_u64` meets its contract: the front is position 0. Assumes nothing.
use mathlib.Core.Path.{◌∙◌}
use Rattle.leb128.proofs.Encoded.{front, front_out}
use Rattle.leb128_writer.proofs.write_u64.Goals as goal

pub returns : goal.returns
returns c = let e = c.put_u64.ensures in (record { result_value = e.result_value ∙ front _ _; out_after = e.out_after ∙ front_out _ _ })
