-- `leb128_writer::len_i64` meets its contract. Assumes nothing.
use mathlib.Core.Path.{ap, ◌∙◌}
use Prim.Native.Nat.{ℕ}
use lib.ListN.{length}
use lib.Signed.{mag}
use mir.Syntax.{w64}
use mir.ValLaws.{to_z-of_z}
use Rattle.leb128.specs.Write.{encoded}
use Rattle.leb128.proofs.Encoded.{s_len}
use Rattle.leb128_writer.proofs.len_i64.Goals as goal

pub returns : goal.returns
returns c =
    let m = c.magnitude.ensures.0 ∙ ap mag (to_z-of_z w64 c.args.x c.ranges.x) in
    s_len c.args.x (λ neg. c.encoded_len.ensures neg ∙ ap (λ (k : ℕ). length (encoded 64 neg k)) m)
