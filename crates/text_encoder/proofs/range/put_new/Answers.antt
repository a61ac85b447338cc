-- `text_encoder::range::put_new` meets its contract: the column at the front of the part that is lent. Assumes nothing.
use Prim.Native.Nat.{◌-◌}
use mathlib.Core.Path.{◌∙◌}
use native.Mathlib.Omega.{arith}
use lib.ListN.{length, take, drop, length-drop}
use lib.Seq.{length-take-le}
use Rattle.encoding.specs.Writer.{column_bytes}
use Rattle.text.specs.Text.{text_e}
use Rattle.splice.proofs.Writing.{lent_back}
use Rattle.text_encoder.specs.Edits.{new_names}
use Rattle.text_encoder.proofs.Refilling.{front-put}
use Rattle.text_encoder.proofs.range.put_new.Goals as goal

pub returns : goal.returns
returns c =
    let a = c.args in
    let o = a.out.now in
    let w = column_bytes text_e (new_names (take (a.till - a.at) (drop a.at a.block.now)) a.bytes.now a.new_starts.now a.new_lens.now
    a.new_present.now a.start a.end) in
    let l = length-take-le (length o - a.to) (drop a.to o) (omega (arith, length-drop a.to o)) in
    lent_back a.to o _ w (omega (arith, c.requires.end_in_bounds))
    (c.put_spliced.ensures ∙ front-put (take (length o - a.to) (drop a.to o)) w (omega (arith, c.requires.end_in_bounds, l, length-drop a.to o)))
