-- `rle_range::replace_u64` meets its contract: both slices spliced, the new values put as slots hold them. Assumes nothing.
use native.Mathlib.Omega.{arith}
use mathlib.Core.List.{map}
use Rattle.encoding.specs.Given.{slot_list}
use Rattle.splice.specs.Contract.{slot_in}
use Rattle.splice.proofs.Replacing.{held-length, splice-fits, splice-put}
use Rattle.rle_range.proofs.replace_u64.Goals as goal

pub put_new_u64-requires : goal.put_new_u64-requires
put_new_u64-requires c =
    let f = c.requires in
    (omega (arith, f.new_fits, c.splice.auto), f.paired)

pub returns : goal.returns
returns c =
    let a = c.args in
    let f = c.requires in
    let n = a.new.now in
    let v = splice-fits 0 a.values.now a.old a.start a.end n f.ordered f.within f.old_fits f.new_fits c.splice.ensures.s_after in
    record {
      values =
          splice-put 0 a.values.now a.old a.start a.end n f.ordered f.within f.old_fits f.new_fits
          (map (slot_in 0) (slot_list n a.new_present.now)) (held-length 0 n a.new_present.now f.paired) v c.put_new_u64.ensures;
      presence =
          splice-fits 0 a.present.now a.old a.start a.end a.new_present.now f.ordered f.within (omega (arith, f.old_fits, f.even))
          (omega (arith, f.new_fits, f.even, f.paired)) c.splice-2.ensures.s_after;
    }
