-- `boolean_range::fill_u8` meets its contract: the column at the front of the part that is lent. Assumes nothing.
use native.Mathlib.Omega.{arith}
use lib.ListN.{length, drop, length-drop}
use lib.Seq.{length-take-le}
use Prim.Native.Nat.{◌-◌}
use Rattle.splice.specs.Kinds.{boolean}
use Rattle.splice.proofs.Writing.{good-judged, encoded-fits, lent_back}
use Rattle.boolean_range.proofs.fill_u8.Goals as goal

pub slice_bounds-encode-count : goal.slice_bounds-encode-count
slice_bounds-encode-count c = omega (arith, c.requires.room)

pub slice_bounds-encode-start : goal.slice_bounds-encode-start
slice_bounds-encode-start c = omega (arith, c.requires.room)

pub returns : goal.returns
returns c =
    let a = c.args in
    let o = a.out.now in
    let p = c.requires in
    let l = length-take-le (length o - a.at) (drop a.at o) (omega (arith, length-drop a.at o)) in
    lent_back a.at o _ (boolean.writes a.values.now) (omega (arith, p.room))
    (encoded-fits c.encode.ensures (good-judged p.good) (omega (arith, p.room, l, length-drop a.at o)))
