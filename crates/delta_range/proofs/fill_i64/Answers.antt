-- `delta_range::fill_i64` meets its contract: the column at the front of the part that is lent. Assumes nothing.
use native.Mathlib.Omega.{arith}
use lib.ListN.{length, drop, length-drop}
use lib.Seq.{length-take-le}
use mathlib.Core.Path.{◌∙◌, ap}
use Prim.Native.Nat.{◌-◌}
use Rattle.splice.specs.Kinds.{delta}
use Rattle.encoding.specs.Given.{slot_list}
use Rattle.splice.proofs.Writing.{judged_as, delta-judged, encoded-fits, lent_back}
use Rattle.delta_range.proofs.fill_i64.Goals as goal

pub slice_bounds-encode-count : goal.slice_bounds-encode-count
slice_bounds-encode-count c = omega (arith, c.requires.room)

pub slice_bounds-encode-start : goal.slice_bounds-encode-start
slice_bounds-encode-start c = omega (arith, c.requires.room)

pub returns : goal.returns
returns c =
    let a = c.args in
    let o = a.out.now in
    let p = c.requires in
    let l = length-take-le (length o - a.at) (drop a.at o) (omega (arith, length-drop a.at o)) in
    lent_back a.at o _ (delta.writes (slot_list a.values.now a.present.now)) (omega (arith, p.room))
    (encoded-fits c.encode.ensures (delta-judged a.values.now a.present.now p.good ∙ ap (judged_as (length a.values.now)) p.narrow) (omega (arith, p.room, l, length-drop a.at o)))
