-- `rle_decoder::fill_repeat` meets its contract: the value was read and stands in each slot, or its refusal passed on. Assumes nothing.
use mathlib.Core.Path.{refl}
use Rattle.std.proofs.lemmas.Result.{err_from_is_err_and}
use Rattle.leb128.specs.Cases.{parsed_of}
use Rattle.encoding.specs.Column.{present}
use Rattle.encoding.specs.Slots.{slot_of, flag_of}
use Rattle.encoding.proofs.Via.{via}
use Rattle.encoding.proofs.Walking.{readings-eq}
use Rattle.encoding.proofs.Columns.{repeated-got, repeated-bad}
use Rattle.encoding.proofs.Filling.{room-eq, room-same, wrote-same, wrote_none}
use Rattle.encoding.proofs.Running.{wrote-run}
use Rattle.rle_decoder.proofs.fill_repeat.Goals as goal

pub fill_same-requires : goal.fill_same-requires
fill_same-requires c =
    let x = present c.in_ok-v.v c.args.q in
    let e = repeated-got _ _ _ _ _ _ (via parsed_of c.leb128_u64.ensures c.in_ok-v.was) in
    (room-same _ _ x (room-eq (readings-eq e) c.requires.room), c.requires.room.even)

pub returns : goal.returns
returns c =
    let x = present c.in_ok-v.v c.args.q in
    let e = repeated-got _ _ _ _ _ _ (via parsed_of c.leb128_u64.ensures c.in_ok-v.was) in
    let w = c.fill_same.ensures in
    let both : _ × _ = wrote-run e refl (wrote-same (slot_of 0) flag_of x c.args.c _ _ _ _ _ w.0 w.1) in record { result_value = both.0; wrote = both.1 }

pub returns-in_err-v : goal.returns-in_err-v
returns-in_err-v c =
    let p = err_from_is_err_and c.from_residual.result c.from_residual.ensures.1 in
    let e = repeated-bad _ _ _ _ _ _ (via parsed_of c.leb128_u64.ensures c.in_err-v.was) in
    let both : _ × _ = wrote-run e refl (wrote_none (slot_of 0) flag_of _ _ _) in record { result_value = rw (p.1, p.2) both.0; wrote = both.1 }
