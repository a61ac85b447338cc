-- `pen_log::replay_good` meets its contract: decoded, followed, written. Assumes nothing.
use native.Mathlib.Omega.{arith}
use Rattle.pen_log.proofs.Replaying.{follow-ready, finish-good, replay-done}
use Rattle.pen_log.proofs.replay_good.Goals as goal

pub follow-len-requires : goal.follow-len-requires
follow-len-requires c =
    let a = c.args in
    follow-ready a.column.now a.log.now a.values.now a.present.now c.requires c.decode.ensures c.decode.auto.values c.decode.auto.present

pub finish-requires : goal.finish-requires
finish-requires c =
    let a = c.args in
    let f = c.follow-len.ensures in record { len_in_bounds = (omega (arith, f.fits, c.decode.auto, c.follow-len.auto), omega (arith, f.fits, c.requires.even, c.decode.auto, c.follow-len.auto)); good = finish-good a.column.now a.log.now a.values.now a.present.now c.requires c.decode.ensures c.decode.auto.values c.decode.auto.present f }

pub returns : goal.returns
returns c =
    let a = c.args in
    replay-done a.column.now a.log.now a.values.now a.present.now c.requires c.decode.ensures c.decode.auto.values c.decode.auto.present
    c.follow-len.ensures c.finish.ensures
