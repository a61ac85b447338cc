-- `pen_log::finish` meets its contract: the list is the slots' front. Assumes nothing.
use mathlib.Core.Path.{sym, ap}
use lib.ListN.{take}
use Rattle.std.proofs.lemmas.Result.{err_from_is_err_and}
use lib.Seq.{length-take-le}
use Rattle.encoding.specs.Cases.{answer_of}
use Rattle.pen_log.proofs.Replaying.{finishes}
use Rattle.pen_log.proofs.finish.Goals as goal

pub slice_bounds-encode-end : goal.slice_bounds-encode-end
slice_bounds-encode-end c = sym (length-take-le c.args.len c.args.values.now c.requires.len_in_bounds.0)

pub slice_bounds-encode-end-2 : goal.slice_bounds-encode-end-2
slice_bounds-encode-end-2 c = sym (length-take-le c.args.len c.args.present.now c.requires.len_in_bounds.1)

pub returns : goal.returns
returns c =
    let a = c.args in
    finishes (take a.len a.values.now) (take a.len a.present.now) c.requires.good c.encode.ensures a.len
    (length-take-le a.len a.values.now c.requires.len_in_bounds.0) (ap answer_of c.in_ok-size.was)

pub returns-in_err-size : goal.returns-in_err-size
returns-in_err-size c =
    let a = c.args in
    let p = err_from_is_err_and c.from_residual.result c.from_residual.ensures.1 in
    rw (p.1, p.2) (finishes (take a.len a.values.now) (take a.len a.present.now) c.requires.good c.encode.ensures a.len
    (length-take-le a.len a.values.now c.requires.len_in_bounds.0) (ap answer_of c.in_err-size.was))
