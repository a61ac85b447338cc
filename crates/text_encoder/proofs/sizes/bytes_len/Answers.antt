-- `text_encoder::sizes::bytes_len` meets its contract: the size owed is n and what the stretches from the walk on take. Assumes nothing.
use mathlib.Core.Path.{sym, ap}
use native.Mathlib.Omega.{arith}
use lib.ListN.{length}
use Rattle.encoding.proofs.Via.{via}
use Rattle.text.specs.Text.{text_e}
use Rattle.text.specs.Given.{name_list}
use Rattle.encoding.specs.Cases.{maybe_of}
use Rattle.encoding.proofs.Fits.{is-fit, sum_is, sum-beyond, owed_start, owed-on, owed-beyond, owed-end}
use Rattle.text_encoder.proofs.Passing.{walk-over}
use Rattle.encoding.proofs.Written.{cut-length, cut-shorter, cut-over}
use Rattle.text_encoder.proofs.sizes.bytes_len.Goals as goal

pub loop-walk-init : goal.loop-walk-init
loop-walk-init c = let p = c.requires in (p.«at», p.s_len_bound, omega arith, owed_start _)

pub stretch_at-found-requires : goal.stretch_at-found-requires
stretch_at-found-requires c =
    let p = c.requires in
    let h = c.loop-walk.invariant in
    record { pairs = p.pairs; «at» = h.0; s_len_bound = h.1; times_nonzero = c.loop-walk-test.true }

pub stretch_len-requires : goal.stretch_len-requires
stretch_len-requires c =
    let h = c.loop-walk.invariant in
    let e = c.stretch_at-found.ensures.cut_of in
    let p = c.requires in
    record { pairs = p.pairs; «at» = h.0; s_len_bound = h.1; times_nonzero = (c.loop-walk-test.true, e.whole); stretch_nonzero = (e.later, e.within) }

pub returns-in_err-m : goal.returns-in_err-m
returns-in_err-m c =
    let h = c.loop-walk.invariant in
    let b = sum-beyond _ _ c.in_err-m.ensures in
    rw c.from_residual.ensures (owed-beyond _ _ h.3 _ _ (cut-length text_e c.stretch_at-found.ensures.cut_of) b)

pub returns-in_err-n : goal.returns-in_err-n
returns-in_err-n c =
    let h = c.loop-walk.invariant in
    let b = sum_is _ _ _ c.in_ok-m.ensures c.in_err-n.ensures in
    rw c.from_residual-in_err-n.ensures (owed-beyond _ _ h.3 _ _ (cut-length text_e c.stretch_at-found.ensures.cut_of) b)

pub loop-walk-smaller : goal.loop-walk-smaller
loop-walk-smaller c = cut-shorter text_e c.stretch_at-found.ensures.cut_of

pub loop-walk-preserved : goal.loop-walk-preserved
loop-walk-preserved c =
    let h = c.loop-walk.invariant in
    let e = c.stretch_at-found.ensures in
    let k = sum_is _ _ _ c.in_ok-m.ensures c.in_ok-n.ensures in
    (e.at_2, omega (arith, cut-shorter text_e e.cut_of, h.1), omega (arith, is-fit _ _ k), owed-on _ _ h.3 _ _ (cut-length text_e e.cut_of) k)

pub returns : goal.returns
returns c =
    let a = c.args in
    let new = name_list a.bytes.now a.starts.now a.lens.now a.present.now in
    let h = c.loop-walk.invariant in
    owed-end _ _ h.3 (ap length (cut-over text_e _ (walk-over a.column.now a.bytes.now new c.loop-walk.walk h.0 c.loop-walk-test.false)))
    h.2
