-- `text_encoder::sizes::literal_len` meets its contract: the size owed is n and what the names from the walk on take. Assumes nothing.
use mathlib.Core.Path.{refl, sym, ap}
use native.Mathlib.Omega.{arith}
use lib.ListN.{length}
use Rattle.encoding.proofs.Via.{via}
use Rattle.text.specs.Text.{text_e}
use Rattle.text.specs.Given.{name_list}
use Rattle.encoding.specs.Cases.{maybe_of}
use Rattle.encoding.proofs.Fits.{is-fit, owed-on, owed-beyond, owed-end}
use Rattle.text_encoder.proofs.Passing.{walk_first, walk-size, walk-there}
use Rattle.encoding.proofs.Written.{values-over}
use Rattle.text_encoder.proofs.sizes.literal_len.Goals as goal

pub loop-left-init : goal.loop-left-init
loop-left-init c = (c.requires.«at», c.requires.k_in_bounds, omega arith, refl)

pub returns-in_err-n : goal.returns-in_err-n
returns-in_err-n c =
    let a = c.args in
    let w = c.loop-left.walk in
    let h = c.loop-left.invariant in
    let l = c.loop-left-test.true in
    let new = name_list a.bytes.now a.starts.now a.lens.now a.present.now in
    let f = walk_first a.column.now a.bytes.now new w (walk-there a.column.now a.bytes.now new w h.0 (omega arith)) in
    let z = walk-size a.column.now a.bytes.now new w c.loop-left.left _ l h.0.within f in
    rw c.from_residual.ensures (owed-beyond _ _ h.3 _ _ z c.in_err-n.ensures)

pub stepped-walk-requires : goal.stepped-walk-requires
stepped-walk-requires c =
    let a = c.args in
    let w = c.loop-left.walk in
    let h = c.loop-left.invariant in
    let l = c.loop-left-test.true in
    let new = name_list a.bytes.now a.starts.now a.lens.now a.present.now in
    record { pairs = c.requires.pairs; «at» = h.0; times_nonzero = walk-there a.column.now a.bytes.now new w h.0 (omega arith) }

pub loop-left-preserved : goal.loop-left-preserved
loop-left-preserved c =
    let a = c.args in
    let w = c.loop-left.walk in
    let h = c.loop-left.invariant in
    let l = c.loop-left-test.true in
    let t = c.stepped-walk.ensures in
    let m = c.in_ok-n.ensures in
    let new = name_list a.bytes.now a.starts.now a.lens.now a.present.now in
    let z = walk-size a.column.now a.bytes.now new w c.loop-left.left _ l h.0.within t.s_value in
    (t.at_2, omega (arith, ap length t.s_value), omega (arith, is-fit _ _ m), owed-on _ _ h.3 _ _ z m)

pub returns : goal.returns
returns c =
    let h = c.loop-left.invariant in
    let o = values-over text_e _ c.loop-left-test.false in
    owed-end _ _ h.3 (ap length o) h.2
