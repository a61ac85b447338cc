-- `text_encoder::range::refill` meets its contract: decoded, then cleared behind the readings. Assumes nothing.
use Prim.Native.Nat.{ℕ}
use mathlib.Core.Path.{◌≡◌, sym, ◌∙◌, ap}
use native.Mathlib.Omega.{arith}
use Rattle.encoding.specs.Cases.{answer_of}
use Rattle.text_encoder.proofs.Refilling.{refill-answer, refill-count, refill-done}
use Rattle.text_encoder.proofs.range.refill.Goals as goal

pub clear-requires : goal.clear-requires
clear-requires c =
    let a = c.args in
    let n = refill-count a.column.now a.m a.starts.now a.lens.now a.present.now c.requires c.decode.ensures _ (ap answer_of c.in-Ok.is) in
    let k = c.decode.auto in
    (omega (arith, n, c.requires.few), omega (arith, k, c.requires.room), omega (arith, k, c.requires.even), omega (arith, k, c.requires.flagged))

pub returns-in-Ok : goal.returns-in-Ok
returns-in-Ok c =
    let a = c.args in
    let k = c.clear.ensures in
    refill-done a.column.now a.m a.starts.now a.lens.now a.present.now c.requires c.decode.ensures _ (ap answer_of c.in-Ok.is) k.0 k.1 k.2

pub returns-in-Err : goal.returns-in-Err
returns-in-Err c =
    let a = c.args in
    let e = refill-answer a.column.now a.m a.starts.now a.lens.now a.present.now c.requires c.decode.ensures in
    let r = sym (ap answer_of c.in-Err.is) ∙ e in
    let z : ◌≡◌ {A = ℕ} 0 1 = cc in
    absurd (omega arith)
