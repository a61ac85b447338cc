-- `rle_encoder::bytes_len` meets its contract: the length owed is n and what the stretches from i on take. Assumes nothing.
use mathlib.Core.Path.{ap}
use native.Mathlib.Omega.{arith}
use lib.ListN.{length}
use Rattle.encoding.proofs.Putting.{bytes-length, bytes-end, bytes-short}
use Rattle.rle_decoder.specs.Word.{u64_e}
use Rattle.rle_decoder.proofs.WordLaws.{u64-laws, u64-ten}
use Rattle.rle_encoder.proofs.bytes_len.Goals as goal

pub loop-i-init : goal.loop-i-init
loop-i-init c = (omega arith, omega arith)

pub stretch_at-stretch-requires : goal.stretch_at-stretch-requires
stretch_at-stretch-requires c = (c.loop-i-test.true, c.requires.0)

pub stretch_len-n-requires : goal.stretch_len-n-requires
stretch_len-n-requires c = let p = c.stretch_at-stretch.ensures in (p.later, p.within, c.requires.1)

pub overflow_add-n : goal.overflow_add-n
overflow_add-n c =
    let h = c.loop-i.invariant in
    let e = bytes-length u64_e 0 _ _ _ _ c.stretch_at-stretch.ensures in
    let s = bytes-short u64_e u64-laws u64-ten c.args.values.now c.args.present.now c.requires.0 in
    omega arith

pub loop-i-smaller : goal.loop-i-smaller
loop-i-smaller c = let l = c.stretch_at-stretch.ensures.later in omega arith

pub loop-i-preserved : goal.loop-i-preserved
loop-i-preserved c =
    let h = c.loop-i.invariant in
    let p = c.stretch_at-stretch.ensures in
    let w = p.within in
    let e = rw (← c.stretch_end-i.ensures) at (bytes-length u64_e 0 _ _ _ _ p) in
    (omega arith, omega arith)

pub returns : goal.returns
returns c =
    let a = c.args in
    let e = bytes-end u64_e 0 a.values.now a.present.now c.loop-i.i c.loop-i-test.false in
    omega (arith, ap length e)
