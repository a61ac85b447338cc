-- `rle_encoder::literal_len` meets its contract: the length owed is n and what the values from j on take. Assumes nothing.
use mathlib.Core.Path.{◌∙◌, ap}
use native.Mathlib.Omega.{arith}
use lib.ListN.{length, get_or}
use Rattle.encoding.proofs.Putting.{literal-length, literal-over}
use Rattle.rle_decoder.specs.Word.{u64_e}
use Rattle.rle_decoder.proofs.WordLaws.{u64-ten}
use Rattle.rle_encoder.proofs.literal_len.Goals as goal

pub loop-j-init : goal.loop-j-init
loop-j-init c = (omega arith, omega arith, omega arith, omega arith)

pub offset_bounds-values-j : goal.offset_bounds-values-j
offset_bounds-values-j c = omega arith

pub bounds-values-j : goal.bounds-values-j
bounds-values-j c = omega arith

pub overflow_add-n : goal.overflow_add-n
overflow_add-n c =
    let t = u64-ten (get_or c.args.values.now c.loop-j.j 0) in
    omega arith

pub overflow_add-j : goal.overflow_add-j
overflow_add-j c = omega arith

pub loop-j-smaller : goal.loop-j-smaller
loop-j-smaller c = omega arith

pub loop-j-preserved : goal.loop-j-preserved
loop-j-preserved c =
    let h = c.loop-j.invariant in
    let l = c.loop-j-test.true in
    let t = u64-ten (get_or c.args.values.now c.loop-j.j 0) in
    let e = literal-length u64_e 0 c.loop-j.j c.args.k c.args.values.now l c.requires.1 in
    (omega arith, omega arith, omega arith, h.3 ∙ omega arith)

pub returns : goal.returns
returns c =
    let h = c.loop-j.invariant in
    let e = literal-over u64_e 0 c.loop-j.j c.args.k c.args.values.now (omega arith) in
    (omega (arith, ap length e), omega arith)
