-- `counted_table::fits_rows` meets its contract: so many rows agree, and each way out is a law. Assumes nothing.
use mathlib.Core.Path.{◌≡◌, refl}
use mathlib.Core.Bool.{true}
use Prim.Native.Nat.{zero-le}
use native.Mathlib.Omega.{arith}
use Rattle.counted_table.specs.Counts.{agree_to}
use Rattle.counted_table.proofs.Storing.{agree-more, specs-differ, starts-differ, lens-differ, row-agrees, other-count, other_row, same_rows}
use Rattle.counted_table.proofs.fits_rows.Goals as goal

pub returns-then-lent-read : goal.returns-then-lent-read
returns-then-lent-read c = other-count c.args.lent c.args.read c.if-lent-read.true

pub loop-i-init : goal.loop-i-init
unfolding agree_to
loop-i-init c = (zero-le, refl)

pub returns-then-lent-i : goal.returns-then-lent-i
returns-then-lent-i c =
    let e = c.if-lent-read.false in
    let loop = c.loop-i in
    let i = loop.i in
    other_row c.args.lent c.args.read e i c.loop-i-test.true (specs-differ c.args.lent c.args.read i c.if-lent-i.true)

pub returns-then-lent-i-2 : goal.returns-then-lent-i-2
returns-then-lent-i-2 c =
    let if1 = c.if-lent-read in
    let loop = c.loop-i in
    let loop-test = c.loop-i-test in
    let e = if1.false in
    let i = loop.i in
    other_row c.args.lent c.args.read e i loop-test.true (starts-differ c.args.lent c.args.read i c.if-lent-i-2.true)

pub returns-then-lent-i-3 : goal.returns-then-lent-i-3
returns-then-lent-i-3 c =
    let if1 = c.if-lent-read in
    let loop = c.loop-i in
    let loop-test = c.loop-i-test in
    let e = if1.false in
    let i = loop.i in
    other_row c.args.lent c.args.read e i loop-test.true (lens-differ c.args.lent c.args.read i c.if-lent-i-3.true)

pub loop-i-preserved : goal.loop-i-preserved
loop-i-preserved c =
    let loop = c.loop-i in
    let if2 = c.if-lent-i in
    let if3 = c.if-lent-i-2 in
    (omega arith, agree-more c.args.lent c.args.read loop.i loop.invariant.1 (row-agrees c.args.lent c.args.read loop.i if2.false if3.false c.if-lent-i-3.false))

pub returns : goal.returns
returns c =
    let loop = c.loop-i in
    let e : loop.i ≡ c.args.read.rows = omega (arith, loop.invariant.0, c.loop-i-test.false) in
    same_rows c.args.lent c.args.read c.if-lent-read.false loop.i e loop.invariant.1
