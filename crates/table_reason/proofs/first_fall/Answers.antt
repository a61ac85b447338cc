-- `table_reason::first_fall` meets its contract: i rows passed, and the first from there on, are the first of all. Assumes nothing.
use mathlib.Core.Path.{◌≡◌, ◌∙◌, ap}
use Prim.Native.Nat.{ℕ}
use native.Mathlib.Omega.{arith}
use lib.ListN.{length}
use Rattle.table_reason.specs.Rows.{first_of}
use Rattle.table_reason.specs.TableReason.{first_fall}
use Rattle.table_reason.proofs.Firsts.{first-at, first-past, fall-hit, fall-on, fall-end}
use Rattle.table_reason.proofs.first_fall.Goals as goal

pub returns-then-k-last : goal.returns-then-k-last
returns-then-k-last c =
    let l = c.loop-i in
    let s = c.args.specs.now in
    let e : l.i ≡ first_fall 0 s = omega (arith, fall-hit s l.i c.loop-i-test.true c.normalize-k.ensures c.if-k-last.true, l.invariant) in
    first-at c.loop-i-test.true ∙ ap (λ (k : ℕ). first_of k (length s)) e

pub loop-i-preserved : goal.loop-i-preserved
loop-i-preserved c =
    let l = c.loop-i in
    omega (arith, fall-on c.args.specs.now l.i c.loop-i-test.true c.normalize-k.ensures c.if-k-last.false, l.invariant)

pub returns : goal.returns
returns c =
    let l = c.loop-i in
    let s = c.args.specs.now in
    first-past (omega (arith, fall-end s l.i c.loop-i-test.false l.last, l.invariant, c.loop-i-test.false))
