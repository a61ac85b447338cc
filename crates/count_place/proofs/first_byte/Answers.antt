-- `count_place::first_byte` meets its contract: seven bits, and bit 7 where more follows. Assumes nothing.
use mathlib.Core.Path.{◌≡◌}
use Prim.Native.Nat.{◌%◌}
use native.Mathlib.Omega.{arith}
use Rattle.leb128.specs.Write.{group}
use Rattle.count_place.proofs.Placing.{first-last, first_more}
use Rattle.count_place.proofs.first_byte.Goals as goal
use Rattle.count_place.proofs.first_byte.Goals.{else-neg, then-neg}

seven-After-row_known-1 : (c : goal.After-row_known-1) → c.if-neg.group ≡ group c.args.neg (c.args.v % 128)
seven-After-row_known-1 c = (elim c.if-neg.branch [ then-neg w ↦ rw w.if-neg.true w.group-is | else-neg w ↦ rw w.if-neg.false w.group-is ])

seven-Then-v-limit : (c : goal.Then-v-limit) → c.if-neg.group ≡ group c.args.neg (c.args.v % 128)
seven-Then-v-limit c = (elim c.if-neg.branch [ then-neg w ↦ rw w.if-neg.true w.group-is | else-neg w ↦ rw w.if-neg.false w.group-is ])

pub returns-then-v-limit : goal.returns-then-v-limit
returns-then-v-limit c = let a = c.args in first-last a.limit a.neg a.v _ (seven-Then-v-limit c) c.requires.1 c.if-v-limit.true

pub returns-else-v-limit : goal.returns-else-v-limit
returns-else-v-limit c =
    let a = c.args in
    first_more a.limit a.neg a.v _ (seven-After-row_known-1 c) c.requires.0 c.if-v-limit.false (omega arith)
