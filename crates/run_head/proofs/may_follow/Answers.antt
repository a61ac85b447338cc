-- `run_head::may_follow` meets its contract: the difference is judged, for the sum may not fit. Assumes nothing.
use Prim.Native.Nat.{ℕ, ◌+◌, ◌-◌, ◌≤◌}
use mathlib.Core.Path.{◌≡◌, refl, sym}
use mathlib.Core.Bool.{Bool, true, false}
use native.Mathlib.Omega.{arith}
use lib.Dec.{leb}
use borrow.Author.Tests.{leb-true, leb-false, le-leb, lt-leb}
use Rattle.encoding.specs.Limit.{limit}
use Rattle.run_head.proofs.may_follow.Goals as goal

moved : (had c : ℕ) → had ≤ limit → (t : Bool) → leb c (limit - had) ≡ t → t ≡ leb (had + c) limit
moved had c h true e = sym (le-leb (had + c) limit (omega (arith, leb-true c (limit - had) e)))
moved had c h false e = sym (lt-leb (had + c) limit (omega (arith, leb-false c (limit - had) e)))

pub returns-then-had-le-LIMIT : goal.returns-then-had-le-LIMIT
returns-then-had-le-LIMIT c = moved c.args.had c.args.c c.if-had-le-LIMIT.true _ refl

pub returns : goal.returns
returns c = sym (lt-leb (c.args.had + c.args.c) limit (omega arith))
