-- `column_reason::facts::count_at` meets its contract: a count that is read, or none. Assumes nothing.
use Prim.Native.Nat.{ℕ}
use mathlib.Core.Path.{◌≡◌, refl, sym, ◌∙◌, ap}
use lib.IntN.{ℤ, pos, negsuc}
use Rattle.leb128.specs.Got.{got}
use mir.Syntax.{w64}
use mir.Val.{SFits}
use borrow.Author.Rules.{rules}
use Rattle.leb128.specs.Cases.{parsed_of}
use Rattle.leb128.proofs.Twos.{same}
use Rattle.encoding.proofs.Via.{via}
use Rattle.reason.specs.Reason.{signed_count}
use Rattle.column_reason.proofs.facts.count_at.Goals as goal

-- a count says nothing of the place behind it
any-next : (x : ℤ) (a b : ℕ) → signed_count (got x a) ≡ signed_count (got x b)
any-next (pos n) a b = refl
any-next (negsuc n) a b = refl

pub returns-in-Ok : goal.returns-in-Ok
returns-in-Ok c =
    let x = c.in-Ok.c in
    let f : SFits w64 x = search rules in
    let r = via parsed_of c.leb128_i64.ensures c.in-Ok.is in
    rw (same x f) at c.signed_count.ensures ∙ any-next x 0 _ ∙ sym (ap signed_count r)

pub returns-in-Err : goal.returns-in-Err
returns-in-Err c = sym (ap signed_count (via parsed_of c.leb128_i64.ensures c.in-Err.is))
