-- `leb128::i64_by_bytes` meets its contract: no byte, one, or more. Assumes nothing.
use mathlib.Core.Path.{◌≡◌, sym, ap, ◌∙◌}
use Prim.Native.Nat.{ℕ, ◌+◌, ◌-◌, ◌≤◌, ◌<◌}
use native.Mathlib.Omega.{arith}
use lib.IntN.{ℤ, pos, negsuc}
use mir.Syntax.{w64}
use mir.ValLaws.{to_z-of_z}
use borrow.Author.Rules.{sfits_of}
use borrow.Author.Tests.{lt-ltb, le-ltb}
use Rattle.leb128.specs.Got.{got}
use Rattle.leb128.specs.Short.{entry_of}
use Rattle.leb128.proofs.Lookup.{one-i64}
use Rattle.leb128.proofs.Refusals.{i64-none}
use Rattle.leb128.proofs.i64_by_bytes.Goals as goal

-- the number that a byte stands for alone
not_negative : (b : ℕ) → b < 64 → pos b ≡ entry_of b
not_negative b h = rw (lt-ltb b 64 h)

negative : (b : ℕ) → 64 ≤ b → b < 128 → negsuc (127 - b) ≡ entry_of b
negative b l h = rw (le-ltb b 64 l, lt-ltb b 128 h)

pub returns-then-s-at : goal.returns-then-s-at
returns-then-s-at c = sym (i64-none _ c.args.at c.if-s-at.true)

pub returns-then-first-lt64 : goal.returns-then-first-lt64
returns-then-first-lt64 c =
    let a = c.args in
    let x = c.up.result in
    let e = to_z-of_z w64 x (sfits_of c.up.type_inv) ∙ c.up.ensures ∙ ap pos c.wide.ensures ∙ not_negative _ c.if-first-lt64.true in
    ap (λ (z : ℤ). got z (a.at + 1)) e ∙ one-i64 a.s.now a.at (omega arith) (omega arith)

pub returns : goal.returns
returns c =
    let a = c.args in
    let x = c.down.result in
    let e = to_z-of_z w64 x (sfits_of c.down.type_inv) ∙ c.down.ensures ∙ ap negsuc c.wide-2.ensures ∙ negative _ c.if-first-lt64.false (omega arith) in
    ap (λ (z : ℤ). got z (a.at + 1)) e ∙ one-i64 a.s.now a.at (omega arith) (omega arith)
