-- `leb128::leb128_i64` meets its contract: none, a longer one, or a number of one byte by the table's rule. Assumes nothing.
use mathlib.Core.Path.{◌≡◌, sym, ap, ◌∙◌}
use Prim.Native.Nat.{ℕ, ◌+◌, ◌<◌}
use mathlib.Core.List.{List}
use lib.IntN.{ℤ}
use lib.ListN.{length, get_or}
use mir.Syntax.{w64}
use mir.Val.{SFits, to_z, of_z}
use mir.ValLaws.{to_z-of_z}
use borrow.Author.Rules.{sfits_of}
use native.Mathlib.Omega.{arith}
use Rattle.leb128.specs.Got.{got}
use Rattle.leb128.specs.Read.{i64_at}
use Rattle.leb128.specs.Short.{entry_of}
use Rattle.leb128.proofs.Lookup.{one-i64}
use Rattle.leb128.proofs.Refusals.{i64-none}
use Rattle.leb128.proofs.leb128_i64.Goals as goal

-- the entry of the only byte is the number
alone : (s : List ℕ) (at first : ℕ) {x : ℤ} → at < length s → first ≡ get_or s at 0 → first < 128 → SFits w64 x → x ≡ entry_of first
    → got (to_z w64 (of_z w64 x)) (at + 1) ≡ i64_at s at
alone s at first h e b f g =
    ap (λ z. got z (at + 1)) (to_z-of_z w64 _ f ∙ g ∙ ap entry_of e) ∙ one-i64 s at h (omega arith)

pub returns-then-place-lt64 : goal.returns-then-place-lt64
returns-then-place-lt64 c =
    let a = c.args in
    let b = c.place_of-place in
    alone a.s.now a.at b.result (omega arith) b.ensures.0 (omega (arith, b.ensures)) (sfits_of c.short_of.type_inv) c.short_of.ensures

pub returns-then-at-s : goal.returns-then-at-s
returns-then-at-s c =
    let a = c.args in
    let b = c.place_of-place in
    alone a.s.now a.at b.result (omega arith) b.ensures.0 (omega (arith, b.ensures)) (sfits_of c.short_of-then-at-s.type_inv) c.short_of-then-at-s.ensures

pub returns : goal.returns
returns c = sym (i64-none _ c.args.at c.if-at-s.false)
