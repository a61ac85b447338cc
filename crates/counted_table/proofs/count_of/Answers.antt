-- `counted_table::count_of` meets its contract: the count of each kind. Assumes nothing.
use mathlib.Core.Path.{◌≡◌, ◌∙◌}
use native.Mathlib.Omega.{arith}
use native.Mathlib.Decide.{dec_lt}
use Prim.Native.Nat.{ℕ, ◌≤◌, ◌<◌}
use Rattle.counted_table.proofs.Storing.{count-integers, count-deltas, count-booleans, count-names}
use Rattle.counted_table.proofs.count_of.Goals as goal

pub returns-then-typ-lt3 : goal.returns-then-typ-lt3
returns-then-typ-lt3 c =
    c.count.ensures ∙ count-integers c.args.typ c.args.column.now c.requires.0 c.if-typ-lt3.true

pub returns-then-typ-eq3 : goal.returns-then-typ-eq3
returns-then-typ-eq3 c =
    c.count-then-typ-eq3.ensures ∙ count-deltas c.args.typ c.args.column.now c.if-typ-eq3.true

pub returns-then-typ-eq4 : goal.returns-then-typ-eq4
returns-then-typ-eq4 c =
    c.count-then-typ-eq4.ensures ∙ count-booleans c.args.typ c.args.column.now c.if-typ-eq4.true

-- a served type that is none of the others
five : (t : ℕ) → 3 ≤ t → (t ≡ 3 → ⊥) → (t ≡ 4 → ⊥) → t < 6 → t ≡ 5
five t a b c d = elim (dec_lt t 5) [ yes l ↦ elim (dec_lt t 4) [ yes m ↦ absurd (b (omega arith)) | no m ↦ absurd (c (omega arith)) ] | no l ↦ omega arith ]

pub returns : goal.returns
returns c =
    let e : c.args.typ ≡ 5 = five c.args.typ c.if-typ-lt3.false c.if-typ-eq3.false c.if-typ-eq4.false c.requires.1 in
    c.count-2.ensures ∙ count-names c.args.typ c.args.column.now e
