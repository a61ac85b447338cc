-- `counted_table::store` meets its contract: the counts of so many rows as they were lent, the rest still 0. Assumes nothing.
use mathlib.Core.Path.{◌≡◌, sym, ap, ◌∙◌}
use Prim.Native.Nat.{ℕ, ◌<◌}
use mathlib.Core.List.{List}
use native.Mathlib.Omega.{arith}
use lib.ListN.{length, get_or, set, take}
use lib.Seq.{set_out}
use borrow.Author.Rules.{rules}
use Rattle.raw_column.specs.Rows.{pad}
use Rattle.raw_column.specs.declared.Table.{Table}
use Rattle.counted_table.specs.Counts.{stored}
use Rattle.counted_table.specs.declared.CountedTable.{CountedTable}
use Rattle.counted_table.proofs.Storing.{pad-none, pad-more, pad-full}
use Rattle.counted_table.proofs.store.Goals as goal

made : (t : Table) {x x₂ y y₂ : List ℕ} → x ≡ x₂ → y ≡ y₂
    → ◌≡◌ {A = CountedTable} (record { table = t; counts = x; known = y }) (record { table = t; counts = x₂; known = y₂ })
made t e f = cc

pub loop-i-init : goal.loop-i-init
loop-i-init c = (omega arith, pad-none c.args.lent.counts, pad-none c.args.lent.known)

pub loop-i-preserved : goal.loop-i-preserved
loop-i-preserved c =
    let a = c.args in
    let loop = c.loop-i in
    let i = loop.i in
    let h : i < a.table.rows = c.loop-i-test.true in
    let l : i < 64 = omega (arith, c.requires) in
    let f : length a.lent.counts ≡ 64 = search rules in
    let g : length a.lent.known ≡ 64 = search rules in (
      omega arith,
      ap (λ (xs : List ℕ). set xs i (get_or a.lent.counts i 0)) loop.invariant.1 ∙ pad-more a.lent.counts i (omega arith) l,
      ap (λ (xs : List ℕ). set xs i (get_or a.lent.known i 0)) loop.invariant.2 ∙ pad-more a.lent.known i (omega arith) l,
    )

pub returns-then-position-lt64 : goal.returns-then-position-lt64
unfolding stored
returns-then-position-lt64 c =
    let a = c.args in
    let loop = c.loop-i in
    let e : loop.i ≡ a.table.rows = omega (arith, loop.invariant.0, c.loop-i-test.false) in
    rw (loop.invariant.1, loop.invariant.2, e)

pub returns-else-position-lt64 : goal.returns-else-position-lt64
unfolding stored
returns-else-position-lt64 c =
    let a = c.args in
    let loop = c.loop-i in
    let e : loop.i ≡ a.table.rows = omega (arith, loop.invariant.0, c.loop-i-test.false) in
    let f : length loop.counts ≡ 64 = ap length loop.invariant.1 ∙ pad-full a.lent.counts loop.i (search rules) in
    let g : length loop.known ≡ 64 = ap length loop.invariant.2 ∙ pad-full a.lent.known loop.i (search rules) in
    let u : loop.counts ≡ set (pad (take a.table.rows a.lent.counts)) a.position a.count =
    sym (set_out loop.counts a.position a.count (omega (arith, c.if-position-lt64.false)))
    ∙ ap (λ (xs : List ℕ). set xs a.position a.count) (loop.invariant.1 ∙ ap (λ (k : ℕ). pad (take k a.lent.counts)) e) in
    let v : loop.known ≡ set (pad (take a.table.rows a.lent.known)) a.position 1 =
    sym (set_out loop.known a.position 1 (omega (arith, c.if-position-lt64.false)))
    ∙ ap (λ (xs : List ℕ). set xs a.position 1) (loop.invariant.2 ∙ ap (λ (k : ℕ). pad (take k a.lent.known)) e) in
    made a.table u v
