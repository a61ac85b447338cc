-- `raw_column::read_table` meets its contract: `Filling` holds at the loop's head, and each way out is a law of it. Assumes nothing.
use mathlib.Core.Path.{sym, ◌∙◌, ap}
use Prim.Native.Nat.{ℕ}
use Rattle.std.proofs.lemmas.Result.{err_from_is_err_and}
use Rattle.refusal.proofs.Numbered.{some}
use Rattle.raw_column.specs.Table.{faulty}
use Rattle.raw_column.specs.Rows.{opened}
use Rattle.raw_column.proofs.Opening.{filling-start, filling-turn, table-bad, table-fault, table-out}
use Rattle.raw_column.proofs.read_table.Goals as goal

pub returns-in_err-n : goal.returns-in_err-n
returns-in_err-n c =
    let p = err_from_is_err_and c.from_residual.result c.from_residual.ensures.1 in
    rw (p.1, p.2) (ap opened c.in_err-n.ensures)

pub loop-i-init : goal.loop-i-init
loop-i-init c = filling-start _ c.in_ok-n.ensures c.empty_table-t.ensures

pub returns-in_err-row : goal.returns-in_err-row
returns-in_err-row c =
    let p = err_from_is_err_and c.from_residual-in_err-row.result c.from_residual-in_err-row.ensures.1 in
    rw (p.1, p.2) (ap opened (table-bad c.loop-i.invariant c.loop-i-test.true c.in_err-row.ensures))

pub loop-i-preserved : goal.loop-i-preserved
loop-i-preserved c = filling-turn c.loop-i.invariant c.loop-i-test.true c.in_ok-row.row c.in_ok-row.ensures c.capped-total.ensures

pub returns-in-Some : goal.returns-in-Some
returns-in-Some c =
    let e = c.in-Some.ensures in
    ap (λ (k : ℕ). opened (faulty k 0)) e
    ∙ ap opened (table-fault c.loop-i.invariant c.loop-i-test.false (λ z. some c.in-Some.why (e ∙ z)))

pub returns : goal.returns
returns c = table-out c.loop-i.invariant c.loop-i-test.false (sym c.in_default.ensures)
