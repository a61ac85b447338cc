-- `splice::plan_text` meets its contract: the row, the new names, the column. Assumes nothing.
use native.Mathlib.Omega.{arith}
use Rattle.splice.proofs.Planning.{row-found}
use Rattle.splice.proofs.plan_text.Goals as goal

pub plan_column-requires : goal.plan_column-requires
plan_column-requires c =
    let f = row-found c.args.start c.args.end c.in_ok-at.ensures in
    (omega (arith, f.0.at_is, f.0.till_is), f.0.ends, f.1)
