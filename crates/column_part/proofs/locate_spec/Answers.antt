-- `column_part::locate_spec` meets its contract: one law for each way out. Assumes nothing.
use mathlib.Core.Path.{refl, ap, ◌∙◌}
use native.Mathlib.Omega.{arith}
use Rattle.std.proofs.lemmas.Result.{err_from_is_err_and}
use Rattle.refusal.proofs.Numbered.{some}
use Rattle.column_part.specs.Part.{there}
use Rattle.raw_column.proofs.Opening.{open-bad, open-good}
use Rattle.column_part.proofs.Parts.{row-ready, spec-bad, spec-none, spec_at, sought-bad, sought-none, sought_at}
use Rattle.column_part.proofs.locate_spec.Goals as goal

pub returns-in_err-o : goal.returns-in_err-o
returns-in_err-o c =
    let p = err_from_is_err_and c.from_residual.result c.from_residual.ensures.1 in
    let b = open-bad c.args.block.now c.in_err-o.ensures (some c.in_err-o.field-0.0.0) in
    record { part = rw (p.1, p.2) (spec-bad _ _ b); row = rw (p.1, p.2) (sought-bad _ _ b) }

pub row_of-i-requires : goal.row_of-i-requires
row_of-i-requires c =
    let g = open-good c.args.block.now c.in_ok-o.ensures refl in
    omega (arith, g.small, g.specs_long)

pub returns-then-n-i : goal.returns-then-n-i
returns-then-n-i c =
    let g = open-good c.args.block.now c.in_ok-o.ensures refl in
    record { part = spec-none _ _ g c.row_of-i.ensures c.if-n-i.true; row = sought-none _ _ g c.row_of-i.ensures c.if-n-i.true }

pub row_part-requires : goal.row_part-requires
row_part-requires c =
    row-ready (open-good c.args.block.now c.in_ok-o.ensures refl) c.if-n-i.false (omega (arith, c.well_formed.0))

pub returns : goal.returns
returns c =
    let g = open-good c.args.block.now c.in_ok-o.ensures refl in record {
      part = c.row_part.ensures ∙ spec_at _ _ g c.row_of-i.ensures c.if-n-i.false;
      row = ap there c.row_part.ensures ∙ sought_at _ _ g c.row_of-i.ensures c.if-n-i.false;
    }
