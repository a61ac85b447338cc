-- `delta_encoder::put_column` meets its contract: a value is present, or there are no bytes. Assumes nothing.
use mathlib.Core.Path.{sym, ◌∙◌, ap}
use native.Mathlib.Omega.{arith}
use lib.ListN.{length}
use Rattle.delta_encoder.proofs.Writing.{delta-all, delta-none}
use Rattle.delta_encoder.proofs.put_column.Goals as goal

pub put_all-requires : goal.put_all-requires
put_all-requires c =
    let t = sym c.any_present.ensures ∙ c.if-any_present.true in
    let e = delta-all c.args.values.now c.args.present.now c.requires.narrow.0 t in
    record { narrow = c.requires.narrow; present_in_bounds = omega (arith, ap length e, c.requires.present_in_bounds) }

pub returns-then-any_present : goal.returns-then-any_present
returns-then-any_present c =
    let t = sym c.any_present.ensures ∙ c.if-any_present.true in
    let e = delta-all c.args.values.now c.args.present.now c.requires.narrow.0 t in
    rw e c.put_all.ensures

pub returns-else-any_present : goal.returns-else-any_present
returns-else-any_present c =
    let t = sym c.any_present.ensures ∙ c.if-any_present.false in
    let e = delta-none c.args.values.now c.args.present.now c.requires.narrow.0 t in
    rw e
