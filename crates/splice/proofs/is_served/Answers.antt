-- `splice::is_served` meets its contract: one law for each kind. Assumes nothing.
use mathlib.Core.Path.{◌∙◌}
use Rattle.splice.proofs.Planning.{serves-actor, serves-integer, serves-delta, serves-boolean, serves-text}
use Rattle.splice.proofs.is_served.Goals as goal

pub returns-then-t-eq1 : goal.returns-then-t-eq1
returns-then-t-eq1 c =
    serves-actor c.args.kind c.args.spec (c.as_u8-t.ensures ∙ c.col_type.ensures) c.in-Integer.is c.if-t-eq1.true

pub returns-else-t-eq1 : goal.returns-else-t-eq1
returns-else-t-eq1 c =
    serves-integer c.args.kind c.args.spec (c.as_u8-t.ensures ∙ c.col_type.ensures) c.in-Integer.is c.if-t-eq1.false

pub returns-in-Delta : goal.returns-in-Delta
returns-in-Delta c =
    serves-delta c.args.kind c.args.spec (c.as_u8-t.ensures ∙ c.col_type.ensures) c.in-Delta.is

pub returns-in-Boolean : goal.returns-in-Boolean
returns-in-Boolean c =
    serves-boolean c.args.kind c.args.spec (c.as_u8-t.ensures ∙ c.col_type.ensures) c.in-Boolean.is

pub returns-in-Text : goal.returns-in-Text
returns-in-Text c =
    serves-text c.args.kind c.args.spec (c.as_u8-t.ensures ∙ c.col_type.ensures) c.in-Text.is
