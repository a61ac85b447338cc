-- `delta_encoder::column_len` meets its contract: a value is present, or there are no bytes. Assumes nothing.
use mathlib.Core.Path.{sym, ◌∙◌, ap}
use lib.ListN.{length}
use Rattle.delta_encoder.proofs.Writing.{delta-all, delta-none}
use Rattle.delta_encoder.proofs.column_len.Goals as goal

pub returns-then-not-any_present : goal.returns-then-not-any_present
returns-then-not-any_present c =
    let t = c.if-not-any_present.true in
    ap length (sym (delta-none _ _ c.requires.0 (sym c.any_present.ensures ∙ t)))

pub returns : goal.returns
returns c =
    let t = c.if-not-any_present.false in
    c.bytes_len.ensures ∙ ap length (sym (delta-all _ _ c.requires.0 (sym c.any_present.ensures ∙ t)))
