-- `text_encoder::writing::put_column` meets its contract: a reading is present, or there are no bytes. Assumes nothing.
use mathlib.Core.Path.{sym, ◌∙◌, ap}
use native.Mathlib.Omega.{arith}
use lib.ListN.{length}
use Rattle.encoding.proofs.Written.{column-some, column-none}
use Rattle.text.specs.Text.{text_e}
use Rattle.text_encoder.proofs.writing.put_column.Goals as goal

pub put_all-requires : goal.put_all-requires
put_all-requires c =
    let p = c.requires in
    let e = sym c.any_present.ensures ∙ c.if-any_present.true in
    record { pairs = p.pairs; «at» = p.«at»; s_len_bound = p.s_len_bound; s_in_bounds = omega (arith, p.s_in_bounds, ap length (column-some text_e _ e)) }

pub returns-then-any_present : goal.returns-then-any_present
returns-then-any_present c =
    let e = sym c.any_present.ensures ∙ c.if-any_present.true in
    rw (column-some text_e _ e) c.put_all.ensures

pub returns-else-any_present : goal.returns-else-any_present
returns-else-any_present c =
    let e = sym c.any_present.ensures ∙ c.if-any_present.false in
    rw (column-none text_e _ e)
