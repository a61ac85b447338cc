-- `boolean_encoder::maybe_encoded_len` meets its contract: the plain size where a value is true, and else that of no bytes. Assumes nothing.
use mathlib.Core.Path.{sym, ◌∙◌}
use Rattle.boolean_encoder.proofs.Back.{all-false, some-true}
use Rattle.boolean_encoder.proofs.Writing.{sized-as}
use Rattle.boolean_encoder.proofs.maybe_encoded_len.Goals as goal

pub returns-then-any_present : goal.returns-then-any_present
returns-then-any_present c = sized-as _ (sym (some-true _ (sym c.any_present.ensures ∙ c.if-any_present.true))) c.encoded_len.ensures

pub returns-else-any_present : goal.returns-else-any_present
returns-else-any_present c = sized-as _ (sym (all-false _ (sym c.any_present.ensures ∙ c.if-any_present.false))) c.nothing_len.ensures
