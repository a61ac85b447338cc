-- `boolean_encoder::maybe_encode` meets its contract: the plain form where a value is true, and else no bytes. Assumes nothing.
use mathlib.Core.Path.{sym, ◌∙◌}
use Rattle.boolean_encoder.proofs.Back.{all-false, some-true}
use Rattle.boolean_encoder.proofs.Writing.{encoded-as, encoded-nothing}
use Rattle.boolean_encoder.proofs.maybe_encode.Goals as goal

pub returns-then-not-any_present : goal.returns-then-not-any_present
returns-then-not-any_present c =
    encoded-as (sym (all-false _ (sym c.any_present.ensures ∙ c.if-not-any_present.true)))
    (encoded-nothing c.nothing_len.ensures)

pub returns : goal.returns
returns c =
    let any-present = c.any_present in
    let if1 = c.if-not-any_present in
    encoded-as (sym (some-true _ (sym any-present.ensures ∙ if1.false))) c.encode.ensures
