-- `given_names::check_names` meets its contract: each way out is a case of its definition. Assumes nothing.
use mathlib.Core.Path.{sym, ◌∙◌}
use Rattle.encoding.specs.Cases.{maybe_of}
use Rattle.encoding.proofs.Via.{via}
use Rattle.text.proofs.Givens.{given-starts, given-flags, given_pair, given-text}
use Rattle.given_names.proofs.check_names.Goals as goal

pub returns-then-starts-lens : goal.returns-then-starts-lens
returns-then-starts-lens c = sym (given-starts _ _ _ _ c.if-starts-lens.true)

pub returns-then-lens-present : goal.returns-then-lens-present
returns-then-lens-present c = sym (given-flags _ _ _ _ c.if-starts-lens.false c.if-lens-present.true)

pub check_pairs-requires : goal.check_pairs-requires
check_pairs-requires c = (sym c.if-starts-lens.false, sym (c.if-starts-lens.false ∙ c.if-lens-present.false))

pub check_text-requires : goal.check_text-requires
check_text-requires c =
    record { lens_len = (sym c.if-starts-lens.false, sym (c.if-starts-lens.false ∙ c.if-lens-present.false)); present_value = via maybe_of c.check_pairs.ensures c.in_default.is }

pub returns-in-Some : goal.returns-in-Some
returns-in-Some c = sym (given_pair _ _ _ _ c.if-starts-lens.false c.if-lens-present.false _ (via maybe_of c.check_pairs.ensures c.in-Some.is))

pub returns-in-Some-check_text : goal.returns-in-Some-check_text
returns-in-Some-check_text c =
    let t = via maybe_of c.check_text.ensures c.in-Some-check_text.is in
    sym (given-text _ _ _ _ c.if-starts-lens.false c.if-lens-present.false _ (via maybe_of c.check_pairs.ensures c.in_default.is) t)

pub returns : goal.returns
returns c =
    let t = via maybe_of c.check_text.ensures c.in_default-check_text.is in
    sym (given-text _ _ _ _ c.if-starts-lens.false c.if-lens-present.false _ (via maybe_of c.check_pairs.ensures c.in_default.is) t)
