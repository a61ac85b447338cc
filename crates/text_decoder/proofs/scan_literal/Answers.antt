-- `text_decoder::scan_literal` meets its contract: what follows the values still to come is what follows them all. Assumes nothing.
use mathlib.Core.Path.{refl, sym, ◌∙◌}
use native.Mathlib.Omega.{arith}
use Rattle.std.proofs.lemmas.Result.{err_from_is_err_and}
use Rattle.encoding.proofs.Via.{via}
use Rattle.encoding.proofs.Walking.{next-eq}
use Rattle.encoding.proofs.Columns.{literals-on, literals-off, literals-none}
use Rattle.text.specs.Text.{text_e}
use Rattle.text.proofs.TextLaws.{text-laws}
use Rattle.text_decoder.specs.Cases.{name_of}
use Rattle.text_decoder.proofs.scan_literal.Goals as goal

pub loop-left-init : goal.loop-left-init
loop-left-init c = refl

pub overflow_add-at : goal.overflow_add-at
overflow_add-at c =
    let r = via (name_of c.args.s.now) c.name_at.ensures c.in_ok-first.was in
    omega (arith, text-laws.within _ _ _ _ r)

pub overflow_sub-left : goal.overflow_sub-left
overflow_sub-left c = omega arith

pub loop-left-smaller : goal.loop-left-smaller
loop-left-smaller c = omega arith

pub loop-left-preserved : goal.loop-left-preserved
loop-left-preserved c =
    let r = via (name_of c.args.s.now) c.name_at.ensures c.in_ok-first.was in
    c.loop-left.invariant ∙ next-eq (literals-on text_e _ _ _ _ _ _ c.loop-left-test.true r)

pub returns-in_err-first : goal.returns-in_err-first
returns-in_err-first c =
    let p = err_from_is_err_and c.from_residual.result c.from_residual.ensures.1 in
    let r = via (name_of c.args.s.now) c.name_at.ensures c.in_err-first.was in
    rw (p.1, p.2) (sym (c.loop-left.invariant ∙ next-eq (literals-off text_e _ _ _ _ _ _ c.loop-left-test.true r)))

pub returns : goal.returns
returns c = sym (c.loop-left.invariant ∙ next-eq (literals-none text_e _ _ _ _ c.loop-left-test.false))
