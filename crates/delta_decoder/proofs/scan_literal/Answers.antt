-- `delta_decoder::scan_literal` meets its contract: what follows the differences still to come is what follows them all. Assumes nothing.
use mathlib.Core.Path.{refl, sym, ◌∙◌, subst}
use native.Mathlib.Omega.{arith}
use Rattle.std.proofs.lemmas.Result.{err_from_is_err_and}
use Rattle.leb128.specs.Cases.{parsed_of}
use Rattle.leb128.specs.Read.{i64_at}
use Rattle.encoding.proofs.Via.{via}
use Rattle.encoding.proofs.Walking.{next-eq}
use Rattle.encoding.proofs.Columns.{literals-none}
use Rattle.delta_decoder.specs.Added.{adding, Nearly}
use Rattle.delta_decoder.specs.Difference.{i64_e}
use Rattle.delta_decoder.proofs.Adding.{literal-on, literal-off}
use Rattle.delta_decoder.proofs.Summing.{summing-end}
use Rattle.delta_decoder.proofs.scan_literal.Goals as goal

pub loop-left-init : goal.loop-left-init
loop-left-init c = refl

pub overflow_sub-left : goal.overflow_sub-left
overflow_sub-left c = omega arith

pub loop-left-smaller-in-Some : goal.loop-left-smaller-in-Some
loop-left-smaller-in-Some c = omega arith

pub loop-left-preserved-in-Some : goal.loop-left-preserved-in-Some
loop-left-preserved-in-Some c =
    let x = c.loop-left in
    let g = adding x.n x.at (i64_at c.args.s.now x.at) in
    let h = subst (λ r. Nearly r g) c.in-Some.is c.add_near.ensures in
    c.loop-left.invariant ∙ next-eq (literal-on _ _ _ _ _ c.loop-left-test.true h)

pub overflow_sub-left-in-None : goal.overflow_sub-left-in-None
overflow_sub-left-in-None c = omega arith

pub loop-left-smaller : goal.loop-left-smaller
loop-left-smaller c = omega arith

pub loop-left-preserved : goal.loop-left-preserved
loop-left-preserved c =
    let h = via parsed_of c.add_at.ensures c.in_ok-m-in-None.was in
    c.loop-left.invariant ∙ next-eq (literal-on _ _ _ _ _ c.loop-left-test.true h)

pub returns-in_err-m-in-None : goal.returns-in_err-m-in-None
returns-in_err-m-in-None c =
    let h = via parsed_of c.add_at.ensures c.in_err-m-in-None.was in
    let p = err_from_is_err_and c.from_residual.result c.from_residual.ensures.1 in
    rw (p.1, p.2) (sym (c.loop-left.invariant ∙ next-eq (literal-off _ _ _ _ _ c.loop-left-test.true h)))

pub returns : goal.returns
returns c = sym (c.loop-left.invariant ∙ next-eq (summing-end _ (literals-none i64_e _ _ _ _ c.loop-left-test.false)))
