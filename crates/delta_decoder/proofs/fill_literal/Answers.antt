-- `delta_decoder::fill_literal` meets its contract: each sum comes first of those still to come, or is not held. Assumes nothing.
use mathlib.Core.Path.{◌∙◌, subst}
use native.Mathlib.Omega.{arith}
use mir.Syntax.{w64}
use mir.Val.{SFits}
use mir.ValLaws.{to_z-of_z}
use borrow.Author.Rules.{rules}
use Rattle.std.proofs.lemmas.Result.{err_from_is_err_and}
use Rattle.leb128.specs.Cases.{parsed_of}
use Rattle.leb128.specs.Read.{i64_at}
use Rattle.encoding.proofs.Via.{via}
use Rattle.encoding.proofs.Columns.{literals-none}
use Rattle.encoding.proofs.Running.{partly-start, partly-room, partly-on, partly-end}
use Rattle.delta_decoder.specs.Added.{adding, Nearly}
use Rattle.delta_decoder.specs.Difference.{i64_e}
use Rattle.delta_decoder.proofs.Adding.{literal-on, literal-off}
use Rattle.delta_decoder.proofs.Summing.{summing-end}
use Rattle.delta_decoder.proofs.fill_literal.Goals as goal

pub loop-left-init : goal.loop-left-init
loop-left-init c = partly-start c.requires.room

pub bounds-values-i : goal.bounds-values-i
bounds-values-i c =
    let x = c.loop-left in
    let g = adding x.n x.at (i64_at c.args.s.now x.at) in
    let h = subst (λ r. Nearly r g) c.in-Some.is c.add_near.ensures in
    partly-room c.loop-left.invariant (literal-on _ _ _ _ _ c.loop-left-test.true h)

pub bounds-present-i : goal.bounds-present-i
bounds-present-i c = omega (arith, bounds-values-i c)

pub overflow_add-i : goal.overflow_add-i
overflow_add-i c = omega (arith, bounds-values-i c)

pub overflow_sub-left : goal.overflow_sub-left
overflow_sub-left c = omega arith

pub loop-left-smaller-in-Some : goal.loop-left-smaller-in-Some
loop-left-smaller-in-Some c = omega arith

pub loop-left-preserved-in-Some : goal.loop-left-preserved-in-Some
loop-left-preserved-in-Some c =
    let x = c.loop-left in
    let g = adding x.n x.at (i64_at c.args.s.now x.at) in
    let h = subst (λ r. Nearly r g) c.in-Some.is c.add_near.ensures in
    let g : SFits w64 c.sum_of.result = search rules in
    rw (to_z-of_z w64 c.sum_of.result g ∙ c.sum_of.ensures)
    (partly-on c.loop-left.invariant (literal-on _ _ _ _ _ c.loop-left-test.true h))

pub bounds-values-i-in-None : goal.bounds-values-i-in-None
bounds-values-i-in-None c =
    let h = via parsed_of c.add_at.ensures c.in_ok-m-in-None.was in
    partly-room c.loop-left.invariant (literal-on _ _ _ _ _ c.loop-left-test.true h)

pub bounds-present-i-in-None : goal.bounds-present-i-in-None
bounds-present-i-in-None c = omega (arith, bounds-values-i-in-None c)

pub overflow_add-i-in-None : goal.overflow_add-i-in-None
overflow_add-i-in-None c = omega (arith, bounds-values-i-in-None c)

pub overflow_sub-left-in-None : goal.overflow_sub-left-in-None
overflow_sub-left-in-None c = omega arith

pub loop-left-smaller : goal.loop-left-smaller
loop-left-smaller c = omega arith

pub loop-left-preserved : goal.loop-left-preserved
loop-left-preserved c =
    let h = via parsed_of c.add_at.ensures c.in_ok-m-in-None.was in
    let g : SFits w64 c.sum_of-in-None.result = search rules in
    rw (to_z-of_z w64 c.sum_of-in-None.result g ∙ c.sum_of-in-None.ensures)
    (partly-on c.loop-left.invariant (literal-on _ _ _ _ _ c.loop-left-test.true h))

pub returns-in_err-m-in-None : goal.returns-in_err-m-in-None
returns-in_err-m-in-None c =
    let h = via parsed_of c.add_at.ensures c.in_err-m-in-None.was in
    let both : _ × _ = partly-end c.loop-left.invariant (literal-off _ _ _ _ _ c.loop-left-test.true h) in
    let p = err_from_is_err_and c.from_residual.result c.from_residual.ensures.1 in
    record { result_value = rw (p.1, p.2) both.0; wrote = both.1 }

pub shape_of-values : goal.shape_of-values
shape_of-values c = c.loop-left.invariant.same-v

pub shape_of-present : goal.shape_of-present
shape_of-present c = c.loop-left.invariant.same-p

pub returns : goal.returns
returns c = let both : _ × _ = partly-end c.loop-left.invariant (summing-end _ (literals-none i64_e _ _ _ _ c.loop-left-test.false)) in record { result_value = both.0; wrote = both.1 }
