-- `count_place::compare_encoded` meets its contract: what is left of the encoding, beside the bytes here, is judged as the whole. Assumes nothing.
use mathlib.Core.Path.{sym, ◌∙◌}
use native.Mathlib.Omega.{arith}
use Rattle.std.proofs.lemmas.Result.{err_from_is_err_and}
use Rattle.count_place.proofs.Placing.{compared-last, compared-on, compared-off}
use Rattle.count_place.proofs.compare_encoded.Goals as goal

pub loop-w-preserved : goal.loop-w-preserved
loop-w-preserved c =
    let l = c.loop-w in (
      omega arith,
      l.invariant.1 ∙ compared-on c.args.s.now l.i c.args.limit c.args.neg l.w _ c.first_byte.ensures c.requires.0
          c.loop-w-test.true l.invariant.0 _ (sym c.in_ok-i.ensures),
    )

pub returns-in_err-i : goal.returns-in_err-i
returns-in_err-i c =
    let p = err_from_is_err_and c.from_residual.result c.from_residual.ensures.1 in
    let l = c.loop-w in
    rw (p.1, p.2) (sym (l.invariant.1 ∙ compared-off c.args.s.now l.i c.args.limit c.args.neg l.w _ c.first_byte.ensures c.requires.0
    c.loop-w-test.true l.invariant.0 _ (sym c.in_err-i.ensures)))

pub returns : goal.returns
returns c =
    let a = c.args in
    let l = c.loop-w in
    compared-last a.s.now l.i a.limit a.neg l.w _ c.first_byte-2.ensures c.loop-w-test.false c.compare_byte-2.ensures ∙ sym l.invariant.1
