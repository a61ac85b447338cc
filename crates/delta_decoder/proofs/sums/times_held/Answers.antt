-- `delta_decoder::sums::times_held` meets its contract: by the difference's sign, and the division says how many sums fit. Assumes nothing.
use mathlib.Core.Path.{sym, ◌∙◌, ap}
use native.Mathlib.Omega.{arith}
use lib.IntN.{ℤ, pos}
use Rattle.delta_decoder.specs.Sofar.{times_held}
use Rattle.delta_decoder.proofs.Held.{held-fall, held-rise, held-still}
use Rattle.delta_decoder.proofs.Kept.{neg_is, pos-is}
use Rattle.delta_decoder.proofs.sums.times_held.Goals as goal

pub returns-then-d-lt0 : goal.returns-then-d-lt0
returns-then-d-lt0 c =
    let m = c.magnitude-m in
    let e = neg_is c.args.d m.result c.ranges.d c.if-d-lt0.true m.ensures.0 in
    c.smaller.ensures ∙ sym (ap (λ (x : ℤ). times_held c.args.n x c.args.c) e ∙ held-fall c.args.n m.result c.args.c)

pub returns-then-m-eq0 : goal.returns-then-m-eq0
returns-then-m-eq0 c =
    let m = c.magnitude-m in
    let e = pos-is c.args.d m.result c.ranges.d c.if-d-lt0.false m.ensures.0 ∙ ap pos c.if-m-eq0.true in
    sym (ap (λ (x : ℤ). times_held c.args.n x c.args.c) e ∙ held-still c.args.n c.args.c (omega arith))

pub returns : goal.returns
returns c =
    let m = c.magnitude-m in
    let e = pos-is c.args.d m.result c.ranges.d c.if-d-lt0.false m.ensures.0 in
    c.smaller-2.ensures
    ∙ sym (ap (λ (x : ℤ). times_held c.args.n x c.args.c) e ∙ held-rise c.args.n m.result c.args.c (omega arith) (omega arith))
