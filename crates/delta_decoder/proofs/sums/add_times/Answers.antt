-- `delta_decoder::sums::add_times` meets its contract: by the difference's sign, and the division says whether the last sum fits. Assumes nothing.
use mathlib.Core.Path.{sym, ◌∙◌, ap}
use Prim.Native.Nat.{◌+◌, ◌-◌}
use native.Mathlib.Omega.{arith}
use lib.IntN.{ℤ, pos}
use Rattle.delta_decoder.specs.Sofar.{plus_times}
use Rattle.delta_decoder.proofs.Kept.{neg_is, pos-is, times-fall, times-under, times-still, times-rise, times-over, within, beyond}
use Rattle.delta_decoder.proofs.sums.add_times.Goals as goal

pub overflow_sub-result : goal.overflow_sub-result
overflow_sub-result c =
    let a = c.args in
    within a.c (c.magnitude-m.result + 1) a.n (omega arith) c.if-c-n.true

pub overflow_mul-result : goal.overflow_mul-result
overflow_mul-result c = omega (arith, overflow_sub-result c)

pub returns-then-c-n : goal.returns-then-c-n
returns-then-c-n c =
    let m = c.magnitude-m in
    let e = neg_is c.args.d m.result c.ranges.d c.if-d-lt0.true m.ensures.0 in
    sym (ap (λ (x : ℤ). plus_times c.args.n x c.args.c) e ∙ times-fall c.args.n m.result c.args.c (overflow_sub-result c))

pub returns-then-d-lt0 : goal.returns-then-d-lt0
returns-then-d-lt0 c =
    let m = c.magnitude-m in
    let e = neg_is c.args.d m.result c.ranges.d c.if-d-lt0.true m.ensures.0 in
    let w = beyond c.args.c (m.result + 1) c.args.n (omega arith) c.if-c-n.false in
    sym (ap (λ (x : ℤ). plus_times c.args.n x c.args.c) e ∙ times-under c.args.n m.result c.args.c w)

pub returns-then-m-eq0 : goal.returns-then-m-eq0
returns-then-m-eq0 c =
    let m = c.magnitude-m in
    let e = pos-is c.args.d m.result c.ranges.d c.if-d-lt0.false m.ensures.0 ∙ ap pos c.if-m-eq0.true in
    sym (ap (λ (x : ℤ). plus_times c.args.n x c.args.c) e ∙ times-still c.args.n c.args.c (omega arith))

pub overflow_add-result-then-c-n-2 : goal.overflow_add-result-then-c-n-2
overflow_add-result-then-c-n-2 c =
    let a = c.args in
    let m = c.magnitude-m in
    let w = within a.c m.result (18446744073709551615 - a.n) (omega arith) c.if-c-n-2.true in
    omega arith

pub overflow_mul-result-then-c-n-2 : goal.overflow_mul-result-then-c-n-2
overflow_mul-result-then-c-n-2 c = omega (arith, overflow_add-result-then-c-n-2 c)

pub returns-then-c-n-2 : goal.returns-then-c-n-2
returns-then-c-n-2 c =
    let m = c.magnitude-m in
    let e = pos-is c.args.d m.result c.ranges.d c.if-d-lt0.false m.ensures.0 in
    let w = within c.args.c m.result (18446744073709551615 - c.args.n) (omega arith) c.if-c-n-2.true in
    sym (ap (λ (x : ℤ). plus_times c.args.n x c.args.c) e ∙ times-rise c.args.n m.result c.args.c (omega arith))

pub returns : goal.returns
returns c =
    let m = c.magnitude-m in
    let e = pos-is c.args.d m.result c.ranges.d c.if-d-lt0.false m.ensures.0 in
    let w = beyond c.args.c m.result (18446744073709551615 - c.args.n) (omega arith) c.if-c-n-2.false in
    sym (ap (λ (x : ℤ). plus_times c.args.n x c.args.c) e ∙ times-over c.args.n m.result c.args.c (omega arith))
