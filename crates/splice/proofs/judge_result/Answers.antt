-- `splice::judge_result` meets its contract: one law for each way out. Assumes nothing.
use Prim.Native.Nat.{◌+◌, ◌-◌}
use Rattle.encoding.specs.Limit.{limit}
use native.Mathlib.Omega.{arith}
use mathlib.Core.Path.{sym, ◌∙◌}
use borrow.Author.Tests.{leb-true, leb-false}
use Rattle.splice.proofs.Planning.{in_order, result-past, result-beyond, result-many, result-full, result-done}
use Rattle.splice.proofs.judge_result.Goals as goal

pub returns-then-old-start : goal.returns-then-old-start
returns-then-old-start c = result-past _ _ _ _ _ c.if-old-start.true

pub returns-then-old-e : goal.returns-then-old-e
returns-then-old-e c = result-beyond _ _ _ _ _ c.if-old-start.false (omega (arith, c.end_in-e.ensures, c.if-old-e.true))

pub overflow_add-kept : goal.overflow_add-kept
overflow_add-kept c =
    let a = c.args in
    omega (arith, in_order a.old a.start a.end c.requires c.if-old-start.false, c.end_in-e.ensures, c.if-old-e.false)

pub returns-then-not-may_have : goal.returns-then-not-may_have
returns-then-not-may_have c =
    let a = c.args in
    let e = c.end_in-e.ensures in
    let f = leb-false (a.start + (a.old - c.end_in-e.result) + a.new) limit (sym c.may_have.ensures ∙ c.if-not-may_have.true) in
    result-many _ _ _ _ _ c.if-old-start.false (omega (arith, e, c.if-old-e.false)) (omega (arith, f, e))

pub overflow_add-len : goal.overflow_add-len
overflow_add-len c =
    let a = c.args in
    let f = leb-true (a.start + (a.old - c.end_in-e.result) + a.new) limit (sym c.may_have.ensures ∙ c.if-not-may_have.false) in
    omega (arith, f)

pub returns-then-slots-old : goal.returns-then-slots-old
returns-then-slots-old c =
    let a = c.args in
    let e = c.end_in-e.ensures in
    let f = leb-true (a.start + (a.old - c.end_in-e.result) + a.new) limit (sym c.may_have.ensures ∙ c.if-not-may_have.false) in
    result-full _ _ _ _ _ c.if-old-start.false (omega (arith, e, c.if-old-e.false)) (omega (arith, f, e)) (omega (arith, c.if-slots-old.true))

pub returns-then-slots-len : goal.returns-then-slots-len
returns-then-slots-len c =
    let a = c.args in
    let e = c.end_in-e.ensures in
    let f = leb-true (a.start + (a.old - c.end_in-e.result) + a.new) limit (sym c.may_have.ensures ∙ c.if-not-may_have.false) in
    result-full _ _ _ _ _ c.if-old-start.false (omega (arith, e, c.if-old-e.false)) (omega (arith, f, e)) (omega (arith, c.if-slots-len.true, e))

pub returns : goal.returns
returns c =
    let a = c.args in
    let e = c.end_in-e.ensures in
    let f = leb-true (a.start + (a.old - c.end_in-e.result) + a.new) limit (sym c.may_have.ensures ∙ c.if-not-may_have.false) in
    result-done _ _ _ _ _ c.if-old-start.false (omega (arith, e, c.if-old-e.false)) (omega (arith, f, e)) (omega (arith, c.if-slots-old.false, c.if-slots-len.false, e)) (omega (arith, e))
