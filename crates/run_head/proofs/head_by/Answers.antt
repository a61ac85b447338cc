-- `run_head::head_by` meets its contract: the entry of the first byte is the count, or any count opens the run. Assumes nothing.
use Prim.Native.Nat.{◌+◌, ◌≤◌}
use mathlib.Core.Path.{◌≡◌, sym, ◌∙◌, ap}
use native.Mathlib.Omega.{arith}
use lib.IntN.{pos, nat_abs}
use lib.ListN.{get_or}
use mir.Syntax.{w64}
use mir.Val.{to_z, of_z}
use borrow.Author.Rules.{sfits_of}
use Rattle.leb128.proofs.Twos.{is-neg, is_pos, same, same_byte}
use Rattle.encoding.specs.Limit.{limit}
use Rattle.run_head.proofs.Begun.{near-literal, near-repeat, near-absent}
use Rattle.run_head.proofs.head_by.Goals as goal

pub returns-then-x : goal.returns-then-x
returns-then-x c =
    let a = c.args in
    let x = c.number_of-x.result in
    let f = sfits_of c.number_of-x.type_inv in
    let far : a.had + 256 ≤ limit = omega arith in
    let e : x ≡ get_or a.table.now c.place_of-b.result (pos 0) = c.number_of-x.ensures.0 ∙ same_byte _ c.number_of-arg-1.given in
    near-literal a.table.now a.s.now a.at a.had far c.if-at-s.true c.place_of-b.ensures.0 c.place_of-b.ensures.1 e c.number_of-x.ensures.1
    (is-neg x f c.if-x-lt0.true) (λ z. c.if-x.true (ap (of_z w64) z)) (c.count_of.ensures ∙ ap nat_abs (same x f))

pub returns-then-c-lt128 : goal.returns-then-c-lt128
returns-then-c-lt128 c =
    let a = c.args in
    let x = c.number_of-x.result in
    let f = sfits_of c.number_of-x.type_inv in
    let far : a.had + 256 ≤ limit = omega arith in
    let e : x ≡ get_or a.table.now c.place_of-b.result (pos 0) = c.number_of-x.ensures.0 ∙ same_byte _ c.number_of-arg-1.given in
    near-absent a.table.now a.s.now a.at a.had far c.if-at-s.true c.place_of-b.ensures.0 c.place_of-b.ensures.1 e c.number_of-x.ensures.1
    (sym (same x f) ∙ ap (to_z w64) c.if-x-eq0.true) c.if-q-s.true c.wide.ensures (omega (arith, c.wide.ensures))

pub returns-else-x-eq0 : goal.returns-else-x-eq0
returns-else-x-eq0 c =
    let a = c.args in
    let x = c.number_of-x.result in
    let f = sfits_of c.number_of-x.type_inv in
    let far : a.had + 256 ≤ limit = omega arith in
    let e : x ≡ get_or a.table.now c.place_of-b.result (pos 0) = c.number_of-x.ensures.0 ∙ same_byte _ c.number_of-arg-1.given in
    let p = is_pos x f c.if-x-lt0.false in
    near-repeat a.table.now a.s.now a.at a.had far c.if-at-s.true c.place_of-b.ensures.0 c.place_of-b.ensures.1 e c.number_of-x.ensures.1
    p (λ z. c.if-x-eq0.false (ap (of_z w64) p ∙ z)) (c.count_of-else-x-eq0.ensures ∙ ap nat_abs (same x f))
