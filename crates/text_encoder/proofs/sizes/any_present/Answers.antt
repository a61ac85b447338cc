-- `text_encoder::sizes::any_present` meets its contract: a piece that is absent is passed whole. Assumes nothing.
use mathlib.Core.Path.{refl, sym, ◌∙◌, ap}
use native.Mathlib.Omega.{arith}
use lib.ListN.{length}
use Rattle.encoding.specs.Writer.{any_present}
use Rattle.text.specs.Given.{name_list}
use Rattle.encoding.proofs.Times.{any-over}
use Rattle.text_encoder.proofs.Alike.{absent-true, absent-false}
use Rattle.text_encoder.proofs.Passing.{walk-shorter, walk-some, walk_none, walk-over}
use Rattle.text_encoder.proofs.sizes.any_present.Goals as goal

pub loop-walk-init : goal.loop-walk-init
loop-walk-init c = (c.requires.«at», refl)

pub returns-then-not-is_absent : goal.returns-then-not-is_absent
returns-then-not-is_absent c =
    let a = c.args in
    let w = c.loop-walk.walk in
    let new = name_list a.bytes.now a.starts.now a.lens.now a.present.now in
    let b = c.is_absent in
    let n = absent-false w.held b.result b.ensures (c.if-not-is_absent.true) in
    walk-some a.column.now a.bytes.now new w c.loop-walk-test.true n ∙ sym c.loop-walk.invariant.1

pub advanced-walk-requires : goal.advanced-walk-requires
advanced-walk-requires c =
    let p = c.requires in
    record { pairs = p.pairs; rest = c.loop-walk.invariant.0.rest }

pub loop-walk-smaller : goal.loop-walk-smaller
loop-walk-smaller c =
    let a = c.args in
    let new = name_list a.bytes.now a.starts.now a.lens.now a.present.now in
    let w = c.loop-walk.walk in
    omega (arith, ap length c.advanced-walk.ensures.result_value, walk-shorter a.column.now a.bytes.now new w c.loop-walk-test.true)

pub loop-walk-preserved : goal.loop-walk-preserved
loop-walk-preserved c =
    let a = c.args in
    let new = name_list a.bytes.now a.starts.now a.lens.now a.present.now in
    let l = c.loop-walk in
    let b = c.is_absent in
    let y = absent-true l.walk.held b.result b.ensures (c.if-not-is_absent.false) in
    let e = c.advanced-walk.ensures in
    (e.«at», l.invariant.1 ∙ walk_none a.column.now a.bytes.now new l.walk y ∙ sym (ap any_present e.result_value))

pub returns : goal.returns
returns c =
    let a = c.args in
    let new = name_list a.bytes.now a.starts.now a.lens.now a.present.now in
    let l = c.loop-walk in
    any-over (walk-over a.column.now a.bytes.now new l.walk l.invariant.0 c.loop-walk-test.false) ∙ sym l.invariant.1
