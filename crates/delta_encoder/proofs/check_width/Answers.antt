-- `delta_encoder::check_width` meets its contract: near values owe nothing; else what the readings from k on owe is what all owe. Assumes nothing.
use Prim.Native.Nat.{ℕ, ◌+◌}
use mathlib.Core.Path.{refl, sym, ◌∙◌, ap}
use mathlib.Core.Option.{Option}
use native.Mathlib.Omega.{arith}
use lib.IntN.{ℤ, pos}
use lib.ListN.{get_or, drop}
use mir.Syntax.{w64}
use mir.Val.{to_z}
use Rattle.encoding.specs.Given.{slot_list}
use Rattle.delta_encoder.specs.Differences.{differences, wide_at}
use Rattle.delta_encoder.proofs.Differing.{wide-none, wide-some, wide-stop, wide-end, near-narrow}
use Rattle.delta_encoder.proofs.Taking.{read_back}
use Rattle.delta_encoder.proofs.check_width.Goals as goal
use Rattle.delta_encoder.proofs.check_width.Goals.{then-present-k-ne0+else-not-is_held, else-present-k-ne0}

pub returns-then-are_near : goal.returns-then-are_near
returns-then-are_near c = sym (near-narrow _ _ (c.are_near.ensures c.if-are_near.true))

pub loop-k-init : goal.loop-k-init
loop-k-init c = (omega arith, refl)

pub bounds-present-k : goal.bounds-present-k
bounds-present-k c = omega arith

pub returns-then-not-is_held : goal.returns-then-not-is_held
returns-then-not-is_held c =
    let e = rw (read_back c.is_held-arg-1.given) at c.is_held.ensures in
    let l = c.loop-k-test.true in
    sym (c.loop-k.invariant.1 ∙ wide-stop _ _ c.requires _ _ l c.if-present-k-ne0.true (sym e ∙ c.if-not-is_held.true))

pub overflow_add-k : goal.overflow_add-k
overflow_add-k c = omega arith

pub loop-k-smaller : goal.loop-k-smaller
loop-k-smaller c = omega arith

pub loop-k-preserved : goal.loop-k-preserved
loop-k-preserved c =
    let v = c.args.values.now in
    let p = c.args.present.now in
    let k = c.loop-k.k in
    let l = c.loop-k-test.true in
    let last = to_z w64 c.loop-k.last-bits in
    let next : ℤ → Option ℕ = λ z. wide_at (k + 1) (differences z (drop (k + 1) (slot_list v p))) in (
      omega arith,
      c.loop-k.invariant.1
          ∙ (elim c.if-present-k-ne0.branch [
            | then-present-k-ne0+else-not-is_held w ↦ let f = read_back {x = get_or v k (pos 0)} w.is_held-arg-1.given in
                let e = rw f at w.is_held.ensures in
                wide-some v p c.requires last k l w.if-present-k-ne0.true (sym e ∙ w.if-not-is_held.false) ∙ ap next (sym (w.last-is ∙ f))
            | else-present-k-ne0 w ↦ wide-none v p c.requires last k l w.if-present-k-ne0.false ∙ ap next (sym w.last-is)
          ]),
    )

pub returns : goal.returns
returns c = sym (c.loop-k.invariant.1 ∙ wide-end _ _ c.requires _ _ c.loop-k-test.false)
