-- `delta_encoder::are_near` meets its contract: while no far value was seen, those before k are near. Assumes nothing.
use Prim.Native.Nat.{ℕ}
use mathlib.Core.Path.{◌≡◌, sym, ◌∙◌, ap}
use native.Mathlib.Omega.{arith}
use borrow.Author.Count.{below_more}
use lib.IntN.{pos}
use lib.ListN.{get_or}
use lib.Signed.{mag}
use Rattle.delta_encoder.proofs.Taking.{read_back}
use Rattle.delta_encoder.proofs.are_near.Goals as goal
use Rattle.delta_encoder.proofs.are_near.Goals.{then-magnitude-ge-QUARTER, else-magnitude-ge-QUARTER}

pub loop-k-init : goal.loop-k-init
loop-k-init c = (omega arith, λ e k l. absurd (omega arith))

pub overflow_add-k : goal.overflow_add-k
overflow_add-k c = omega arith

pub loop-k-smaller : goal.loop-k-smaller
loop-k-smaller c = omega arith

pub loop-k-preserved : goal.loop-k-preserved
loop-k-preserved c =
    let l = c.loop-k in
    let f = read_back {x = get_or c.args.values.now l.k (pos 0)} c.magnitude-arg-1.given in
    let m = c.magnitude.ensures.0 ∙ ap mag f in (
      omega arith,
      elim c.if-magnitude-ge-QUARTER.branch [
        | then-magnitude-ge-QUARTER w ↦ λ e. let z : ◌≡◌ {A = ℕ} 0 1 = cc in absurd (omega arith)
        | else-magnitude-ge-QUARTER w ↦ λ e. below_more _ _ (l.invariant.1 (sym w.near-is ∙ e)) (rw m at w.if-magnitude-ge-QUARTER.false)
      ],
    )

pub returns : goal.returns
returns c e k l = c.loop-k.invariant.1 e k (omega arith)
