-- `given_list::largest` meets its contract: where none of the bytes before j is above 1, what is owed from j on is what is owed of all. Assumes
-- nothing.
use mathlib.Core.Path.{refl, ◌∙◌}
use native.Mathlib.Omega.{arith}
use Rattle.encoding.proofs.Presence.{flag-good, flag-end}
use Rattle.given_list.proofs.largest.Goals as goal
use Rattle.given_list.proofs.largest.Goals.{then-most-b, else-most-b}

pub loop-j-init : goal.loop-j-init
loop-j-init c = (omega arith, λ h. refl)

pub bounds-present-j : goal.bounds-present-j
bounds-present-j c = omega arith

pub overflow_add-j : goal.overflow_add-j
overflow_add-j c = omega arith

pub loop-j-smaller : goal.loop-j-smaller
loop-j-smaller c = omega arith

pub loop-j-preserved : goal.loop-j-preserved
loop-j-preserved c =
    let a = c.loop-j.invariant.1 in
    let l = c.loop-j-test.true in (
      omega arith,
      λ h.
          (elim c.if-most-b.branch [
            | then-most-b w ↦ a (omega arith) ∙ flag-good _ _ l (omega arith)
            | else-most-b w ↦ a (omega arith) ∙ flag-good _ _ l (omega arith)
          ]),
    )

pub returns : goal.returns
returns c = λ h. c.loop-j.invariant.1 h ∙ flag-end _ _ c.loop-j-test.false
