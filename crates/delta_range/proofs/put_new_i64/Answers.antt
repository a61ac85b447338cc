-- `delta_range::put_new_i64` meets its contract: a turn stores one more of the new readings. Assumes nothing.
use lib.IntN.{ℤ, pos}
use borrow.Author.Rules.{rules}
use Prim.Native.Nat.{zero-le}
use mathlib.Core.Path.{◌∙◌, ap}
use native.Mathlib.Omega.{arith}
use lib.ListN.{length, get_or}
use Rattle.encoding.specs.Given.{given}
use Rattle.slots.proofs.Moves.{stored-none, stored-all, put-turn}
use borrow.Author.Rules.{sfits_of}
use mir.Syntax.{w64}
use mir.Val.{SFits}
use Rattle.leb128.proofs.Twos.{same}
use Rattle.splice.specs.Contract.{slot_in}
use Rattle.splice.proofs.Replacing.{held-length, held_at}
use Rattle.delta_range.proofs.put_new_i64.Goals as goal

pub loop-i-init : goal.loop-i-init
loop-i-init c = (zero-le, stored-none _ _ _)

pub bounds-new_present-i : goal.bounds-new_present-i
bounds-new_present-i c = omega (arith, c.requires)

pub overflow_add-at : goal.overflow_add-at
overflow_add-at c = omega (arith, c.requires, c.well_formed)

pub bounds-values-at : goal.bounds-values-at
bounds-values-at c = omega (arith, c.requires, c.loop-i.invariant.1.long)

pub loop-i-preserved : goal.loop-i-preserved
loop-i-preserved c =
    let loop = c.loop-i in
    let a = c.args in
    let l = held-length (pos 0) a.new.now a.new_present.now c.requires.1 in
    let n = a.new.now in
    let f = a.new_present.now in
    let i = loop.i in
    let g : SFits w64 c.held_i64.result = search rules in
    let v =
    same c.held_i64.result g ∙ c.held_i64.ensures ∙ ap (λ (x : ℤ). slot_in (pos 0) (given (get_or f i 0) x)) (same _ (sfits_of c.held_i64-arg-1.given))
    ∙ held_at (pos 0) n f i c.requires.1 (omega arith) in
    (search rules, put-turn (pos 0) loop.invariant.1 (omega (arith, c.requires)) (omega (arith, l)) v)

pub returns : goal.returns
returns c = stored-all (length c.args.new.now) c.loop-i.invariant.1 (omega arith)
