-- `delta_decoder::read_run` meets its contract: the run is the one that its head opens, and its readings are counted by its kind. Assumes nothing.
use mathlib.Core.Path.{refl, sym, ◌∙◌, ap}
use lib.ListN.{length-replicate}
use mir.Syntax.{w64}
use mir.Val.{SFits}
use mir.ValLaws.{to_z-of_z}
use borrow.Author.Rules.{rules}
use Rattle.leb128.specs.Cases.{parsed_of}
use Rattle.encoding.specs.Cases.{head_of, begins_of}
use Rattle.encoding.proofs.Via.{via}
use Rattle.delta_decoder.proofs.Deltas.{delta-repeat, delta-literal, delta-absent, delta-amiss}
use Rattle.delta_decoder.proofs.Readings.{repeated-length, repeated-unread, literal-length, run-counted}
use Rattle.delta_decoder.proofs.read_run.Goals as goal

pub returns-in-Ok : goal.returns-in-Ok
returns-in-Ok c =
    let pre = c.requires.at_in_bounds in
    let d = c.in-Ok.d in
    let f : SFits w64 d = search rules in
    let r = via parsed_of c.difference.ensures c.in-Ok.is in
    let e = delta-repeat _ _ _ _ _ _ pre.0 (via head_of c.head_of.ensures c.in-Ok-Repeat.is ∙ ap begins_of c.in-Ok-Repeat.field-0-is) in
    let both : _ × _ = run-counted _ _ _ _ _ _ pre.1 e (rw (to_z-of_z w64 d f) at c.times_held.ensures ∙ repeated-length _ _ _ _ _ d _ r) in record { value = both.0; result_bound = both.1 }

pub returns-in-Err-difference : goal.returns-in-Err-difference
returns-in-Err-difference c =
    let pre = c.requires.at_in_bounds in
    let r = via parsed_of c.difference.ensures c.in-Err-difference.is in
    let e = delta-repeat _ _ _ _ _ _ pre.0 (via head_of c.head_of.ensures c.in-Ok-Repeat.is ∙ ap begins_of c.in-Ok-Repeat.field-0-is) in
    let both : _ × _ = run-counted _ _ _ _ _ _ pre.1 e (repeated-unread _ _ _ _ _ _ _ r) in record { value = both.0; result_bound = both.1 }

pub returns-in-Ok-Literal : goal.returns-in-Ok-Literal
returns-in-Ok-Literal c =
    let pre = c.requires.at_in_bounds in
    let e = delta-literal _ _ _ _ _ _ pre.0 (via head_of c.head_of.ensures c.in-Ok-Literal.is ∙ ap begins_of c.in-Ok-Literal.field-0-is) in
    let both : _ × _ = run-counted _ _ _ _ _ _ pre.1 e (c.read_literals.ensures ∙ literal-length _ _ _ _ _ _) in record { value = both.0; result_bound = both.1 }

pub returns-in-Ok-Absent : goal.returns-in-Ok-Absent
returns-in-Ok-Absent c =
    let pre = c.requires.at_in_bounds in
    let e = delta-absent _ _ _ _ _ _ pre.0 (via head_of c.head_of.ensures c.in-Ok-Absent.is ∙ ap begins_of c.in-Ok-Absent.field-0-is) in
    let both : _ × _ = run-counted _ _ _ _ _ _ pre.1 e (sym (length-replicate _ _)) in record { value = both.0; result_bound = both.1 }

pub returns-in-Err : goal.returns-in-Err
returns-in-Err c =
    let pre = c.requires.at_in_bounds in
    let e = delta-amiss _ _ _ _ _ _ pre.0 (via head_of c.head_of.ensures c.in-Err.is) in
    let both : _ × _ = run-counted _ _ _ _ _ _ pre.1 e refl in record { value = both.0; result_bound = both.1 }
