-- `delta_decoder::fill_repeat` meets its contract: the difference was read, or its refusal is passed on. Assumes nothing.
use mathlib.Core.Path.{sym}
use lib.IntN.{pos}
use mir.Syntax.{w64}
use mir.Val.{SFits}
use mir.ValLaws.{to_z-of_z}
use borrow.Author.Rules.{rules}
use Rattle.std.proofs.lemmas.Result.{err_from_is_err_and}
use Rattle.leb128.specs.Cases.{parsed_of}
use Rattle.encoding.specs.Slots.{slot_of, flag_of}
use Rattle.encoding.proofs.Via.{via}
use Rattle.encoding.proofs.Walking.{next-eq, readings-eq}
use Rattle.encoding.proofs.Columns.{repeated-bad}
use Rattle.encoding.proofs.Filling.{wrote-eq, wrote_none}
use Rattle.delta_decoder.proofs.Summing.{summing-end}
use Rattle.delta_decoder.proofs.fill_repeat.Goals as goal

pub fill_sums-requires : goal.fill_sums-requires
fill_sums-requires c =
    let h = c.requires in
    let d = c.in_ok-d.d in
    let f : SFits w64 d = search rules in
    record { c_bound = h.c_bound; room = rw (to_z-of_z w64 d f) (rw (via parsed_of c.difference.ensures c.in_ok-d.was) at h.room) }

pub returns : goal.returns
returns c =
    let d = c.in_ok-d.d in
    let f : SFits w64 d = search rules in
    rw (via parsed_of c.difference.ensures c.in_ok-d.was) (rw (to_z-of_z w64 d f) at c.fill_sums.ensures)

pub returns-in_err-d : goal.returns-in_err-d
returns-in_err-d c =
    let r = via parsed_of c.difference.ensures c.in_err-d.was in
    let p = err_from_is_err_and c.from_residual.result c.from_residual.ensures.1 in
    let e = summing-end c.args.n (repeated-bad _ _ _ _ _ _ r) in
    record { result_value = rw (p.1, p.2) (sym (next-eq e)); wrote = wrote-eq (sym (readings-eq e)) (wrote_none (slot_of (pos 0)) flag_of _ _ _) }
