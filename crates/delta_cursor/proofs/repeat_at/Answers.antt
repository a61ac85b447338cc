-- `delta_cursor::repeat_at` meets its contract: the difference is added once more, or leaves i64. Assumes nothing.
use mathlib.Core.Path.{sym}
use mir.Syntax.{w64}
use mir.Val.{SFits}
use mir.ValLaws.{to_z-of_z}
use borrow.Author.Rules.{rules}
use Rattle.encoding.proofs.Via.{via}
use Rattle.encoding.specs.Cases.{maybe_of}
use Rattle.delta_cursor.proofs.Outs.{repeat-is, repeat-outside}
use Rattle.delta_cursor.proofs.repeat_at.Goals as goal

pub returns-in-Some : goal.returns-in-Some
returns-in-Some c =
    let a = c.args in
    let z = c.in-Some.z in
    let fz : SFits w64 z = search rules in
    let fs : SFits w64 a.lent.sum = search rules in
    let fd : SFits w64 a.c.difference = search rules in
    let h = rw (to_z-of_z w64 a.lent.sum fs, to_z-of_z w64 a.c.difference fd) at (via maybe_of c.add.ensures c.in-Some.is) in
    rw (to_z-of_z w64 a.c.difference fd, to_z-of_z w64 z fz) (sym (repeat-is a.lent a.c h))

pub returns-in-None : goal.returns-in-None
returns-in-None c =
    let a = c.args in
    let fs : SFits w64 a.lent.sum = search rules in
    let fd : SFits w64 a.c.difference = search rules in
    let h = rw (to_z-of_z w64 a.lent.sum fs, to_z-of_z w64 a.c.difference fd) at (via maybe_of c.add.ensures c.in-None.is) in
    sym (repeat-outside a.lent a.c h)
