-- `delta_cursor::literal_at` meets its contract: the difference was read and added, or a refusal passed on. Assumes nothing.
use mathlib.Core.Path.{sym, ◌∙◌}
use mir.Syntax.{w64}
use mir.Val.{SFits}
use mir.ValLaws.{to_z-of_z}
use borrow.Author.Rules.{rules}
use Rattle.leb128.specs.Cases.{parsed_of}
use Rattle.encoding.proofs.Via.{via}
use Rattle.encoding.specs.Cases.{maybe_of}
use Rattle.delta_cursor.proofs.Outs.{out-by, literal-is, literal-outside, literal-bad}
use Rattle.delta_cursor.proofs.literal_at.Goals as goal

pub returns-in-Some : goal.returns-in-Some
returns-in-Some c =
    let a = c.args in
    let d = c.in-Ok.d in
    let z = c.in-Some.z in
    let fz : SFits w64 z = search rules in
    let t = c.struct_told-1.given in
    let fs : SFits w64 a.lent.sum = search rules in
    let fd : SFits w64 d = search rules in
    let h = rw (to_z-of_z w64 a.lent.sum fs, to_z-of_z w64 d fd) at (via maybe_of c.add.ensures c.in-Some.is) in
    let e = rw (to_z-of_z w64 z fz) at c.bare.ensures in
    rw (to_z-of_z w64 z fz) (out-by e ∙ sym (literal-is a.lent a.c (via parsed_of c.i64_by_bytes.ensures c.in-Ok.is) h))

pub returns-in-None : goal.returns-in-None
returns-in-None c =
    let a = c.args in
    let d = c.in-Ok.d in
    let fs : SFits w64 a.lent.sum = search rules in
    let fd : SFits w64 d = search rules in
    let h = rw (to_z-of_z w64 a.lent.sum fs, to_z-of_z w64 d fd) at (via maybe_of c.add.ensures c.in-None.is) in
    sym (literal-outside a.lent a.c (via parsed_of c.i64_by_bytes.ensures c.in-Ok.is) h)

pub returns-in-Err : goal.returns-in-Err
returns-in-Err c =
    let a = c.args in
    sym (literal-bad a.lent a.c (via parsed_of c.i64_by_bytes.ensures c.in-Err.is))
