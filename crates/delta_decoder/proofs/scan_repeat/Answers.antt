-- `delta_decoder::scan_repeat` meets its contract: the last of the sums decides, or the difference's refusal is passed on. Assumes nothing.
use mathlib.Core.Path.{sym}
use native.Mathlib.Omega.{arith}
use mir.Syntax.{w64}
use mir.Val.{SFits}
use mir.ValLaws.{to_z-of_z}
use borrow.Author.Rules.{rules}
use Rattle.std.proofs.lemmas.Result.{err_from_is_err_and}
use Rattle.leb128.specs.Cases.{parsed_of}
use Rattle.encoding.proofs.Via.{via}
use Rattle.encoding.proofs.Walking.{next-eq}
use Rattle.encoding.proofs.Columns.{repeated-bad}
use Rattle.encoding.specs.Cases.{maybe_of}
use Rattle.delta_decoder.proofs.Summing.{repeated-next, summing-end}
use Rattle.delta_decoder.proofs.scan_repeat.Goals as goal

pub returns-in-Some : goal.returns-in-Some
returns-in-Some c =
    let a = c.args in
    let d = c.in_ok-d.d in
    let f : SFits w64 d = search rules in
    let r = via parsed_of c.difference.ensures c.in_ok-d.was in
    let t = rw (to_z-of_z w64 d f) at (via maybe_of c.add_times.ensures c.in-Some.is) in
    sym (repeated-next a.n a.had a.c a.q _ _ _ _ (omega arith) r t)

pub returns-in-None : goal.returns-in-None
returns-in-None c =
    let a = c.args in
    let d = c.in_ok-d.d in
    let f : SFits w64 d = search rules in
    let r = via parsed_of c.difference.ensures c.in_ok-d.was in
    let t = rw (to_z-of_z w64 d f) at (via maybe_of c.add_times.ensures c.in-None.is) in
    sym (repeated-next a.n a.had a.c a.q _ _ _ _ (omega arith) r t)

pub returns-in_err-d : goal.returns-in_err-d
returns-in_err-d c =
    let r = via parsed_of c.difference.ensures c.in_err-d.was in
    let p = err_from_is_err_and c.from_residual.result c.from_residual.ensures.1 in
    rw (p.1, p.2) (sym (next-eq (summing-end c.args.n (repeated-bad _ _ _ _ _ _ r))))
