-- `delta_decoder::added::add_at` meets its contract: the number that is read, and its sum. Assumes nothing.
use mathlib.Core.Path.{sym, ap, ◌∙◌}
use mir.Syntax.{w64}
use mir.Val.{SFits}
use mir.ValLaws.{to_z-of_z}
use borrow.Author.Rules.{rules}
use Rattle.std.proofs.lemmas.Result.{err_from_is_err_and}
use Rattle.leb128.specs.Cases.{parsed_of}
use Rattle.encoding.proofs.Via.{via}
use Rattle.delta_decoder.specs.Added.{summed_at, adding}
use Rattle.encoding.specs.Cases.{maybe_of}
use Rattle.delta_decoder.proofs.added.add_at.Goals as goal

pub returns-in-Some : goal.returns-in-Some
returns-in-Some c =
    let d = c.in_ok-d.d in
    let f : SFits w64 d = search rules in
    let r = via parsed_of c.difference.ensures c.in_ok-d.was in
    let t = rw (to_z-of_z w64 d f) at (via maybe_of c.add.ensures c.in-Some.is) in
    sym (ap (adding _ _) r ∙ ap (summed_at _ _) t)

pub returns-in-None : goal.returns-in-None
returns-in-None c =
    let d = c.in_ok-d.d in
    let f : SFits w64 d = search rules in
    let r = via parsed_of c.difference.ensures c.in_ok-d.was in
    let t = rw (to_z-of_z w64 d f) at (via maybe_of c.add.ensures c.in-None.is) in
    sym (ap (adding _ _) r ∙ ap (summed_at _ _) t)

pub returns-in_err-d : goal.returns-in_err-d
returns-in_err-d c =
    let p = err_from_is_err_and c.from_residual.result c.from_residual.ensures.1 in
    rw (p.1, p.2) (sym (ap (adding c.args.n c.args.at) (via parsed_of c.difference.ensures c.in_err-d.was)))
