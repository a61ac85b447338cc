-- `rewriting::cutter::same_held` meets its contract: case by case. Assumes nothing.
use Rattle.rewriting.proofs.Comparing.{within-value, alike-absent, alike-value}
use Rattle.rewriting.proofs.cutter.same_held.Goals as goal

pub holds_value-requires : goal.holds_value-requires
holds_value-requires c =
    let p = c.requires in
    let k = within-value _ _ _ _ c.in-Some.is p.1 in
    (p.0, k.0, k.1)

pub returns-in-Some : goal.returns-in-Some
returns-in-Some c =
    let a = c.args in
    alike-value a.s.now a.a a.b _ _ c.in-Some.is c.holds_value.ensures

pub returns-in-None : goal.returns-in-None
returns-in-None c = alike-absent c.args.s.now c.args.a c.args.b c.in-None.is c.is_none.ensures
