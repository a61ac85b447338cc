-- `rewriting::cutter::holds_value` meets its contract: an absent reading, or a value whose bytes are compared. Assumes nothing.
use Rattle.rewriting.proofs.Comparing.{within-value, alike-absent-value, alike-parts}
use Rattle.rewriting.proofs.cutter.holds_value.Goals as goal

pub same_parts-requires : goal.same_parts-requires
same_parts-requires c =
    let k = within-value c.args.s.now _ _ _ c.in-Some.is c.requires.0 in
    (k.0, k.1, c.requires.1, c.requires.2)

pub returns-in-None : goal.returns-in-None
returns-in-None c = let a = c.args in alike-absent-value a.s.now a.held a.from a.till c.in-None.is

pub returns-in-Some : goal.returns-in-Some
returns-in-Some c =
    let a = c.args in
    alike-parts a.s.now a.held a.from a.till _ _ c.in-Some.is c.same_parts.ensures
