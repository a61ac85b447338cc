-- `rle_form::ahead::same_held` meets its contract: by the second reading. Assumes nothing.
use Rattle.runs.proofs.Ends.{element_laws}
use Rattle.runs.proofs.Held.{alike-none}
use Rattle.rle_form.proofs.ahead.same_held.Goals as goal

pub returns-in-None : goal.returns-in-None
returns-in-None c =
    let a = c.args in
    alike-none _ (element_laws a.values) a.s.now a.s.now a.a a.b _ c.requires.0 c.in-None.is
    c.is_absent.ensures
