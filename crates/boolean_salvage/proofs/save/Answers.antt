-- `boolean_salvage::save` meets its contract: the slots hold what survives, and it is written from there. Assumes nothing.
use Rattle.encoding.specs.Survivors.{seen}
use Rattle.boolean_salvage.proofs.Keeping.{save-done}
use Rattle.boolean_salvage.proofs.save.Goals as goal

pub returns : goal.returns
returns c =
    let a = c.args in
    let p = c.requires in
    let keep = c.keep in
    save-done a.s.now a.values.now a.out.now (seen a.found) p.found_value.0 p.found_value.1 a.size p.size_value.0 p.size_value.1 _ _ _ _ keep.ensures
    c.encode.ensures
