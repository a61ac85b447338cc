-- `text_encoder::stretches::same_held` meets its contract: case by case. Assumes nothing.
use Rattle.text_encoder.proofs.Alike.{within-old, within_new, of-old, of-new}
use Rattle.text_encoder.proofs.stretches.same_held.Goals as goal

pub same_as-requires : goal.same_as-requires
same_as-requires c =
    let p = c.requires in
    (within-old _ _ _ _ _ c.in-Old.is p.0, p.1)

pub same_as-requires-in-New : goal.same_as-requires-in-New
same_as-requires-in-New c =
    let p = c.requires in
    (within_new _ _ _ _ _ c.in-New.is p.0, p.1)

pub returns-in-Old : goal.returns-in-Old
returns-in-Old c = of-old _ _ _ _ _ _ _ c.in-Old.is c.same_as.ensures

pub returns-in-New : goal.returns-in-New
returns-in-New c = of-new _ _ _ _ _ _ _ c.in-New.is c.same_as-in-New.ensures
