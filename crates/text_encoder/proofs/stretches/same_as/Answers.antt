-- `text_encoder::stretches::same_as` meets its contract: case by case. Assumes nothing.
use Rattle.text_encoder.proofs.Alike.{within-old, within_new, as-old, as-new}
use Rattle.text_encoder.proofs.stretches.same_as.Goals as goal

pub same_names-requires : goal.same_names-requires
same_names-requires c =
    let p = c.requires in
    (p.0, within-old _ _ _ _ _ c.in-Old.is p.1)

pub same_names-requires-in-New : goal.same_names-requires-in-New
same_names-requires-in-New c =
    let p = c.requires in
    (p.0, within_new _ _ _ _ _ c.in-New.is p.1)

pub returns-in-Old : goal.returns-in-Old
returns-in-Old c = as-old _ _ _ _ _ _ _ c.in-Old.is c.same_names.ensures

pub returns-in-New : goal.returns-in-New
returns-in-New c = as-new _ _ _ _ _ _ _ c.in-New.is c.same_names-in-New.ensures
