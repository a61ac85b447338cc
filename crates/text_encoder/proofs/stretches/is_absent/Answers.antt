-- `text_encoder::stretches::is_absent` meets its contract: case by case. Assumes nothing.
use Rattle.text_encoder.proofs.Alike.{old-held, new-held}
use Rattle.text_encoder.proofs.stretches.is_absent.Goals as goal

pub returns-in-Old : goal.returns-in-Old
returns-in-Old c = old-held _ _ _ c.in-Old.is

pub returns-in-New : goal.returns-in-New
returns-in-New c = new-held _ _ _ c.in-New.is
