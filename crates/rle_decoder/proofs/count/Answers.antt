-- `rle_decoder::count` meets its contract: no fault has the number 0, so the survey says how the column ends. Assumes nothing.
use Rattle.leb128.proofs.Refusals.{u64-fault}
use Rattle.encoding.proofs.Faults.{trace-numbered}
use Rattle.encoding.proofs.Surveying.{survey-none, survey-some}
use Rattle.encoding.specs.Column.{trace}
use Rattle.rle_decoder.specs.Word.{u64_e}
use Rattle.rle_decoder.proofs.count.Goals as goal

pub returns-in-None : goal.returns-in-None
returns-in-None c = survey-none (trace u64_e _) _ c.survey-found.ensures (trace-numbered u64_e _ (u64-fault _)) c.in-None.is

pub returns-in-Some : goal.returns-in-Some
returns-in-Some c = survey-some (trace u64_e _) _ c.survey-found.ensures _ c.in-Some.is
