-- `delta_decoder::count` meets its contract: no fault has the number 0, so the survey's fault says how the column ends. Assumes nothing.
use Rattle.encoding.proofs.Surveying.{survey-none, survey-some}
use Rattle.delta_decoder.specs.Sums.{delta_trace}
use Rattle.delta_decoder.proofs.Faults.{delta-numbered}
use Rattle.delta_decoder.proofs.count.Goals as goal

pub returns-in-None : goal.returns-in-None
returns-in-None c = survey-none (delta_trace _) _ c.survey-found.ensures (delta-numbered _) c.in-None.is

pub returns-in-Some : goal.returns-in-Some
returns-in-Some c = survey-some (delta_trace _) _ c.survey-found.ensures _ c.in-Some.is
