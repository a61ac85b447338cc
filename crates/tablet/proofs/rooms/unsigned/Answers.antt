-- `tablet::rooms::unsigned` meets its contract: by the length of a repetition. Assumes nothing.
use Rattle.std.proofs.Common.{sym, ℕ}
use Rattle.std.proofs.lemmas.List.{length-replicate}
use Rattle.tablet.proofs.rooms.unsigned.Goals as goal

pub returns : goal.returns
returns c = sym (length-replicate {A = ℕ} 32768 0)
