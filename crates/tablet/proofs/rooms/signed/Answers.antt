-- `tablet::rooms::signed` meets its contract: by the length of a repetition. Assumes nothing.
use Rattle.std.proofs.Common.{sym, ℤ, pos}
use Rattle.std.proofs.lemmas.List.{length-replicate}
use Rattle.tablet.proofs.rooms.signed.Goals as goal

pub returns : goal.returns
returns c = sym (length-replicate {A = ℤ} 32768 (pos 0))
