-- `capi::edits::grundavok_splice_text` meets its contract: the answer and what is left behind are the library's. Assumes nothing.
use Rattle.capi.proofs.edits.grundavok_splice_text.Goals as goal

pub returns : goal.returns
returns c = c.splice_text.ensures
