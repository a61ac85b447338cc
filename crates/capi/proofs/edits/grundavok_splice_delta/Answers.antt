-- `capi::edits::grundavok_splice_delta` meets its contract: the answer and what is left behind are the library's. Assumes nothing.
use Rattle.capi.proofs.edits.grundavok_splice_delta.Goals as goal

pub returns : goal.returns
returns c = c.splice_delta.ensures
