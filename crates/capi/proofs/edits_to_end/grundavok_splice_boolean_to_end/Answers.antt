-- `capi::edits_to_end::grundavok_splice_boolean_to_end` meets its contract: the answer and what is left behind are the library's. Assumes nothing.
use Rattle.capi.proofs.edits_to_end.grundavok_splice_boolean_to_end.Goals as goal

pub returns : goal.returns
returns c = c.splice_boolean.ensures
