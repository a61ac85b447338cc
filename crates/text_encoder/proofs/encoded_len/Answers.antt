-- `text_encoder::encoded_len` meets its contract: refused as the list was judged, or the size, or more than a u64 counts. Assumes nothing.
use mathlib.Core.Path.{sym}
use Rattle.std.proofs.lemmas.Result.{err_from_is_err_and}
use Rattle.encoding.proofs.Via.{via}
use Rattle.encoding.specs.Cases.{maybe_of}
use Rattle.encoding.proofs.Answered.{len-refused, len_is, len-beyond}
use Rattle.text_encoder.proofs.Answered.{judged-pairs}
use Rattle.text_encoder.proofs.encoded_len.Goals as goal

pub list_len-requires : goal.list_len-requires
list_len-requires c = judged-pairs _ _ _ _ _ (sym c.in_ok-judge_names.ensures)

pub returns-in-Some : goal.returns-in-Some
returns-in-Some c = len_is _ _ _ _ (sym c.in_ok-judge_names.ensures) (sym (via maybe_of c.list_len.ensures c.in-Some.is))

pub returns-in-None : goal.returns-in-None
returns-in-None c = len-beyond _ _ _ (sym c.in_ok-judge_names.ensures) (sym (via maybe_of c.list_len.ensures c.in-None.is))

pub returns-in_err-judge_names : goal.returns-in_err-judge_names
returns-in_err-judge_names c =
    let p = err_from_is_err_and c.from_residual.result c.from_residual.ensures.1 in
    rw (p.1, p.2) (len-refused _ _ _ _ (sym c.in_err-judge_names.ensures))
