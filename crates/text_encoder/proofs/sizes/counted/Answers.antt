-- `text_encoder::sizes::counted` meets its contract: a size that does not fit does not fit behind more. Assumes nothing.
use Rattle.encoding.proofs.Fits.{sum_is, sum-beyond}
use Rattle.text_encoder.proofs.sizes.counted.Goals as goal

pub returns-in_err-held_len : goal.returns-in_err-held_len
returns-in_err-held_len c = rw c.from_residual.ensures (sum-beyond _ _ c.in_err-held_len.ensures)

pub returns : goal.returns
returns c = sum_is _ _ _ c.in_ok-held_len.ensures c.sum.ensures
