-- `text_encoder::stretches::same_names` meets its contract: what is compared are the two parts. Assumes nothing.
use Rattle.text_encoder.proofs.Alike.{parts_same}
use Rattle.text_encoder.proofs.stretches.same_names.Goals as goal

pub returns : goal.returns
returns c =
    let a = c.args in
    parts_same a.s.now a.i a.n a.t.now a.j a.m c.same_bytes.ensures
