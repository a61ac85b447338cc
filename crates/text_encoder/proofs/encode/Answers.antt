-- `text_encoder::encode` meets its contract: refused, too long for the output, or put at its front. Assumes nothing.
use native.Mathlib.Omega.{arith}
use mathlib.Core.Path.{sym}
use Rattle.std.proofs.lemmas.Result.{err_from_is_err_and}
use Rattle.encoding.proofs.Putting.{sized-is, encode-short, encode-done}
use Rattle.encoding.proofs.Answered.{len-sized, list-refused}
use Rattle.text_encoder.proofs.Answered.{judged-pairs}
use Rattle.text_encoder.proofs.encode.Goals as goal

pub put_list-requires : goal.put_list-requires
put_list-requires c =
    let e = sym c.in_ok-n.ensures in
    let z = sized-is _ _ _ (len-sized _ _ _ e) in
    record { pairs = judged-pairs _ _ _ _ _ z.1.1; present_in_bounds = omega (arith, z.0, c.if-n-out.true) }

pub returns-then-n-out : goal.returns-then-n-out
returns-then-n-out c =
    let e = sym c.in_ok-n.ensures in
    encode-done _ _ _ _ _ (len-sized _ _ _ e) (omega (arith, c.if-n-out.true)) c.put_list.ensures

pub returns : goal.returns
returns c =
    let e = sym c.in_ok-n.ensures in
    encode-short _ _ _ _ (len-sized _ _ _ e) c.if-n-out.false

pub returns-in_err-n : goal.returns-in_err-n
returns-in_err-n c =
    let p = err_from_is_err_and c.from_residual.result c.from_residual.ensures.1 in
    rw (p.1, p.2) (list-refused _ _ _ _ _ (sym c.in_err-n.ensures) (omega (arith, c.well_formed)))
