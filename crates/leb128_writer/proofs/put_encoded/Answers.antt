-- `leb128_writer::put_encoded` meets its contract. Assumes nothing.
use mathlib.Core.Path.{◌∙◌}
use native.Mathlib.Omega.{arith}
use Rattle.leb128.specs.Write.{encoded}
use Rattle.leb128.proofs.Encoded.{put-no, put-yes}
use Rattle.leb128_writer.proofs.put_encoded.Goals as goal

pub returns-then-out-n : goal.returns-then-out-n
returns-then-out-n c =
    let a = c.args in
    (let all = put-no a.out.now a.at (encoded a.limit a.neg a.v) (omega (arith, c.encoded_len-n.ensures a.neg)) in record { result_value = all.0; out_after = all.1 })

pub returns-then-out-n-2 : goal.returns-then-out-n-2
returns-then-out-n-2 c =
    let a = c.args in
    (let all = put-no a.out.now a.at (encoded a.limit a.neg a.v) (omega (arith, c.encoded_len-n.ensures a.neg)) in record { result_value = all.0; out_after = all.1 })

pub put_digits-requires : goal.put_digits-requires
put_digits-requires c =
    let a = c.args in
    (record { le_limit = c.requires; v_in_bounds = omega (arith, c.encoded_len-n.ensures a.neg) })

pub returns : goal.returns
returns c =
    let a = c.args in
    let e = c.encoded_len-n.ensures a.neg in
    let y = put-yes a.out.now a.at (encoded a.limit a.neg a.v) _ e (omega (arith, e)) in
    (record { result_value = y.0; out_after = c.put_digits.ensures ∙ y.1 })
