-- `text_encoder::writing::put_name` meets its contract: the length number, and the bytes behind it. Assumes nothing.
use native.Mathlib.Omega.{arith}
use Rattle.encoding.proofs.StretchParts.{first_fits, second_fits, parts-put}
use Rattle.encoding.proofs.Written.{bytes-length}
use Rattle.text_encoder.proofs.Passing.{name-parts}
use Rattle.text_encoder.proofs.writing.put_name.Goals as goal

pub put_number-q-requires : goal.put_number-q-requires
put_number-q-requires c =
    first_fits (name-parts c.args.s.now c.args.i c.args.n c.requires.0) _ _ c.requires.1

pub put_bytes-requires : goal.put_bytes-requires
put_bytes-requires c =
    let n = c.put_number-q in
    let f = second_fits (name-parts c.args.s.now c.args.i c.args.n c.requires.0) c.requires.1 n.ensures n.auto.out in
    (c.requires.0, omega (arith, f, bytes-length c.args.s.now c.args.i c.args.n c.requires.0))

pub returns : goal.returns
returns c =
    let p = name-parts c.args.s.now c.args.i c.args.n c.requires.0 in
    parts-put p c.put_number-q.ensures c.put_bytes.ensures
