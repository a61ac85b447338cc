-- `text_encoder::walk::literal_drawn` meets its contract: a literal name of a sound column can be read. Assumes nothing.
use native.Mathlib.Omega.{arith}
use Rattle.leb128.specs.Cases.{parsed_of}
use Rattle.encoding.proofs.Via.{via}
use Rattle.text_encoder.proofs.Drawn.{literal-named, literal-there, drawn-literal}
use Rattle.text_encoder.proofs.walk.literal_drawn.Goals as goal

pub overflow_add-result : goal.overflow_add-result
overflow_add-result c =
    let p = c.requires in
    let r = literal-named _ _ p.sound p.left_nonzero.0 p.left_nonzero.2 _ _ (via parsed_of c.leb128_u64.ensures c.in-Ok.is) in
    omega (arith, r.room)

pub returns-in-Ok : goal.returns-in-Ok
returns-in-Ok c =
    let p = c.requires in
    let e = via parsed_of c.leb128_u64.ensures c.in-Ok.is in
    drawn-literal _ _ p.sound p.left_nonzero.0 p.left_nonzero.2 _ _ _ p.left_nonzero.1 e

pub returns-in-Err : goal.returns-in-Err
returns-in-Err c =
    let p = c.requires in
    absurd (literal-there _ _ p.sound p.left_nonzero.0 p.left_nonzero.2 _ _ (via parsed_of c.leb128_u64.ensures c.in-Err.is))
