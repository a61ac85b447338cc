-- `text_encoder::walk::repeat_at` meets its contract: the value of a sound column's run can be read. Assumes nothing.
use native.Mathlib.Omega.{arith}
use Rattle.leb128.specs.Cases.{parsed_of}
use Rattle.encoding.proofs.Columns.{head-known}
use Rattle.encoding.proofs.Via.{via}
use Rattle.text_encoder.proofs.Entered.{repeat-named, repeat-ahead, repeat-there, onto-repeat}
use Rattle.text_encoder.proofs.walk.repeat_at.Goals as goal

pub overflow_add-result : goal.overflow_add-result
overflow_add-result c =
    let p = c.requires in
    let e = via parsed_of c.leb128_u64.ensures c.in-Ok.is in
    let r = repeat-named _ _ p.sound p.left_value.0 p.left_value.1 _ _ p.left_value.2 _ _ e in
    omega (arith, r.room)

pub overflow_add-result-in-Ok : goal.overflow_add-result-in-Ok
overflow_add-result-in-Ok c = let h = head-known _ _ _ _ c.requires.left_value.2 in omega (arith, h.2)

pub returns-in-Ok : goal.returns-in-Ok
returns-in-Ok c =
    let p = c.requires in
    let r = via parsed_of c.leb128_u64.ensures c.in-Ok.is in record { onward = onto-repeat _ _ p.sound p.left_value.0 p.left_value.1 _ _ p.left_value.2 _ _ r; at_lt_at = repeat-ahead _ _ p.sound p.left_value.0 p.left_value.1 _ _ p.left_value.2 _ _ r }

pub returns-in-Err : goal.returns-in-Err
returns-in-Err c =
    let p = c.requires in
    absurd (repeat-there _ _ p.sound p.left_value.0 p.left_value.1 _ _ p.left_value.2 _ _ (via parsed_of c.leb128_u64.ensures c.in-Err.is))
