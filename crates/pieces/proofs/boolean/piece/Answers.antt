-- `pieces::boolean::piece` meets its contract: by what the step answers. Assumes nothing.
use Prim.Native.Nat.{◌^◌, ◌<◌}
use mathlib.Core.Path.{◌≡◌, sym, ◌∙◌, ap}
use native.Mathlib.Omega.{arith}
use Rattle.std.specs.Prelude.{Ok, Some, None}
use Rattle.boolean_cursor.specs.Cases.{answer_of}
use Rattle.pieces.proofs.BooleanPieces.{is_reading, took, took-counted, left-fits}
use Rattle.pieces.proofs.boolean.piece.Goals as goal

pub overflow_add-result : goal.overflow_add-result
overflow_add-result c =
    let k = c.args.cursor in
    let l : k.left < 2 ^ 64 = omega arith in
    let r : c.step-r.result.answer ≡ Ok (Some c.in-Ok-Some.flag) = c.in-Ok-Some.is ∙ ap Ok (rw c.in-Ok-Some.is at c.in-Ok-Some.field-0-is) in
    omega (arith, left-fits _ k l c.step-r.ensures (ap (λ a. is_reading (answer_of a)) r))

pub returns-in-Ok-Some : goal.returns-in-Ok-Some
returns-in-Ok-Some c =
    let r : c.step-r.result.answer ≡ Ok (Some c.in-Ok-Some.flag) = c.in-Ok-Some.is ∙ ap Ok (rw c.in-Ok-Some.is at c.in-Ok-Some.field-0-is) in
    sym (took-counted _ c.args.cursor c.step-r.ensures (ap answer_of r) (omega arith))

pub returns-in-Ok-None : goal.returns-in-Ok-None
returns-in-Ok-None c =
    let r : c.step-r.result.answer ≡ Ok None = c.in-Ok-None.is ∙ ap Ok (rw c.in-Ok-None.is at c.in-Ok-None.field-0-is) in
    sym (took _ c.args.cursor c.step-r.ensures (ap answer_of r))

pub returns-in-Err : goal.returns-in-Err
returns-in-Err c = sym (took _ c.args.cursor c.step-r.ensures (ap answer_of c.in-Err.is))
