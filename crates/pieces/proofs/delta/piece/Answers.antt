-- `pieces::delta::piece` meets its contract: by what the step answers. Assumes nothing.
use Prim.Native.Nat.{◌^◌, ◌<◌}
use mathlib.Core.Path.{◌≡◌, sym, ◌∙◌, ap}
use native.Mathlib.Omega.{arith}
use Rattle.std.specs.Prelude.{Ok, Some, None}
use Rattle.delta_cursor.specs.Cases.{answer_of}
use Rattle.pieces.proofs.DeltaPieces.{is_reading, read, took, took-read, left-fits}
use Rattle.pieces.proofs.delta.piece.Goals as goal

pub standing_at-requires : goal.standing_at-requires
standing_at-requires c =
    let k = c.args.cursor in
    let l : k.left < 2 ^ 64 = omega arith in
    let r : c.step-r.result.answer ≡ Ok (Some c.in-Ok-Some.reading) = c.in-Ok-Some.is ∙ ap Ok (rw c.in-Ok-Some.is at c.in-Ok-Some.field-0-is) in
    left-fits _ k l c.step-r.ensures (ap (λ a. is_reading (answer_of a)) r ∙ read c.in-Ok-Some.reading)

pub returns-in-Ok-Some : goal.returns-in-Ok-Some
returns-in-Ok-Some c =
    let r : c.step-r.result.answer ≡ Ok (Some c.in-Ok-Some.reading) = c.in-Ok-Some.is ∙ ap Ok (rw c.in-Ok-Some.is at c.in-Ok-Some.field-0-is) in
    c.standing_at.ensures ∙ sym (took-read _ c.args.cursor c.step-r.ensures r)

pub returns-in-Ok-None : goal.returns-in-Ok-None
returns-in-Ok-None c =
    let r : c.step-r.result.answer ≡ Ok None = c.in-Ok-None.is ∙ ap Ok (rw c.in-Ok-None.is at c.in-Ok-None.field-0-is) in
    sym (took _ c.args.cursor c.step-r.ensures (ap answer_of r))

pub returns-in-Err : goal.returns-in-Err
returns-in-Err c = sym (took _ c.args.cursor c.step-r.ensures (ap answer_of c.in-Err.is))
