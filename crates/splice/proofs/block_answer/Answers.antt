-- `splice::block_answer` meets its contract: the table that the block reads as, or its refusal. Assumes nothing.
use native.Mathlib.Omega.{arith}
use mathlib.Core.Path.{◌≡◌, ◌∙◌, refl, sym, ap}
use mathlib.Core.List.{List}
use lib.ListN.{length, take}
use lib.Seq.{length-take-le, take_all}
use Prim.Native.Nat.{ℕ, ◌≤◌, ◌<◌}
use Rattle.std.proofs.lemmas.Result.{err_from_is_err_and}
use Rattle.refusal.proofs.Numbered.{some}
use Rattle.splice.specs.Edit.{readings_in, block_answer}
use Rattle.splice.proofs.Writing.{block_refused, block_read}
use Rattle.splice.proofs.block_answer.Goals as goal
use Rattle.splice.proofs.block_answer.Goals.{then-len-out, else-len-out}

-- the part that is read: no longer than the output, and the bytes that were asked for
record Front (n len : ℕ) (out : List ℕ) : Type 0 where
  within : n ≤ length out
  same : take n out ≡ take len out

below : (n len : ℕ) (out : List ℕ) → len < length out → n ≡ len → Front n len out
below n len out l e = record { within = omega arith; same = ap (λ (k : ℕ). take k out) e }

above : (n len : ℕ) (out : List ℕ) → length out ≤ len → n ≡ length out → Front n len out
above n len out l e = record { within = omega arith; same = take_all n out (omega arith) ∙ sym (take_all len out l) }

pub slice_bounds-read_table-end : goal.slice_bounds-read_table-end
slice_bounds-read_table-end c =
    let a = c.args in
    let f : Front c.if-len-out.n a.len a.out.now =
    (elim c.if-len-out.branch [ then-len-out w ↦ below _ _ _ w.if-len-out.true w.n-is | else-len-out w ↦ above _ _ _ w.if-len-out.false w.n-is ]) in
    sym (length-take-le _ _ f.within)

pub returns-in_err-o : goal.returns-in_err-o
returns-in_err-o c =
    let a = c.args in
    let f : Front c.if-len-out.n a.len a.out.now =
    (elim c.if-len-out.branch [ then-len-out w ↦ below _ _ _ w.if-len-out.true w.n-is | else-len-out w ↦ above _ _ _ w.if-len-out.false w.n-is ]) in
    let p = err_from_is_err_and c.from_residual.result c.from_residual.ensures.1 in
    rw (p.1, p.2) (block_refused (readings_in a.size a.listed) _ c.in_err-o.ensures (some c.in_err-o.field-0.0.0) ∙ ap (block_answer (readings_in a.size a.listed)) f.same)

pub returns : goal.returns
returns c =
    let a = c.args in
    let out = a.out.now in
    let f : Front c.if-len-out.n a.len a.out.now =
    (elim c.if-len-out.branch [ then-len-out w ↦ below _ _ _ w.if-len-out.true w.n-is | else-len-out w ↦ above _ _ _ w.if-len-out.false w.n-is ]) in
    block_read _ _ c.in_ok-o.ensures refl (sym (length-take-le _ out f.within))
    ∙ ap (block_answer _) f.same
    ∙ ap (λ (k : ℕ). block_answer k (take a.len out)) c.readings_in.ensures
