-- `text_decoder::fill_repeat` meets its contract: the value was read and stands in each slot, or its refusal passed on. Assumes nothing.
use Prim.Native.Nat.{ℕ, ◌<◌}
use mathlib.Core.Path.{refl}
use native.Mathlib.Omega.{arith}
use lib.ListN.{get_or}
use Rattle.std.proofs.lemmas.Result.{err_from_is_err_and}
use Rattle.encoding.specs.Column.{present}
use Rattle.encoding.specs.Slots.{flag_of}
use Rattle.encoding.proofs.Via.{via}
use Rattle.encoding.proofs.Walking.{readings-eq}
use Rattle.encoding.proofs.Columns.{repeated-got, repeated-bad}
use Rattle.encoding.proofs.Filling.{room-eq, room-same, wrote_none}
use Rattle.encoding.proofs.Running.{wrote-run}
use Rattle.text.specs.Text.{bytes_at}
use Rattle.text.specs.Name.{start_of, length_of}
use Rattle.text.proofs.TextLaws.{text-laws}
use Rattle.text_decoder.specs.Cases.{name_of}
use Rattle.text_decoder.proofs.Filled.{found-start, found-length, wrote_as}
use Rattle.text_decoder.proofs.fill_repeat.Goals as goal

pub fill_same-requires : goal.fill_same-requires
fill_same-requires c =
    let r = via (name_of c.args.s.now) c.name_at.ensures c.in_ok-start.was in
    let x = present (bytes_at c.args.s.now c.in_ok-start.start c.in_ok-start.len) c.args.q in
    let e = repeated-got _ _ _ _ _ _ r in
    let h = c.requires in
    (room-same _ _ x (room-eq (readings-eq e) h.room), h.room.even, h.room_2.even)

pub overflow_add-result : goal.overflow_add-result
overflow_add-result c =
    let r = via (name_of c.args.s.now) c.name_at.ensures c.in_ok-start.was in
    omega (arith, text-laws.within _ _ _ _ r)

pub returns : goal.returns
returns c =
    let w = c.fill_same.ensures in
    let z = c.args in
    let m = c.in_ok-start.start in
    let n = c.in_ok-start.len in
    let r = via (name_of z.s.now) c.name_at.ensures c.in_ok-start.was in
    let B : (i : ℕ) → get_or z.s.now i 0 < 256 = λ i. omega (arith, c.shared_slice_known-1.given i) in
    let x = present (bytes_at z.s.now m n) z.q in
    let e = repeated-got _ _ _ _ _ _ r in
    let u = wrote-run e refl (wrote_as start_of flag_of x z.c m _ _ _ _ _ w.0 w.2 (found-start z.s.now B z.q m n r)) in
    let v = wrote-run e refl (wrote_as length_of flag_of x z.c n _ _ _ _ _ w.1 w.2 (found-length z.s.now B z.q m n r)) in
    record { result_value = u.0; wrote = u.1; wrote_2 = v.1 }

pub returns-in_err-start : goal.returns-in_err-start
returns-in_err-start c =
    let p = err_from_is_err_and c.from_residual.result c.from_residual.ensures.1 in
    let r = via (name_of c.args.s.now) c.name_at.ensures c.in_err-start.was in
    let e = repeated-bad _ _ _ _ _ _ r in
    let u = wrote-run e refl (wrote_none start_of flag_of _ _ _) in
    let v = wrote-run e refl (wrote_none length_of flag_of _ _ _) in
    rw (p.1, p.2) (record { result_value = u.0; wrote = u.1; wrote_2 = v.1 })
