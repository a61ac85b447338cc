-- `delta_encoder::put_stretch` meets its contract: each run is a count and what the count announces, put behind it. Assumes nothing.
use mathlib.Core.Path.{◌∙◌, ap}
use native.Mathlib.Omega.{arith}
use borrow.Author.Rules.{rules}
use lib.IntN.{ℤ, pos}
use lib.ListN.{length}
use Rattle.leb128.specs.Write.{i64_bytes}
use Rattle.encoding.specs.Ahead.{end_of}
use Rattle.encoding.proofs.Putting.{put_as}
use Rattle.delta_encoder.specs.Ahead.{diffs}
use Rattle.delta_decoder.specs.Difference.{i64_e}
use Rattle.delta_encoder.proofs.Passing.{stretch-within, repeat-covers, literal-covers}
use Rattle.encoding.proofs.StretchParts.{absent-parts, repeat-parts, literal-parts, first_fits, second_fits, parts-put}
use Rattle.delta_encoder.proofs.Taking.{read_back, passed, taken-fits, taken_back}
use Rattle.delta_encoder.proofs.put_stretch.Goals as goal

pub put_signed-q-requires : goal.put_signed-q-requires
put_signed-q-requires c =
    let a = c.args in
    let p = absent-parts i64_e (pos 0) (diffs a.values.now a.present.now) a.i c.in-Absent.is in
    first_fits p _ _ c.requires.stretch_in_bounds

pub overflow_sub-k : goal.overflow_sub-k
overflow_sub-k c =
    let e = ap end_of c.in-Absent.is in
    omega (arith, c.requires.stretch_at.later)

pub put_number-requires : goal.put_number-requires
put_number-requires c =
    let a = c.args in
    let n = c.put_signed-q in
    let p = absent-parts i64_e (pos 0) (diffs a.values.now a.present.now) a.i c.in-Absent.is in
    second_fits p c.requires.stretch_in_bounds n.ensures n.auto.out

pub overflow_sub-k-in-Repeat : goal.overflow_sub-k-in-Repeat
overflow_sub-k-in-Repeat c =
    let e = ap end_of c.in-Repeat.is in
    omega (arith, c.requires.stretch_at.later)

pub overflow_cast-k : goal.overflow_cast-k
overflow_cast-k c =
    let e = ap end_of c.in-Repeat.is in
    omega (arith, stretch-within _ _ c.requires.narrow.0.even _ _ c.requires.stretch_at, c.requires.narrow.1)

pub put_signed-q-requires-in-Repeat : goal.put_signed-q-requires-in-Repeat
put_signed-q-requires-in-Repeat c =
    let a = c.args in
    let r = c.repeat_count in
    let p = repeat-parts i64_e (pos 0) (diffs a.values.now a.present.now) a.i c.in-Repeat.is r.ensures r.type_inv in
    first_fits p _ _ c.requires.stretch_in_bounds

pub offset_bounds-values-i : goal.offset_bounds-values-i
offset_bounds-values-i c =
    let l = (repeat-covers _ _ c.requires.narrow.0.even _ c.requires.stretch_at c.in-Repeat.is).0 in
    search rules

pub bounds-values-i : goal.bounds-values-i
bounds-values-i c =
    (repeat-covers _ _ c.requires.narrow.0.even _ c.requires.stretch_at c.in-Repeat.is).0

pub overflow_sub-values : goal.overflow_sub-values
overflow_sub-values c =
    let N = c.requires.narrow.0 in
    let l = repeat-covers _ _ N.even _ c.requires.stretch_at c.in-Repeat.is in
    taken-fits _ _ N _ l.0 l.1 (read_back c.put_signed-arg-in-Repeat-3-1.given) (passed c.ranges.last ∙ c.requires.last_value)

pub put_signed-requires : goal.put_signed-requires
put_signed-requires c =
    let v = c.args.values.now in
    let p = c.args.present.now in
    let N = c.requires.narrow.0 in
    let e = c.in-Repeat.is in
    let r = c.repeat_count in
    let n = c.put_signed-q-in-Repeat in
    let l = repeat-covers v p N.even _ c.requires.stretch_at e in
    let b = taken_back v p N _ l.0 l.1 (read_back c.put_signed-arg-in-Repeat-3-1.given) (passed c.ranges.last ∙ c.requires.last_value) in
    let q = repeat-parts i64_e (pos 0) (diffs v p) c.args.i e r.ensures r.type_inv in
    let f = second_fits q c.requires.stretch_in_bounds n.ensures n.auto.out in
    omega (arith, ap (λ (x : ℤ). length (i64_bytes x)) b)

pub overflow_sub-k-in-Literal : goal.overflow_sub-k-in-Literal
overflow_sub-k-in-Literal c =
    let e = ap end_of c.in-Literal.is in
    omega (arith, c.requires.stretch_at.later)

pub overflow_cast-k-in-Literal : goal.overflow_cast-k-in-Literal
overflow_cast-k-in-Literal c =
    let e = ap end_of c.in-Literal.is in
    omega (arith, stretch-within _ _ c.requires.narrow.0.even _ _ c.requires.stretch_at, c.requires.narrow.1)

pub put_signed-q-requires-in-Literal : goal.put_signed-q-requires-in-Literal
put_signed-q-requires-in-Literal c =
    let a = c.args in
    let h = c.requires.stretch_at in
    let r = c.literal_count in
    let e = c.in-Literal.is in
    let p = literal-parts i64_e (pos 0) (diffs a.values.now a.present.now) a.i e r.ensures r.type_inv h.later h.within in
    first_fits p _ _ c.requires.stretch_in_bounds

pub put_literal-requires : goal.put_literal-requires
put_literal-requires c =
    let a = c.args in
    let h = c.requires.stretch_at in
    let r = c.literal_count in
    let n = c.put_signed-q-in-Literal in
    let e = c.in-Literal.is in
    let w = literal-covers _ _ c.requires.narrow.0.even _ h e in
    let p = literal-parts i64_e (pos 0) (diffs a.values.now a.present.now) a.i e r.ensures r.type_inv h.later h.within in
    record { narrow = c.requires.narrow.0; i_le_k = (w.0, w.1, w.2, passed c.ranges.last ∙ c.requires.last_value); present_in_bounds = second_fits p c.requires.stretch_in_bounds n.ensures n.auto.out }

pub returns-in-Absent : goal.returns-in-Absent
returns-in-Absent c =
    let a = c.args in
    let p = absent-parts i64_e (pos 0) (diffs a.values.now a.present.now) a.i c.in-Absent.is in
    parts-put p c.put_signed-q.ensures c.put_number.ensures

pub returns-in-Repeat : goal.returns-in-Repeat
returns-in-Repeat c =
    let v = c.args.values.now in
    let p = c.args.present.now in
    let N = c.requires.narrow.0 in
    let e = c.in-Repeat.is in
    let r = c.repeat_count in
    let l = repeat-covers v p N.even _ c.requires.stretch_at e in
    let b = taken_back v p N _ l.0 l.1 (read_back c.put_signed-arg-in-Repeat-3-1.given) (passed c.ranges.last ∙ c.requires.last_value) in
    let q = repeat-parts i64_e (pos 0) (diffs v p) c.args.i e r.ensures r.type_inv in
    parts-put q c.put_signed-q-in-Repeat.ensures (put_as (ap i64_bytes b) c.put_signed.ensures)

pub returns-in-Literal : goal.returns-in-Literal
returns-in-Literal c =
    let a = c.args in
    let h = c.requires.stretch_at in
    let r = c.literal_count in
    let e = c.in-Literal.is in
    let p = literal-parts i64_e (pos 0) (diffs a.values.now a.present.now) a.i e r.ensures r.type_inv h.later h.within in
    parts-put p c.put_signed-q-in-Literal.ensures c.put_literal.ensures
