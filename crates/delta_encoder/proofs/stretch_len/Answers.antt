-- `delta_encoder::stretch_len` meets its contract: each run is a count and what the count announces. Assumes nothing.
use Prim.Native.Nat.{◌-◌}
use mathlib.Core.Path.{◌∙◌, ap}
use native.Mathlib.Omega.{arith}
use borrow.Author.Rules.{rules}
use lib.IntN.{ℤ, pos, ◌-ℤ◌}
use lib.ListN.{length, get_or}
use mir.Syntax.{w64}
use mir.Val.{to_z, of_z}
use Rattle.leb128.specs.Write.{i64_bytes}
use Rattle.leb128.proofs.Laws.{u64-short, i64-short}
use Rattle.encoding.specs.Ahead.{end_of}
use Rattle.delta_encoder.specs.Ahead.{diffs}
use Rattle.delta_decoder.specs.Difference.{i64_e}
use Rattle.delta_encoder.proofs.Passing.{stretch-within, repeat-covers, literal-covers}
use Rattle.encoding.proofs.StretchParts.{absent-parts, repeat-parts, literal-parts, parts-length}
use Rattle.delta_encoder.proofs.Taking.{read_back, passed, taken-fits, taken_back}
use Rattle.delta_encoder.proofs.stretch_len.Goals as goal

pub overflow_sub-k : goal.overflow_sub-k
overflow_sub-k c = let e = ap end_of c.in-Absent.is in omega (arith, c.requires.stretch_at.later)

pub overflow_add-result : goal.overflow_add-result
overflow_add-result c = omega (arith, i64-short (pos 0), u64-short (c.in-Absent.k - c.args.i))

pub overflow_sub-k-in-Repeat : goal.overflow_sub-k-in-Repeat
overflow_sub-k-in-Repeat c = let e = ap end_of c.in-Repeat.is in omega (arith, c.requires.stretch_at.later)

pub overflow_cast-k : goal.overflow_cast-k
overflow_cast-k c =
    let e = ap end_of c.in-Repeat.is in
    omega (arith, stretch-within _ _ c.requires.narrow.0.even _ _ c.requires.stretch_at)

pub offset_bounds-values-i : goal.offset_bounds-values-i
offset_bounds-values-i c =
    let l = (repeat-covers _ _ c.requires.narrow.0.even _ c.requires.stretch_at c.in-Repeat.is).0 in
    search rules

pub bounds-values-i : goal.bounds-values-i
bounds-values-i c = (repeat-covers _ _ c.requires.narrow.0.even _ c.requires.stretch_at c.in-Repeat.is).0

pub overflow_sub-values : goal.overflow_sub-values
overflow_sub-values c =
    let N = c.requires.narrow.0 in
    let l = repeat-covers _ _ N.even _ c.requires.stretch_at c.in-Repeat.is in
    taken-fits _ _ N _ l.0 l.1 (read_back c.len_i64-arg-1.given) (passed c.ranges.last ∙ c.requires.last_value)

pub overflow_add-result-in-Repeat : goal.overflow_add-result-in-Repeat
overflow_add-result-in-Repeat c =
    let a = c.args in
    let d = to_z w64 (of_z w64 (get_or a.values.now a.i (pos 0))) -ℤ to_z w64 (of_z w64 a.last) in
    omega (arith, i64-short (to_z w64 (of_z w64 c.repeat_count.result)), i64-short (to_z w64 (of_z w64 d)))

pub overflow_sub-k-in-Literal : goal.overflow_sub-k-in-Literal
overflow_sub-k-in-Literal c = let e = ap end_of c.in-Literal.is in omega (arith, c.requires.stretch_at.later)

pub overflow_cast-k-in-Literal : goal.overflow_cast-k-in-Literal
overflow_cast-k-in-Literal c =
    let e = ap end_of c.in-Literal.is in
    omega (arith, stretch-within _ _ c.requires.narrow.0.even _ _ c.requires.stretch_at)

pub literal_len-requires : goal.literal_len-requires
literal_len-requires c =
    let w = literal-covers _ _ c.requires.narrow.0.even _ c.requires.stretch_at c.in-Literal.is in
    record { narrow = c.requires.narrow; i_le_k = (w.0, w.1, w.2, passed c.ranges.last ∙ c.requires.last_value) }

pub overflow_add-result-in-Literal : goal.overflow_add-result-in-Literal
overflow_add-result-in-Literal c =
    let w = literal-covers _ _ c.requires.narrow.0.even _ c.requires.stretch_at c.in-Literal.is in
    omega (arith, i64-short (to_z w64 (of_z w64 c.literal_count.result)))

pub returns-in-Absent : goal.returns-in-Absent
returns-in-Absent c =
    let a = c.args in
    let q = absent-parts i64_e (pos 0) (diffs a.values.now a.present.now) a.i c.in-Absent.is in
    parts-length q c.len_i64.ensures c.len_u64.ensures

pub returns-in-Repeat : goal.returns-in-Repeat
returns-in-Repeat c =
    let v = c.args.values.now in
    let p = c.args.present.now in
    let N = c.requires.narrow.0 in
    let r = c.repeat_count in
    let e = c.in-Repeat.is in
    let l = repeat-covers v p N.even _ c.requires.stretch_at e in
    let b = taken_back v p N _ l.0 l.1 (read_back c.len_i64-arg-1.given) (passed c.ranges.last ∙ c.requires.last_value) in
    let q = repeat-parts i64_e (pos 0) (diffs v p) c.args.i e r.ensures r.type_inv in
    parts-length q c.len_i64-in-Repeat.ensures (c.len_i64-in-Repeat-2.ensures ∙ ap (λ (x : ℤ). length (i64_bytes x)) b)

pub returns-in-Literal : goal.returns-in-Literal
returns-in-Literal c =
    let h = c.requires.stretch_at in
    let r = c.literal_count in
    let p = literal-parts i64_e (pos 0) (diffs c.args.values.now c.args.present.now) c.args.i c.in-Literal.is r.ensures r.type_inv h.later h.within in
    parts-length p c.len_i64-in-Literal.ensures c.literal_len.ensures.0
