-- `rle_encoder::put_stretch` meets its contract: each run is a count and what the count announces, put behind it. Assumes nothing.
use mathlib.Core.Path.{ap}
use native.Mathlib.Omega.{arith}
use Rattle.encoding.specs.Ahead.{end_of}
use Rattle.rle_decoder.specs.Word.{u64_e}
use Rattle.encoding.proofs.StretchParts.{absent-parts, repeat-parts, literal-parts, first_fits, second_fits, parts-put}
use Rattle.rle_encoder.proofs.put_stretch.Goals as goal

pub put_count-q-requires : goal.put_count-q-requires
put_count-q-requires c =
    let p = absent-parts u64_e 0 c.args.values.now c.args.i c.in-Absent.is in
    first_fits p _ _ c.requires.stretch_in_bounds

pub overflow_sub-k : goal.overflow_sub-k
overflow_sub-k c =
    let e = ap end_of c.in-Absent.is in
    omega (arith, c.requires.i_bound.0)

pub put_number-requires : goal.put_number-requires
put_number-requires c =
    let n = c.put_count-q in
    let p = absent-parts u64_e 0 c.args.values.now c.args.i c.in-Absent.is in
    second_fits p c.requires.stretch_in_bounds n.ensures n.auto.out

pub overflow_sub-k-in-Repeat : goal.overflow_sub-k-in-Repeat
overflow_sub-k-in-Repeat c =
    let e = ap end_of c.in-Repeat.is in
    omega (arith, c.requires.i_bound.0)

pub overflow_cast-k : goal.overflow_cast-k
overflow_cast-k c =
    let e = ap end_of c.in-Repeat.is in
    omega (arith, c.requires.i_bound.1)

pub put_count-q-requires-in-Repeat : goal.put_count-q-requires-in-Repeat
put_count-q-requires-in-Repeat c =
    let r = c.repeat_count in
    let p = repeat-parts u64_e 0 c.args.values.now c.args.i c.in-Repeat.is r.ensures r.type_inv in
    first_fits p _ _ c.requires.stretch_in_bounds

pub put_number-requires-in-Repeat : goal.put_number-requires-in-Repeat
put_number-requires-in-Repeat c =
    let r = c.repeat_count in
    let n = c.put_count-q-in-Repeat in
    let e = c.in-Repeat.is in
    let p = repeat-parts u64_e 0 c.args.values.now c.args.i e r.ensures r.type_inv in
    second_fits p c.requires.stretch_in_bounds n.ensures n.auto.out

pub overflow_sub-k-in-Literal : goal.overflow_sub-k-in-Literal
overflow_sub-k-in-Literal c =
    let e = ap end_of c.in-Literal.is in
    omega (arith, c.requires.i_bound.0)

pub overflow_cast-k-in-Literal : goal.overflow_cast-k-in-Literal
overflow_cast-k-in-Literal c =
    let e = ap end_of c.in-Literal.is in
    omega (arith, c.requires.i_bound.1)

pub put_count-q-requires-in-Literal : goal.put_count-q-requires-in-Literal
put_count-q-requires-in-Literal c =
    let h = c.requires.i_bound in
    let r = c.literal_count in
    let e = c.in-Literal.is in
    let p = literal-parts u64_e 0 c.args.values.now c.args.i e r.ensures r.type_inv h.0 h.1 in
    first_fits p _ _ c.requires.stretch_in_bounds

pub put_literal-requires : goal.put_literal-requires
put_literal-requires c =
    let h = c.requires.i_bound in
    let r = c.literal_count in
    let n = c.put_count-q-in-Literal in
    let e = c.in-Literal.is in
    let z = ap end_of e in
    let p = literal-parts u64_e 0 c.args.values.now c.args.i e r.ensures r.type_inv h.0 h.1 in
    (omega arith, omega arith, second_fits p c.requires.stretch_in_bounds n.ensures n.auto.out)

pub returns-in-Absent : goal.returns-in-Absent
returns-in-Absent c =
    let a = c.args in
    let e = c.in-Absent.is in
    parts-put (absent-parts u64_e 0 a.values.now a.i e) c.put_count-q.ensures c.put_number.ensures

pub returns-in-Repeat : goal.returns-in-Repeat
returns-in-Repeat c =
    let a = c.args in
    let r = c.repeat_count in
    let n = c.put_count-q-in-Repeat in
    let e = c.in-Repeat.is in
    parts-put (repeat-parts u64_e 0 a.values.now a.i e r.ensures r.type_inv) n.ensures c.put_number-in-Repeat.ensures

pub returns-in-Literal : goal.returns-in-Literal
returns-in-Literal c =
    let h = c.requires.i_bound in
    let r = c.literal_count in
    let n = c.put_count-q-in-Literal in
    let e = c.in-Literal.is in
    let p = literal-parts u64_e 0 c.args.values.now c.args.i e r.ensures r.type_inv h.0 h.1 in
    parts-put p n.ensures c.put_literal.ensures
