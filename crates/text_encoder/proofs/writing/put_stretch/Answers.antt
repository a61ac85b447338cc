-- `text_encoder::writing::put_stretch` meets its contract: each run is a count and what the count announces, put behind it. Assumes nothing.
use mathlib.Core.Path.{ap}
use native.Mathlib.Omega.{arith}
use Rattle.encoding.specs.Ahead.{end_of}
use Rattle.encoding.proofs.StretchParts.{first_fits, second_fits, parts-put}
use Rattle.text.specs.Text.{text_e}
use Rattle.text.specs.Given.{name_list}
use Rattle.text_encoder.proofs.Passing.{walk_first}
use Rattle.encoding.proofs.Written.{absent-in, repeat-in, literal-in}
use Rattle.text_encoder.proofs.writing.put_stretch.Goals as goal

pub put_count-q-requires : goal.put_count-q-requires
put_count-q-requires c =
    let q = absent-in text_e _ c.in-Absent.is in
    first_fits q _ _ c.requires.stretch_in_bounds

pub put_number-requires : goal.put_number-requires
put_number-requires c =
    let q = absent-in text_e _ c.in-Absent.is in
    let p = c.requires in
    let n = c.put_count-q in
    second_fits q p.stretch_in_bounds n.ensures n.auto.out

pub overflow_cast-k : goal.overflow_cast-k
overflow_cast-k c =
    let p = c.requires in
    let e = ap end_of c.in-Repeat.is in
    omega (arith, p.s_len_bound, p.stretch_nonzero.1)

pub put_count-q-requires-in-Repeat : goal.put_count-q-requires-in-Repeat
put_count-q-requires-in-Repeat c =
    let a = c.args in
    let p = c.requires in
    let new = name_list a.bytes.now a.starts.now a.lens.now a.present.now in
    let r = c.repeat_count in
    let f = walk_first a.column.now a.bytes.now new a.s p.times_nonzero.0 in
    let e = c.in-Repeat.is in
    let q = repeat-in text_e _ e f p.times_nonzero.1 r.ensures r.type_inv in
    first_fits q _ _ p.stretch_in_bounds

pub put_held-requires : goal.put_held-requires
put_held-requires c =
    let a = c.args in
    let p = c.requires in
    let new = name_list a.bytes.now a.starts.now a.lens.now a.present.now in
    let r = c.repeat_count in
    let f = walk_first a.column.now a.bytes.now new a.s p.times_nonzero.0 in
    let e = c.in-Repeat.is in
    let q = repeat-in text_e _ e f p.times_nonzero.1 r.ensures r.type_inv in
    record { within = p.«at».within; held_in_bounds = second_fits q p.stretch_in_bounds c.put_count-q-in-Repeat.ensures c.put_count-q-in-Repeat.auto.out }

pub overflow_cast-k-in-Literal : goal.overflow_cast-k-in-Literal
overflow_cast-k-in-Literal c =
    let p = c.requires in
    let e = ap end_of c.in-Literal.is in
    omega (arith, p.s_len_bound, p.stretch_nonzero.1)

pub put_count-q-requires-in-Literal : goal.put_count-q-requires-in-Literal
put_count-q-requires-in-Literal c =
    let p = c.requires in
    let r = c.literal_count in
    let e = c.in-Literal.is in
    let q = literal-in text_e _ e p.times_nonzero.1 p.stretch_nonzero.0 r.ensures r.type_inv in
    first_fits q _ _ p.stretch_in_bounds

pub put_literal-requires : goal.put_literal-requires
put_literal-requires c =
    let p = c.requires in
    let r = c.literal_count in
    let e = c.in-Literal.is in
    let q = literal-in text_e _ e p.times_nonzero.1 p.stretch_nonzero.0 r.ensures r.type_inv in
    let z = ap end_of e in
    let f = second_fits q p.stretch_in_bounds c.put_count-q-in-Literal.ensures c.put_count-q-in-Literal.auto.out in
    record { pairs = c.requires.pairs; «at» = p.«at»; k_in_bounds = (omega (arith, p.stretch_nonzero.1), f) }

pub returns-in-Absent : goal.returns-in-Absent
returns-in-Absent c =
    let q = absent-in text_e _ c.in-Absent.is in
    parts-put q c.put_count-q.ensures c.put_number.ensures

pub returns-in-Repeat : goal.returns-in-Repeat
returns-in-Repeat c =
    let a = c.args in
    let p = c.requires in
    let new = name_list a.bytes.now a.starts.now a.lens.now a.present.now in
    let r = c.repeat_count in
    let f = walk_first a.column.now a.bytes.now new a.s p.times_nonzero.0 in
    let e = c.in-Repeat.is in
    let q = repeat-in text_e _ e f p.times_nonzero.1 r.ensures r.type_inv in
    parts-put q c.put_count-q-in-Repeat.ensures c.put_held.ensures

pub returns-in-Literal : goal.returns-in-Literal
returns-in-Literal c =
    let p = c.requires in
    let r = c.literal_count in
    let e = c.in-Literal.is in
    let q = literal-in text_e _ e p.times_nonzero.1 p.stretch_nonzero.0 r.ensures r.type_inv in
    parts-put q c.put_count-q-in-Literal.ensures c.put_literal.ensures
