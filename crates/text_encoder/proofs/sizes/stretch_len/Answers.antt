-- `text_encoder::sizes::stretch_len` meets its contract: each run is a count and what the count announces. Assumes nothing.
use mathlib.Core.Path.{refl, sym, ◌∙◌, ap}
use native.Mathlib.Omega.{arith}
use lib.IntN.{pos}
use Rattle.leb128.proofs.Laws.{u64-short, i64-short}
use Rattle.encoding.specs.Ahead.{end_of}
use Rattle.encoding.proofs.StretchParts.{parts-length}
use Rattle.text.specs.Text.{text_e}
use Rattle.text.specs.Given.{name_list}
use Rattle.encoding.specs.Cases.{fit}
use Rattle.encoding.proofs.Fits.{fit_is}
use Rattle.text_encoder.proofs.Passing.{held-length, walk_first}
use Rattle.encoding.proofs.Written.{absent-in, repeat-in, literal-in}
use Rattle.text_encoder.proofs.sizes.stretch_len.Goals as goal

pub overflow_add-result : goal.overflow_add-result
overflow_add-result c = omega (arith, c.len_i64.ensures, i64-short (pos 0), c.len_u64.ensures, u64-short c.in-Absent.k)

pub overflow_cast-k : goal.overflow_cast-k
overflow_cast-k c =
    let p = c.requires in
    let e = ap end_of c.in-Repeat.is in
    omega (arith, p.s_len_bound, p.stretch_nonzero.1)

pub overflow_cast-k-in-Literal : goal.overflow_cast-k-in-Literal
overflow_cast-k-in-Literal c =
    let p = c.requires in
    let e = ap end_of c.in-Literal.is in
    omega (arith, p.s_len_bound, p.stretch_nonzero.1)

pub literal_len-requires : goal.literal_len-requires
literal_len-requires c =
    let p = c.requires in
    let e = ap end_of c.in-Literal.is in
    record { pairs = p.pairs; «at» = p.«at»; k_in_bounds = omega (arith, p.stretch_nonzero.1) }

pub returns-in-Absent : goal.returns-in-Absent
returns-in-Absent c =
    let k = c.in-Absent.k in
    let z = parts-length (absent-in text_e _ c.in-Absent.is) c.len_i64.ensures c.len_u64.ensures in
    fit_is _ (omega (arith, c.len_i64.ensures, i64-short (pos 0), c.len_u64.ensures, u64-short k)) ∙ ap fit z

pub returns-in-Repeat : goal.returns-in-Repeat
returns-in-Repeat c =
    let a = c.args in
    let p = c.requires in
    let new = name_list a.bytes.now a.starts.now a.lens.now a.present.now in
    let r = c.repeat_count in
    let f = walk_first a.column.now a.bytes.now new a.s p.times_nonzero.0 in
    let q = repeat-in text_e _ c.in-Repeat.is f p.times_nonzero.1 r.ensures r.type_inv in
    let h = held-length a.column.now a.bytes.now a.s.held p.«at».within in
    c.counted.ensures ∙ ap fit (parts-length q c.len_i64-in-Repeat.ensures (sym h))

pub returns-in-Literal : goal.returns-in-Literal
returns-in-Literal c =
    let p = c.requires in
    let r = c.literal_count in
    let q = literal-in text_e _ c.in-Literal.is p.times_nonzero.1 p.stretch_nonzero.0 r.ensures r.type_inv in
    c.literal_len.ensures ∙ ap fit (parts-length q c.len_i64-in-Literal.ensures refl)
