-- `rle_encoder::stretch_len` meets its contract: each run is a count and what the count announces. Assumes nothing.
use Prim.Native.Nat.{◌-◌}
use mathlib.Core.Path.{ap}
use native.Mathlib.Omega.{arith}
use lib.IntN.{pos}
use lib.ListN.{get_or}
use mir.Syntax.{w64}
use mir.Val.{to_z, of_z}
use Rattle.leb128.proofs.Laws.{u64-short, i64-short}
use Rattle.encoding.specs.Ahead.{end_of}
use Rattle.rle_decoder.specs.Word.{u64_e}
use Rattle.encoding.proofs.StretchParts.{absent-parts, repeat-parts, literal-parts, parts-length}
use Rattle.rle_encoder.proofs.stretch_len.Goals as goal

pub overflow_sub-k : goal.overflow_sub-k
overflow_sub-k c = let e = ap end_of c.in-Absent.is in omega arith

pub overflow_add-result : goal.overflow_add-result
overflow_add-result c =
    let a = c.args in
    omega (arith, i64-short (pos 0), u64-short (c.in-Absent.k - a.i))

pub overflow_sub-k-in-Repeat : goal.overflow_sub-k-in-Repeat
overflow_sub-k-in-Repeat c = let e = ap end_of c.in-Repeat.is in omega arith

pub overflow_cast-k : goal.overflow_cast-k
overflow_cast-k c = let e = ap end_of c.in-Repeat.is in omega arith

pub overflow_add-result-in-Repeat : goal.overflow_add-result-in-Repeat
overflow_add-result-in-Repeat c =
    let a = c.args in
    let r = c.repeat_count.result in
    omega (arith, i64-short (to_z w64 (of_z w64 r)), u64-short (get_or a.values.now a.i 0))

pub overflow_sub-k-in-Literal : goal.overflow_sub-k-in-Literal
overflow_sub-k-in-Literal c = let e = ap end_of c.in-Literal.is in omega arith

pub overflow_cast-k-in-Literal : goal.overflow_cast-k-in-Literal
overflow_cast-k-in-Literal c = let e = ap end_of c.in-Literal.is in omega arith

pub literal_len-requires : goal.literal_len-requires
literal_len-requires c = let e = ap end_of c.in-Literal.is in (omega arith, omega arith, omega arith)

pub overflow_add-result-in-Literal : goal.overflow_add-result-in-Literal
overflow_add-result-in-Literal c =
    let e = ap end_of c.in-Literal.is in
    omega (arith, i64-short (to_z w64 (of_z w64 c.literal_count.result)))

pub returns-in-Absent : goal.returns-in-Absent
returns-in-Absent c =
    let a = c.args in
    let e = c.in-Absent.is in
    parts-length (absent-parts u64_e 0 a.values.now a.i e) c.len_i64.ensures c.len_u64.ensures

pub returns-in-Repeat : goal.returns-in-Repeat
returns-in-Repeat c =
    let a = c.args in
    let r = c.repeat_count in
    let e = c.in-Repeat.is in
    parts-length (repeat-parts u64_e 0 a.values.now a.i e r.ensures r.type_inv) c.len_i64-in-Repeat.ensures c.len_u64-in-Repeat.ensures

pub returns-in-Literal : goal.returns-in-Literal
returns-in-Literal c =
    let r = c.literal_count in
    let e = c.in-Literal.is in
    let p = literal-parts u64_e 0 c.args.values.now c.args.i e r.ensures r.type_inv c.requires.0 c.requires.1 in
    parts-length p c.len_i64-in-Literal.ensures c.literal_len.ensures.0
