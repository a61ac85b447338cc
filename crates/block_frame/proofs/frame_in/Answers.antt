-- `block_frame::frame_in` meets its contract: one law for each way out. Assumes nothing.
use mathlib.Core.Path.{sym, ◌∙◌, ap}
use native.Mathlib.Omega.{arith}
use lib.ListN.{length}
use Rattle.block_frame.specs.Frame.{Framed, frame_of, frame_out}
use Rattle.block_frame.proofs.Framing.{before, behind, rows_are, row_within, frame-length, frame-short, frame-room, frame-eq}
use Rattle.block_frame.proofs.frame_in.Goals as goal

pub overflow_add-start : goal.overflow_add-start
overflow_add-start c =
    let w = row_within c.requires in
    omega (arith, c.well_formed.0)

pub overflow_add-end : goal.overflow_add-end
overflow_add-end c =
    let w = row_within c.requires in
    omega (arith, c.well_formed.0)

pub table_len-requires : goal.table_len-requires
table_len-requires c = omega (arith, rows_are c.requires, c.requires.few)

pub overflow_sub-fixed : goal.overflow_sub-fixed
overflow_sub-fixed c =
    let w = row_within c.requires in
    omega arith

pub overflow_add-fixed : goal.overflow_add-fixed
overflow_add-fixed c =
    let w = row_within c.requires in
    omega (arith, c.well_formed.0, c.table_len.ensures.1)

pub overflow_sub-fixed-2 : goal.overflow_sub-fixed-2
overflow_sub-fixed-2 c =
    let w = row_within c.requires in
    omega arith

pub overflow_add-fixed-2 : goal.overflow_add-fixed-2
overflow_add-fixed-2 c =
    let w = row_within c.requires in
    omega (arith, c.well_formed.0, c.table_len.ensures.1)

pub returns-then-out-fixed : goal.returns-then-out-fixed
returns-then-out-fixed c =
    let e = frame-length c.requires c.args.size c.table_len.result c.table_len.ensures.0 in
    let r = frame-short c.requires c.args.size (length c.args.out.now) (omega (arith, c.if-out-fixed.true)) in
    record { value = ap (frame_of c.args.size) (sym r); out_after = ap (λ (z : Framed). frame_out c.args.size z c.args.out.now) (sym r) }

pub returns-then-out-fixed-2 : goal.returns-then-out-fixed-2
returns-then-out-fixed-2 c =
    let e = frame-length c.requires c.args.size c.table_len.result c.table_len.ensures.0 in
    let r = frame-short c.requires c.args.size (length c.args.out.now) (omega (arith, c.if-out-fixed.false, c.if-out-fixed-2.true)) in
    record { value = ap (frame_of c.args.size) (sym r); out_after = ap (λ (z : Framed). frame_out c.args.size z c.args.out.now) (sym r) }

pub slice_bounds-put_around-count : goal.slice_bounds-put_around-count
slice_bounds-put_around-count c =
    let w = row_within c.requires in
    omega arith

pub slice_bounds-put_around-start : goal.slice_bounds-put_around-start
slice_bounds-put_around-start c =
    let w = row_within c.requires in
    omega arith

pub slice_bounds-put_around-end : goal.slice_bounds-put_around-end
slice_bounds-put_around-end c =
    let w = row_within c.requires in
    omega arith

pub slice_bounds-put_around-count-2 : goal.slice_bounds-put_around-count-2
slice_bounds-put_around-count-2 c =
    let w = row_within c.requires in
    omega arith

pub slice_bounds-put_around-start-2 : goal.slice_bounds-put_around-start-2
slice_bounds-put_around-start-2 c =
    let w = row_within c.requires in
    omega arith

pub put_around-at-requires : goal.put_around-at-requires
put_around-at-requires c =
    let e = frame-length c.requires c.args.size c.table_len.result c.table_len.ensures.0 in
    omega (arith, c.if-out-fixed.false, c.if-out-fixed-2.false)

pub overflow_add-result : goal.overflow_add-result
overflow_add-result c =
    let if2 = c.if-out-fixed-2 in
    omega (arith, c.if-out-fixed.false, if2.false, c.well_formed)

pub returns : goal.returns
returns c =
    let table-len = c.table_len in
    let if1 = c.if-out-fixed in
    let if2 = c.if-out-fixed-2 in
    let put-around = c.put_around-at in
    let e = frame-length c.requires c.args.size table-len.result table-len.ensures.0 in
    let size = c.args.size in
    let b = before c.args.block.now c.args.table c.args.next c.args.position size in
    let z = behind c.args.block.now c.args.table c.args.next c.args.position in
    let r = frame-room c.requires size (length c.args.out.now) (omega (arith, if1.false, if2.false)) in record {
      value = frame-eq _ _ size b z put-around.ensures.0 e ∙ ap (frame_of size) (sym r);
      out_after = put-around.ensures.1
          ∙ ap (λ (y : Framed). frame_out size y c.args.out.now) (sym r);
    }
