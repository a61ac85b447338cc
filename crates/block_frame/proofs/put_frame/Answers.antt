-- `block_frame::put_frame` meets its contract: a refusal of the table, a position past its rows, or the frame. Assumes nothing.
use mathlib.Core.Path.{refl, sym, ap}
use native.Mathlib.Omega.{arith}
use lib.ListN.{length}
use Rattle.std.proofs.lemmas.Result.{err_from_is_err_and}
use Rattle.refusal.proofs.Numbered.{some}
use Rattle.block_frame.specs.Frame.{Framed, frame_of, frame_out}
use Rattle.raw_column.proofs.Opening.{open-bad, open-good, rows_long}
use Rattle.block_frame.proofs.Framing.{framed-bad, framed-16}
use Rattle.block_frame.proofs.put_frame.Goals as goal

pub returns-in_err-o : goal.returns-in_err-o
returns-in_err-o c =
    let a = c.args in
    let p = err_from_is_err_and c.from_residual.result c.from_residual.ensures.1 in
    let r = framed-bad a.block.now a.position a.size (length a.out.now)
    (open-bad a.block.now c.in_err-o.ensures (some c.in_err-o.field-0.0.0)) in
    record {
      value = rw (p.1, p.2) (ap (frame_of a.size) (sym r));
      out_after = ap (λ (z : Framed). frame_out a.size z a.out.now) (sym r);
    }

pub returns-then-o-position : goal.returns-then-o-position
returns-then-o-position c =
    let a = c.args in
    let g = open-good a.block.now c.in_ok-o.ensures refl in
    let r = framed-16 a.block.now a.position a.size (length a.out.now) _ _ _ g.is
    (omega (arith, rows_long g, c.if-o-position.true)) in
    record { value = ap (frame_of a.size) (sym r); out_after = ap (λ (z : Framed). frame_out a.size z a.out.now) (sym r) }

pub frame_in-requires : goal.frame_in-requires
frame_in-requires c =
    let g = open-good c.args.block.now c.in_ok-o.ensures refl in
    record {
      is = g.is;
      there = c.if-o-position.false;
      few = g.small;
      specs_long = g.specs_long;
      lens_long = g.lens_long;
      start = g.starts-are _ c.if-o-position.false;
    }
