-- `text_encoder::range::put_block_text` meets its contract: refused, or the column put into the frame and the slots filled from it. Assumes nothing.
use Prim.Native.Nat.{ℕ, ◌-◌, ◌<◌}
use mathlib.Core.Path.{◌≡◌, refl, sym, ◌∙◌, ap, subst}
use mathlib.Core.List.{List}
use native.Mathlib.Omega.{arith}
use Rattle.std.proofs.lemmas.Result.{err_from_is_err_and}
use Rattle.refusal.proofs.Numbered.{some}
use lib.ListN.{length, get_or, take, drop}
use Rattle.encoding.specs.Writer.{column_bytes}
use Rattle.text.specs.Text.{text_e}
use Rattle.splice.specs.Edit.{end_in, Spliced}
use Rattle.splice.specs.Kinds.{text}
use Rattle.splice.specs.Ready.{put_behind}
use Rattle.splice.proofs.Writing.{finish-short, finish-room, finish-done}
use Rattle.text_encoder.specs.Edits.{new_names, Refillable}
use Rattle.text_encoder.proofs.EditedNames.{names-many, names-spliceable, names-short, names-refillable, names-done}
use Rattle.text_encoder.proofs.Refilling.{put-part, take-bytes, drop-bytes, refilled-of}
use Rattle.text_encoder.proofs.range.put_block_text.Goals as goal

pub returns-in_err-frame : goal.returns-in_err-frame
returns-in_err-frame c =
    let a = c.args in
    let R = c.requires.ready in
    let b = a.block.now in
    let col = take (a.found.till - a.found.at) (drop a.found.at b) in
    let xs = new_names col a.bytes.now a.new_starts.now a.new_lens.now a.new_present.now a.start (end_in a.end a.found.old) in
    let o = a.out.now in
    let k = some c.in_err-frame.field-0.0.0 in
    let F = finish-short text R.located.row xs o refl c.requires.size_value c.in_err-frame.ensures.value c.in_err-frame.ensures.out_after k refl in
    let p = err_from_is_err_and c.from_residual.result c.from_residual.ensures.1 in
    rw (p.1, p.2) (names-short a.bytes.now a.new_starts.now a.new_lens.now a.new_present.now a.starts.now a.lens.now a.present.now R c.requires.new_present_value o F k)

pub put_new-requires : goal.put_new-requires
put_new-requires c =
    let a = c.args in
    let R = c.requires.ready in
    let b = a.block.now in
    let col = take (a.found.till - a.found.at) (drop a.found.at b) in
    let xs = new_names col a.bytes.now a.new_starts.now a.new_lens.now a.new_present.now a.start (end_in a.end a.found.old) in
    let W = column_bytes text_e xs in
    let o = a.out.now in
    let m = finish-room text R.located.row xs o refl c.requires.size_value c.in_ok-frame.ensures.value c.in_ok-frame.ensures.out_after refl in
    let e : c.end_in.result ≡ end_in a.end a.found.old = c.end_in.ensures in
    let w : length (column_bytes text_e (new_names col a.bytes.now a.new_starts.now a.new_lens.now a.new_present.now a.start c.end_in.result)) ≡ length W =
    ap (λ (k : ℕ). length (column_bytes text_e (new_names col a.bytes.now a.new_starts.now a.new_lens.now a.new_present.now a.start k))) e in record { at_le_till = (omega (arith, R.located.at_is, R.located.till_is), R.located.ends); spliceable = names-spliceable a.bytes.now a.new_starts.now a.new_lens.now a.new_present.now a.starts.now a.lens.now a.present.now R c.requires.new_present_value e; end_in_bounds = omega (arith, m.roomy, w, c.put_frame.auto) }

pub refill_from-requires : goal.refill_from-requires
refill_from-requires c =
    let a = c.args in
    let R = c.requires.ready in
    let b = a.block.now in
    let col = take (a.found.till - a.found.at) (drop a.found.at b) in
    let xs = new_names col a.bytes.now a.new_starts.now a.new_lens.now a.new_present.now a.start (end_in a.end a.found.old) in
    let W = column_bytes text_e xs in
    let o = a.out.now in
    let m = finish-room text R.located.row xs o refl c.requires.size_value c.in_ok-frame.ensures.value c.in_ok-frame.ensures.out_after refl in
    let e : c.end_in.result ≡ end_in a.end a.found.old = c.end_in.ensures in
    let W' = column_bytes text_e (new_names col a.bytes.now a.new_starts.now a.new_lens.now a.new_present.now a.start c.end_in.result) in
    let w : W' ≡ W = ap (λ (k : ℕ). column_bytes text_e (new_names col a.bytes.now a.new_starts.now a.new_lens.now a.new_present.now a.start k)) e in
    let byte : (i : ℕ) → get_or col i 0 < 256 = take-bytes (a.found.till - a.found.at) (drop a.found.at b) (drop-bytes a.found.at b (λ i. omega (arith, c.shared_slice_known-1.given i))) in
    let h : a.size ≡ length W = c.requires.size_value in
    let f = c.in_ok-frame.frame.at in
    let mid = c.put_frame.new.out in
    let q = put-part f mid W W' c.put_new.ensures w h c.put_frame.auto.out m.roomy in record {
      size_in_bounds = omega (arith, m.roomy, h, c.put_new.auto, c.put_frame.auto);
      refillable = subst (λ (x : List ℕ). Refillable x c.longer.result (length a.starts.now) (length a.lens.now) (length a.present.now)) (sym q)
          (names-refillable a.bytes.now a.new_starts.now a.new_lens.now a.new_present.now a.starts.now a.lens.now a.present.now R c.requires.new_present_value
          byte (omega (arith, c.well_formed)) c.longer.ensures);
    }

pub shape_of-out : goal.shape_of-out
shape_of-out c = omega (arith, c.put_new.auto, c.put_frame.auto)

pub returns : goal.returns
returns c =
    let a = c.args in
    let R = c.requires.ready in
    let b = a.block.now in
    let col = take (a.found.till - a.found.at) (drop a.found.at b) in
    let xs = new_names col a.bytes.now a.new_starts.now a.new_lens.now a.new_present.now a.start (end_in a.end a.found.old) in
    let W = column_bytes text_e xs in
    let o = a.out.now in
    let m = finish-room text R.located.row xs o refl c.requires.size_value c.in_ok-frame.ensures.value c.in_ok-frame.ensures.out_after refl in
    let e : c.end_in.result ≡ end_in a.end a.found.old = c.end_in.ensures in
    let W' = column_bytes text_e (new_names col a.bytes.now a.new_starts.now a.new_lens.now a.new_present.now a.start c.end_in.result) in
    let w : W' ≡ W = ap (λ (k : ℕ). column_bytes text_e (new_names col a.bytes.now a.new_starts.now a.new_lens.now a.new_present.now a.start k)) e in
    let byte : (i : ℕ) → get_or col i 0 < 256 = take-bytes (a.found.till - a.found.at) (drop a.found.at b) (drop-bytes a.found.at b (λ i. omega (arith, c.shared_slice_known-1.given i))) in
    let h : a.size ≡ length W = c.requires.size_value in
    let f = c.in_ok-frame.frame.at in
    let mid = c.put_frame.new.out in
    let q = put-part f mid W W' c.put_new.ensures w h c.put_frame.auto.out m.roomy in
    let F = finish-done text R.located.row xs o refl c.requires.size_value c.in_ok-frame.ensures.value c.in_ok-frame.ensures.out_after m (omega (arith, c.well_formed)) (omega (arith, c.well_formed))
    (sym (names-many a.bytes.now a.new_starts.now a.new_lens.now a.new_present.now a.starts.now a.lens.now a.present.now R c.requires.new_present_value))
    (c.put_new.ensures ∙ ap (λ (x : List ℕ). put_behind f x mid) w) c.block_answer.ensures in
    names-done a.bytes.now a.new_starts.now a.new_lens.now a.new_present.now a.starts.now a.lens.now a.present.now R c.requires.new_present_value
    byte (omega (arith, c.well_formed)) c.longer.ensures m.fits (refilled-of q c.refill_from.ensures) F
