-- `text_encoder::range::edit_text` meets its contract: the size first, and 10 where no output can have it. Assumes nothing.
use Prim.Native.Nat.{ℕ, ◌-◌}
use mathlib.Core.Path.{refl, sym, ◌∙◌, ap}
use native.Mathlib.Omega.{arith}
use lib.ListN.{length, take, drop}
use Rattle.encoding.specs.Writer.{column_bytes}
use Rattle.text.specs.Text.{text_e}
use Rattle.encoding.proofs.Via.{via}
use Rattle.encoding.specs.Cases.{maybe_of, fit}
use Rattle.text_encoder.specs.Edits.{new_names}
use Rattle.encoding.proofs.Fits.{is-fit}
use Rattle.text_encoder.proofs.EditedNames.{names-spliceable, names-beyond}
use Rattle.text_encoder.proofs.range.edit_text.Goals as goal

pub new_len-size-requires : goal.new_len-size-requires
new_len-size-requires c =
    let a = c.args in
    let R = c.requires.ready in record { at_le_till = (omega (arith, R.located.at_is, R.located.till_is), R.located.ends); spliceable = names-spliceable a.bytes.now a.new_starts.now a.new_lens.now a.new_present.now a.starts.now a.lens.now a.present.now R c.requires.new_present_value c.end_in.ensures }

pub put_block_text-requires : goal.put_block_text-requires
put_block_text-requires c =
    let a = c.args in
    let R = c.requires.ready in
    let col = take (a.found.till - a.found.at) (drop a.found.at a.block.now) in
    let size : ℕ → ℕ = λ k. length (column_bytes text_e (new_names col a.bytes.now a.new_starts.now a.new_lens.now a.new_present.now a.start k)) in
    let n = is-fit (size c.end_in.result) _ (sym (via maybe_of c.new_len-size.ensures c.in-Some.is)) in
    record { ready = R; new_present_value = c.requires.new_present_value; size_value = n.0 ∙ ap size c.end_in.ensures }

pub returns-in-None : goal.returns-in-None
returns-in-None c =
    let a = c.args in
    let R = c.requires.ready in
    let col = take (a.found.till - a.found.at) (drop a.found.at a.block.now) in
    let size : ℕ → ℕ = λ k. length (column_bytes text_e (new_names col a.bytes.now a.new_starts.now a.new_lens.now a.new_present.now a.start k)) in
    let e = sym (via maybe_of c.new_len-size.ensures c.in-None.is) ∙ ap (λ (k : ℕ). fit (size k)) c.end_in.ensures in
    names-beyond a.bytes.now a.new_starts.now a.new_lens.now a.new_present.now a.starts.now a.lens.now a.present.now R c.requires.new_present_value
    a.out.now (omega (arith, c.well_formed)) e refl
