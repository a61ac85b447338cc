-- `text_encoder::sizes::column_len` meets its contract: a reading is present, or there are no bytes. Assumes nothing.
use Prim.Native.Nat.{ℕ}
use mathlib.Core.Path.{sym, ◌∙◌, ap}
use mathlib.Core.List.{List}
use native.Mathlib.Omega.{arith}
use lib.ListN.{length}
use Rattle.encoding.specs.Cases.{fit}
use Rattle.encoding.proofs.Fits.{fit_is}
use Rattle.encoding.proofs.Written.{column-some, column-none}
use Rattle.text.specs.Text.{text_e}
use Rattle.text_encoder.proofs.sizes.column_len.Goals as goal

pub returns-then-not-any_present : goal.returns-then-not-any_present
returns-then-not-any_present c =
    let e = sym c.any_present.ensures ∙ c.if-not-any_present.true in
    fit_is 0 (omega arith) ∙ sym (ap (λ (b : List ℕ). fit (length b)) (column-none text_e _ e))

pub returns : goal.returns
returns c =
    let e = sym c.any_present.ensures ∙ c.if-not-any_present.false in
    c.bytes_len.ensures ∙ sym (ap (λ (b : List ℕ). fit (length b)) (column-some text_e _ e))
