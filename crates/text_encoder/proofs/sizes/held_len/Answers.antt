-- `text_encoder::sizes::held_len` meets its contract: a length number and as many bytes. Assumes nothing.
use mathlib.Core.Path.{sym, ◌∙◌, ap}
use native.Mathlib.Omega.{arith}
use Rattle.encoding.specs.Cases.{fit}
use Rattle.text_encoder.specs.Walks.{size_in}
use Rattle.text_encoder.specs.declared.walk.Held.{Held}
use Rattle.encoding.proofs.Fits.{fit_is}
use Rattle.text_encoder.proofs.sizes.held_len.Goals as goal

pub returns-in-Absent : goal.returns-in-Absent
returns-in-Absent c = fit_is 0 (omega arith) ∙ sym (ap (λ (h : Held). fit (size_in h)) c.in-Absent.is)

pub returns-in-Old : goal.returns-in-Old
returns-in-Old c = rw (c.in-Old.is, ← c.len_u64.ensures) c.sum.ensures

pub returns-in-New : goal.returns-in-New
returns-in-New c = rw (c.in-New.is, ← c.len_u64-in-New.ensures) c.sum-in-New.ensures
