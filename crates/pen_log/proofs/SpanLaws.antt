-- The entry that was read, as the struct that says which splice it is: one law for each kind. Assumes nothing.
use Prim.Native.Nat.{ℕ, ◌+◌}
use mathlib.Core.Path.{◌≡◌, refl, sym, ap, ◌∙◌}
use native.Mathlib.Omega.{arith}
use lib.IntN.{ℤ, pos}
use Rattle.leb128.specs.Got.{Got, got, bad}
use Rattle.pen_log.specs.Entry.{Entry, insert, insert_absent, remove, change}
use Rattle.pen_log.specs.Spans.{SpanOf}
use Rattle.pen_log.specs.declared.Span.{Span}

abbrev at : ℕ → ℕ → ℕ → ℤ → ℕ → ℕ → Span
at start end new value flag next = record { start = start; end = end; new = new; value = value; flag = flag; next = next }

module _ {r : Span} {g : Got Entry} {i next : ℕ} where
  pub span-insert : {x y : ℤ} → r ≡ at i (i + 0) 1 y 1 next → y ≡ x → g ≡ got (insert i x) next → SpanOf r g
  span-insert {x} e w q = rw (e, w) (record { entry = insert i x; is = q; span = record { start = refl; end = omega arith; many = refl; values = refl; flags = refl } })

  pub span-insert-absent : r ≡ at i (i + 0) 1 (pos 0) 0 next → g ≡ got (insert_absent i) next → SpanOf r g
  span-insert-absent e q = rw e (record { entry = insert_absent i; is = q; span = record { start = refl; end = omega arith; many = refl; values = refl; flags = refl } })

  pub span-remove : {x : ℤ} {flag : ℕ} → r ≡ at i (i + 1) 0 x flag next → g ≡ got (remove i) next → SpanOf r g
  span-remove e q = rw e (record { entry = remove i; is = q; span = record { start = refl; end = omega arith; many = refl; values = refl; flags = refl } })

  pub span-change : {x y : ℤ} → r ≡ at i (i + 1) 1 y 1 next → y ≡ x → g ≡ got (change i x) next → SpanOf r g
  span-change {x} e w q = rw (e, w) (record { entry = change i x; is = q; span = record { start = refl; end = omega arith; many = refl; values = refl; flags = refl } })
