-- WHAT THE CALL OVER A COLUMN'S BYTES AND ITS TYPE ANSWERS IS TRUE: a reason holds of the bytes, no reason means a sound column, and 17 a type of no kind. Assumes nothing.
use Prim.Native.Nat.{ℕ}
use mathlib.Core.Path.{◌≡◌, refl}
use mathlib.Core.List.{List}
use mathlib.Core.Option.{Option, none, some}
use native.Mathlib.Omega.{arith}
use Rattle.column_specification.specs.Served.{integer_type, delta_type, boolean_type, text_type}
use Rattle.encoding.specs.Column.{trace}
use Rattle.encoding.specs.Walk.{Ending, sound, fault, Trace}
use Rattle.encoding.proofs.Lists.{cond-by}
use Rattle.rle_decoder.specs.Word.{u64_e}
use Rattle.delta_decoder.specs.Sums.{delta_trace}
use Rattle.boolean_decoder.specs.Turns.{bool_trace}
use Rattle.text.specs.Text.{text_e}
use Rattle.reason.specs.Columns.{Told, because, faultless, answered, column_reason}
use Rattle.reason.specs.Reason.{Reason, integer_reason, delta_reason, boolean_reason, text_reason}
use Rattle.reason.specs.True.{Explained, IntegerTrue, DeltaTrue, BooleanTrue, TextTrue, OfKind, CallTrue}
use Rattle.reason.proofs.BooleanTruths.{boolean-true}
use Rattle.reason.proofs.DeltaTruths.{delta-true}
use Rattle.reason.proofs.TextTruths.{text-true}
use Rattle.reason.proofs.Truths.{integer-true}

-- a column without a reason is sound
module _ {Q : Type 0} (t : Trace Q) (o : Option Reason) (Is : Reason → Type 0) (x : Explained t o Is) where
  none-sound : o ≡ none → t.ending ≡ sound
  none-sound h = go t.ending refl
    where
      go : (e : Ending) → t.ending ≡ e → e ≡ sound
      go sound e = refl
      go (fault number place) e = let y = x.faulty number place e in let z : ◌≡◌ {A = ℕ} 0 1 = cc y.1 in absurd (omega arith)

  -- what was answered has a property where both ways have it
  answered-by : (P : Told → Type 0) → (t.ending ≡ sound → P faultless) → ((r : Reason) → Is r → P (because r)) → P (answered o)
  answered-by P f g = go o refl
    where
      go : (p : Option Reason) → o ≡ p → P (answered p)
      go none h = f (none-sound h)
      go (some r) h = g r (x.each r h)

module _ (t : ℕ) (s : List ℕ) where
  pub call-true : CallTrue t s (column_reason t s)
  unfolding column_reason
  call-true =
      cond-by (CallTrue t s) (integer_type t)
      (λ a. answered-by (trace u64_e s) (integer_reason s) (IntegerTrue s) (integer-true s) (CallTrue t s) (λ e. OfKind.integer a e) (λ r y. OfKind.integer a y))
      (λ a.
      cond-by (CallTrue t s) (delta_type t)
      (λ b. answered-by (delta_trace s) (delta_reason s) (DeltaTrue s) (delta-true s) (CallTrue t s) (λ e. OfKind.delta b e) (λ r y. OfKind.delta b y))
      (λ b.
      cond-by (CallTrue t s) (boolean_type t)
      (λ c. answered-by (bool_trace s) (boolean_reason s) (BooleanTrue s) (boolean-true s) (CallTrue t s) (λ e. OfKind.boolean c e) (λ r y. OfKind.boolean c y))
      (λ c.
      cond-by (CallTrue t s) (text_type t)
      (λ d. answered-by (trace text_e s) (text_reason s) (TextTrue s) (text-true s) (CallTrue t s) (λ e. OfKind.text d e) (λ r y. OfKind.text d y))
      (λ d. (refl, refl, a, b, c, d)))))
