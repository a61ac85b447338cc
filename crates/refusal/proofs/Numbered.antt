-- No refusal has the number 0, which stands for none, and no two reasons have one number. Assumes nothing.
use mathlib.Core.Path.{◌≡◌, refl, sym, ap, ◌∙◌}
use mathlib.Core.List.{List, [], ◌∷◌}
use Prim.Native.Nat.{ℕ}
use native.Mathlib.Omega.{arith}
use lib.ListN.{get_or}
use Rattle.refusal.specs.Number.{number_of}
use Rattle.refusal.specs.declared.Refusal.{Refusal}
use Rattle.refusal.specs.declared.Why.{Why}
use Rattle.refusal.specs.declared.Why.TheVariants.{Cut, TooLarge, Overlong, Zero, TooMany, SumOutside, DifferenceOutside, BadList, TooFewSlots, OutputTooShort, TooManyColumns, OutOfOrder, Compressed, ColumnsTooLong, ColumnsTooShort, NoSuchColumn, NotServed, BadRange, IdTooLarge, NotUtf8, NothingDue, BadEntry, BadCursor, OtherTable}

pub some : (why : Why) → number_of why ≡ 0 → ⊥
some Cut e = absurd (omega arith)
some TooLarge e = absurd (omega arith)
some Overlong e = absurd (omega arith)
some Zero e = absurd (omega arith)
some TooMany e = absurd (omega arith)
some SumOutside e = absurd (omega arith)
some DifferenceOutside e = absurd (omega arith)
some BadList e = absurd (omega arith)
some TooFewSlots e = absurd (omega arith)
some OutputTooShort e = absurd (omega arith)
some TooManyColumns e = absurd (omega arith)
some OutOfOrder e = absurd (omega arith)
some Compressed e = absurd (omega arith)
some ColumnsTooLong e = absurd (omega arith)
some ColumnsTooShort e = absurd (omega arith)
some NoSuchColumn e = absurd (omega arith)
some NotServed e = absurd (omega arith)
some BadRange e = absurd (omega arith)
some IdTooLarge e = absurd (omega arith)
some NotUtf8 e = absurd (omega arith)
some NothingDue e = absurd (omega arith)
some BadEntry e = absurd (omega arith)
some BadCursor e = absurd (omega arith)
some OtherTable e = absurd (omega arith)

-- each is found again by its own number
whys : List Why
whys =
    Cut ∷ Cut ∷ TooLarge ∷ Overlong ∷ Zero ∷ TooMany ∷ SumOutside ∷ DifferenceOutside ∷ BadList ∷ TooFewSlots ∷ OutputTooShort ∷ TooManyColumns ∷
    OutOfOrder ∷ Compressed ∷ ColumnsTooLong ∷ ColumnsTooShort ∷ NoSuchColumn ∷ NotServed ∷ BadRange ∷ IdTooLarge ∷ NotUtf8 ∷ NothingDue ∷ Cut ∷ BadEntry
    ∷ BadCursor ∷ OtherTable ∷ []

known : (why : Why) → get_or whys (number_of why) Cut ≡ why
unfolding whys
known Cut = refl
known TooLarge = refl
known Overlong = refl
known Zero = refl
known TooMany = refl
known SumOutside = refl
known DifferenceOutside = refl
known BadList = refl
known TooFewSlots = refl
known OutputTooShort = refl
known TooManyColumns = refl
known OutOfOrder = refl
known Compressed = refl
known ColumnsTooLong = refl
known ColumnsTooShort = refl
known NoSuchColumn = refl
known NotServed = refl
known BadRange = refl
known IdTooLarge = refl
known NotUtf8 = refl
known NothingDue = refl
known BadEntry = refl
known BadCursor = refl
known OtherTable = refl

pub one_why : (w w₂ : Why) → number_of w ≡ number_of w₂ → w ≡ w₂
one_why w w₂ e = sym (known w) ∙ ap (λ (n : ℕ). get_or whys n Cut) e ∙ known w₂

pub one_refusal : (e e₂ : Refusal) → number_of e.0 ≡ number_of e₂.0 → e.1 ≡ e₂.1 → e ≡ e₂
one_refusal e e₂ n p =
    ap (λ (w : Why). record { 0 = w; 1 = e.1 }) (one_why e.0 e₂.0 n) ∙ ap (λ (k : ℕ). record { 0 = e₂.0; 1 = k }) p
