-- How many readings the bytes have that are written for a list: for each kind of column as many as `readings_of` says, of every list that the code can
-- hold. And the new list of an edit is such a list, where the old one was read and the new readings are in slices of the code. Assumes nothing.
use Prim.Native.Nat.{ℕ, zero, suc, ◌≤◌, ◌<◌, ◌^◌}
use mathlib.Core.Path.{◌≡◌, refl, sym, ap, ◌∙◌}
use mathlib.Core.List.{List, [], ◌∷◌, ◌++◌, map}
use mathlib.Core.Option.{Option, none, some}
use mathlib.Core.Bool.{Bool, true, false, cond}
use native.Mathlib.Omega.{arith}
use lib.Dec.{leb, eqb}
use lib.IntN.{ℤ, pos}
use lib.ListN.{length, get_or, take, drop}
use borrow.Author.Tests.{ne_eqb, lt-ltb}
use Rattle.leb128.specs.Answer.{done}
use Rattle.encoding.specs.Element.{Element}
use Rattle.encoding.specs.Limit.{limit}
use Rattle.encoding.specs.Walk.{Trace, sound, outcome, outcome_of}
use Rattle.encoding.specs.Column.{Reading, absent, present, value, trace, values}
use Rattle.encoding.specs.Writer.{any_present, column_bytes}
use Rattle.encoding.specs.Given.{given, slot_list, bad_flag}
use Rattle.encoding.proofs.Back.{ListFits, round_trip, no_value, nothing-reads}
use Rattle.encoding.proofs.Readable.{readable, Fits}
use Rattle.rle_decoder.specs.Word.{u64_e}
use Rattle.rle_decoder.proofs.WordLaws.{u64-laws}
use Rattle.delta_decoder.specs.Difference.{i64_e}
use Rattle.delta_decoder.specs.Sums.{delta_trace}
use Rattle.delta_decoder.proofs.Limits.{delta-held}
use Rattle.delta_encoder.specs.Differences.{differences, delta_bytes, wide_at}
use Rattle.delta_encoder.proofs.Back.{AllHeld, delta-round-trip, delta-no-value, delta-nothing}
use Rattle.boolean_decoder.specs.Turns.{bool_trace}
use Rattle.boolean_decoder.proofs.Clean.{read-clean}
use Rattle.boolean_encoder.specs.Writer.{bool_bytes}
use Rattle.boolean_encoder.proofs.Back as boolean-back
use Rattle.boolean_encoder.proofs.Writing.{judged-flags}
use Rattle.text.specs.Text.{text_e}
use Rattle.text.proofs.TextLaws.{text-laws}
use Rattle.slots.specs.Splice.{spliced}
use Rattle.splice.specs.Kinds.{integer, delta, boolean, text}
use Rattle.splice.specs.Edit.{readings_in, readings_of}
use Rattle.splice.proofs.Writing.{good-judged}
use Rattle.counted_table.specs.Reached.{Words}

-- ---- lists in parts
module _ {A : Type 0} (E : Element A) where
  listed-append : (xs ys : List (Option A)) → ListFits E xs → ListFits E ys → ListFits E (xs ++ ys)
  listed-append [] ys h k = k
  listed-append (none ∷ xs) ys h k = listed-append xs ys h k
  listed-append (some a ∷ xs) ys h k = (h.0, listed-append xs ys h.1 k)

  listed-take : (n : ℕ) (xs : List (Option A)) → ListFits E xs → ListFits E (take n xs)
  listed-take zero xs h = tt
  listed-take (suc n) [] h = tt
  listed-take (suc n) (none ∷ xs) h = listed-take n xs h
  listed-take (suc n) (some a ∷ xs) h = (h.0, listed-take n xs h.1)

  listed-drop : (n : ℕ) (xs : List (Option A)) → ListFits E xs → ListFits E (drop n xs)
  listed-drop zero xs h = h
  listed-drop (suc n) [] h = tt
  listed-drop (suc n) (none ∷ xs) h = listed-drop n xs h
  listed-drop (suc n) (some a ∷ xs) h = listed-drop n xs h.1

  pub listed-spliced : (xs : List (Option A)) (start end : ℕ) (new : List (Option A)) → ListFits E xs → ListFits E new → ListFits E (spliced xs start end new)
  listed-spliced xs start end new h k =
      listed-append (take start xs) (new ++ drop end xs) (listed-take start xs h) (listed-append new (drop end xs) k (listed-drop end xs h))

module _ {A : Type 0} (E : Element A) (d : A) where
  -- given readings, each value of which the element writes
  pub given-fit : (new : List A) (flags : List ℕ) → ((i : ℕ) → E.fits (get_or new i d) ≡ true) → ListFits E (slot_list new flags)
  unfolding slot_list
  given-fit [] flags h = tt
  given-fit (v ∷ new) [] h = tt
  given-fit (v ∷ new) (b ∷ flags) h = go (eqb b 0) (given-fit new flags (λ i. h (suc i)))
    where
      go : (t : Bool) → ListFits E (slot_list new flags) → ListFits E (cond t none (some v) ∷ slot_list new flags)
      go true k = k
      go false k = (h zero, k)

pub words-fit : (new flags : List ℕ) → Words new → ListFits u64_e (slot_list new flags)
words-fit new flags w = given-fit u64_e 0 new flags (λ i. lt-ltb (get_or new i 0) (2 ^ 64) (w i))

-- booleans: bytes 0 and 1
abbrev Bits : List ℕ → Type 0
Bits [] = Unit {0}
Bits (b ∷ xs) = (leb b 1 ≡ true) × Bits xs

bits_of : (i : ℕ) (xs : List ℕ) → bad_flag i xs ≡ none → Bits xs
unfolding bad_flag
bits_of i [] e = tt
bits_of i (b ∷ xs) e = go (leb b 1) refl e (bits_of (suc i) xs)
  where
    go : (t : Bool) → leb b 1 ≡ t → cond t (bad_flag (suc i) xs) (some i) ≡ none → (bad_flag (suc i) xs ≡ none → Bits xs) → Bits (b ∷ xs)
    go true h z r = (h, r z)
    go false h z r = let y : ◌≡◌ {A = ℕ} 0 1 = cc in absurd (omega arith)

clean_of : (i : ℕ) (xs : List ℕ) → Bits xs → bad_flag i xs ≡ none
unfolding bad_flag
clean_of i [] h = refl
clean_of i (b ∷ xs) h = rw h.0 (clean_of (suc i) xs h.1)

bits-append : (xs ys : List ℕ) → Bits xs → Bits ys → Bits (xs ++ ys)
bits-append [] ys h k = k
bits-append (b ∷ xs) ys h k = (h.0, bits-append xs ys h.1 k)

bits-take : (n : ℕ) (xs : List ℕ) → Bits xs → Bits (take n xs)
bits-take zero xs h = tt
bits-take (suc n) [] h = tt
bits-take (suc n) (b ∷ xs) h = (h.0, bits-take n xs h.1)

bits-drop : (n : ℕ) (xs : List ℕ) → Bits xs → Bits (drop n xs)
bits-drop zero xs h = h
bits-drop (suc n) [] h = tt
bits-drop (suc n) (b ∷ xs) h = bits-drop n xs h.1

pub clean-spliced : (xs : List ℕ) (start end : ℕ) (new : List ℕ) → bad_flag 0 xs ≡ none → bad_flag 0 new ≡ none → bad_flag 0 (spliced xs start end new) ≡ none
clean-spliced xs start end new h k =
    let b = bits_of 0 xs h in
    clean_of 0 (spliced xs start end new)
    (bits-append (take start xs) (new ++ drop end xs) (bits-take start xs b) (bits-append new (drop end xs) (bits_of 0 new k) (bits-drop end xs b)))

-- ---- written and counted

-- no bytes are counted as none; any others as the list that they are written for
back-counts : {R : Type 0} (reads : List ℕ → Trace R) (w : List ℕ) (n : ℕ) → reads [] ≡ record { readings = []; ending = sound }
    → ((w ≡ [] → ⊥) → (length (reads w).readings ≡ n) × ((reads w).ending ≡ sound)) → outcome (reads w) ≡ done (readings_in (length w) n)
unfolding outcome outcome_of readings_in
back-counts {R} reads [] n e h = ap (λ (t : Trace R). outcome_of (length t.readings) t.ending) e
back-counts {R} reads (b ∷ w) n e h =
    let k = h (λ q. let y : ◌≡◌ {A = ℕ} 0 1 = cc in omega arith) in
    ap (outcome_of (length (reads (b ∷ w)).readings)) k.1 ∙ ap done k.0
    ∙ sym (ap (λ (t : Bool). done (cond t 0 n)) (ne_eqb (length (b ∷ w)) 0 (λ q. omega arith)))

module _ {A : Type 0} (xs : List (Option A)) (reads : List ℕ → Trace (Reading A)) (w : List ℕ) where
  -- of optional readings: bytes are written only where a value is present
  optional-counts : values (reads []) ≡ record { readings = []; ending = sound } → (any_present xs ≡ false → w ≡ [])
      → (any_present xs ≡ true → (map value (reads w).readings ≡ xs) × ((reads w).ending ≡ sound))
      → outcome (values (reads w)) ≡ done (readings_in (length w) (length xs))
  optional-counts e bare full = back-counts (λ s. values (reads s)) w (length xs) e (λ q. go q (any_present xs) refl)
    where
      go : (w ≡ [] → ⊥) → (b : Bool) → any_present xs ≡ b → (length (map value (reads w).readings) ≡ length xs) × ((reads w).ending ≡ sound)
      go q false f = absurd (q (bare f))
      go q true f = let r = full f in (ap length r.0, r.1)

pub integer-back : (xs : List (Option ℕ)) → ListFits u64_e xs → length xs ≤ limit → outcome (integer.reads (integer.writes xs)) ≡ done (readings_of integer xs)
integer-back xs h m =
    optional-counts xs (trace u64_e) (column_bytes u64_e xs) (ap values (nothing-reads u64_e)) (no_value u64_e xs) (λ e. round_trip u64_e u64-laws xs e h m)

pub text-back : (xs : List (Option (List ℕ))) → ListFits text_e xs → length xs ≤ limit → outcome (text.reads (text.writes xs)) ≡ done (readings_of text xs)
text-back xs h m =
    optional-counts xs (trace text_e) (column_bytes text_e xs) (ap values (nothing-reads text_e)) (no_value text_e xs) (λ e. round_trip text_e text-laws xs e h m)

pub delta-back : (xs : List (Option ℤ)) → ListFits i64_e xs → wide_at 0 (differences (pos 0) xs) ≡ none → length xs ≤ limit
    → outcome (delta.reads (delta.writes xs)) ≡ done (readings_of delta xs)
delta-back xs h w m =
    optional-counts xs delta_trace (delta_bytes xs) (ap values delta-nothing) (delta-no-value xs) (λ e. delta-round-trip xs e (all_held xs h) w m)
  where
    all_held : (ys : List (Option ℤ)) → ListFits i64_e ys → AllHeld ys
    all_held [] k = tt
    all_held (none ∷ ys) k = all_held ys k
    all_held (some v ∷ ys) k = (k.0, all_held ys k.1)

pub boolean-counted : (xs : List ℕ) → bad_flag 0 xs ≡ none → length xs ≤ limit → outcome (boolean.reads (boolean.writes xs)) ≡ done (readings_of boolean xs)
boolean-counted xs h m =
    let f = judged-flags (length xs) (length xs) xs (good-judged (record { even = refl; flagged = h; few = m })) in
    let r = boolean-back.round_trip xs f m in
    back-counts bool_trace (bool_bytes xs) (length xs) boolean-back.nothing-reads (λ q. (ap length r.0, r.1))

-- ---- what was read
pub integer-read : (c : List ℕ) → ((i : ℕ) → get_or c i 0 < 256) → ListFits u64_e (integer.reads c).readings
integer-read c b = readable u64_e u64-laws c b

pub text-read : (c : List ℕ) → ((i : ℕ) → get_or c i 0 < 256) → ListFits text_e (text.reads c).readings
text-read c b = readable text_e text-laws c b

pub delta-read : (c : List ℕ) → ListFits i64_e (delta.reads c).readings
unfolding value
delta-read c = go (delta_trace c).readings (delta-held c)
  where
    go : (rs : List (Reading ℤ)) → Fits i64_e rs → ListFits i64_e (map value rs)
    go [] h = tt
    go (absent ∷ rs) h = go rs h
    go (present a place ∷ rs) h = (h.0, go rs h.1)

pub boolean-read : (c : List ℕ) → bad_flag 0 (boolean.reads c).readings ≡ none
boolean-read c = read-clean c 0
