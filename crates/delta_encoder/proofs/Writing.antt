-- A delta column as the writer judges and writes it: one law for each way. Assumes nothing.
use Prim.Native.Nat.{ℕ, ◌+◌, ◌≤◌}
use mathlib.Core.Path.{◌≡◌, refl, sym, ◌∙◌, ap}
use mathlib.Core.List.{List, []}
use mathlib.Core.Option.{Option, none, some}
use mathlib.Core.Bool.{true, false}
use native.Mathlib.Omega.{arith}
use lib.IntN.{ℤ, pos}
use lib.ListN.{length}
use Rattle.std.specs.Prelude.{Result, Ok, Err, IsOk}
use Rattle.refusal.specs.declared.Refusal.{Refusal}
use Rattle.leb128.specs.Answer.{Answer, done, refused}
use Rattle.leb128.specs.Write.{put_at}
use Rattle.leb128_writer.specs.Cases.{written_of}
use Rattle.encoding.specs.Given.{slot_list, list_judged}
use Rattle.encoding.specs.Limit.{limit}
use Rattle.encoding.specs.Ahead.{bytes_from}
use Rattle.encoding.specs.Flags.{any_flag}
use Rattle.encoding.specs.Writer.{column_bytes}
use Rattle.encoding.proofs.Placing.{not-refused}
use Rattle.encoding.proofs.Putting.{any-list, bytes-all, bytes-none, judged-good}
use Rattle.delta_encoder.specs.Ahead.{diffs, Narrow}
use Rattle.delta_decoder.specs.Difference.{i64_e}
use Rattle.delta_encoder.specs.Differences.{differences, delta_bytes, wide_at, width_judged, delta_judged}
use Rattle.delta_encoder.proofs.Differing.{diffs-list, flags, narrow}

-- a number for which there is room is put
pub put-ok : (out : List ℕ) (at : ℕ) (w : List ℕ) → at + length w ≤ length out → (r : Result ℕ Refusal) → written_of r ≡ put_at out at w → IsOk r
put-ok out at w room (Ok next) e = refl
put-ok out at w room (Err f) e = absurd (not-refused out at w room _ _ (sym e))

module _ (v : List ℤ) (p : List ℕ) where
  pub judged-narrow : (n : ℕ) → list_judged (length v) p ≡ done n → wide_at 0 (differences (pos 0) (slot_list v p)) ≡ none → done n ≡ delta_judged v p
  unfolding delta_judged width_judged
  judged-narrow n e w = simp (e, w)

  pub judged-wide : (n i : ℕ) → list_judged (length v) p ≡ done n → wide_at 0 (differences (pos 0) (slot_list v p)) ≡ some i → refused 7 i ≡ delta_judged v p
  unfolding delta_judged width_judged
  judged-wide n i e w = simp (e, w)

  pub judged-refused : (number place : ℕ) → list_judged (length v) p ≡ refused number place → refused number place ≡ delta_judged v p
  unfolding delta_judged width_judged
  judged-refused number place e = simp e

  -- a list that is judged good has differences that are held, and is within the limit
  pub delta-good : (n : ℕ) → delta_judged v p ≡ done n → Narrow v p × (length v ≤ limit)
  unfolding delta_judged width_judged
  delta-good n h = go (list_judged (length v) p) (wide_at 0 (differences (pos 0) (slot_list v p))) refl refl h
    where
      go : (o : Answer) (w : Option ℕ) → list_judged (length v) p ≡ o → wide_at 0 (differences (pos 0) (slot_list v p)) ≡ w
          → width_judged o w ≡ done n → Narrow v p × (length v ≤ limit)
      go (done m) none e f h = let g = judged-good (length v) m p e in (narrow v p g.0 f, g.1)
      go (done m) (some i) e f h = let z : ◌≡◌ {A = ℕ} 0 1 = cc in absurd (omega arith)
      go (refused number place) w e f h = let z : ◌≡◌ {A = ℕ} 0 1 = cc in absurd (omega arith)

  -- the bytes where a value is present, and where none is
  module _ (N : Narrow v p) where
    pub delta-all : any_flag p ≡ true → delta_bytes (slot_list v p) ≡ bytes_from i64_e (diffs v p) p 0
    unfolding delta_bytes
    delta-all e =
        ap (column_bytes i64_e) (sym (diffs-list (pos 0) v p))
        ∙ bytes-all i64_e (pos 0) (diffs v p) p (any-list (diffs v p) p (flags v p N.even) ∙ e)

    pub delta-none : any_flag p ≡ false → delta_bytes (slot_list v p) ≡ []
    unfolding delta_bytes
    delta-none e =
        ap (column_bytes i64_e) (sym (diffs-list (pos 0) v p))
        ∙ bytes-none i64_e (pos 0) (diffs v p) p (any-list (diffs v p) p (flags v p N.even) ∙ e)
