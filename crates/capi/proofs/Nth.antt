-- THE THEOREMS of [5] at the boundary: from a new cursor the n-th answer, by the contract of the call over and over, is the form of what the trace of
-- the column has to say: its readings in order, then the end, however often asked, or the refusal of the whole-column call, again at every later
-- call. And the readings of the pieces in order are the same, those of a delta piece being its value and so many times its difference, in no more pieces
-- than the column has bytes; and so is their ending. Assumes nothing.
use Prim.Native.Nat.{ℕ, ◌+◌, ◌≤◌, ◌<◌}
use mathlib.Core.Path.{◌≡◌, refl, sym, ◌∙◌, ap}
use mathlib.Core.Bool.{false}
use mathlib.Core.List.{List}
use lib.IntN.{ℤ, pos, ◌+ℤ◌, ◌*ℤ◌, +ℤ_idl, *ℤ-zero}
use lib.ListN.{length}
use Rattle.encoding.specs.Column.{trace}
use Rattle.rle_decoder.specs.Word.{u64_e}
use Rattle.delta_decoder.specs.Sums.{delta_trace}
use Rattle.boolean_decoder.specs.Turns.{bool_trace}
use Rattle.cursor.specs.Steps.{ended, nth}
use Rattle.cursor.specs.Kept.{after}
use Rattle.rle_cursor.specs.State as rle
use Rattle.rle_cursor.proofs.Calls as rle-calls
use Rattle.delta_cursor.specs.State as delta
use Rattle.delta_cursor.proofs.Calls as delta-calls
use Rattle.boolean_cursor.specs.State as boolean
use Rattle.boolean_cursor.proofs.Calls as boolean-calls
use Rattle.delta_cursor.specs.Answer.{DeltaAnswer}
use Rattle.delta_cursor.specs.Answer as deltaAnswer
use Rattle.pieces.specs.Delta.{DeltaPiece, reading_of, reading_at}
use Rattle.pieces.proofs.Repeating.{each-times}
use Rattle.pieces.proofs.RlePieces as rle-pieces
use Rattle.pieces.proofs.DeltaPieces as delta-pieces
use Rattle.pieces.proofs.BooleanPieces as boolean-pieces
use Rattle.capi.specs.Cursors.{next_u64, next_i64, next_u8, rle_step, delta_step, boolean_step}
use Rattle.capi.specs.declared.NextI64.{NextI64}
use Rattle.capi.specs.declared.PieceI64.{PieceI64}
use Rattle.capi.specs.Pieces.{times_u64, piece_u64, piece_i64, times_u8, piece_u8, rle_piece, delta_piece, boolean_piece}

pub rle-nth : (s : List ℕ) (n : ℕ)
    → (rle_step s (after (λ k. (rle_step s k).cursor) n (rle.new_for (length s)))).answer ≡ next_u64 (rle.answer_for (nth (trace u64_e s) n))
rle-nth s n = ap next_u64 (rle-calls.nth-answer s n)

pub delta-nth : (s : List ℕ) (n : ℕ)
    → (delta_step s (after (λ k. (delta_step s k).cursor) n (delta.new_for (length s)))).answer ≡ next_i64 (delta.answer_for (nth (delta_trace s) n))
delta-nth s n = ap next_i64 (delta-calls.nth-answer s n)

pub boolean-nth : (s : List ℕ) (n : ℕ)
    → (boolean_step s (after (λ k. (boolean_step s k).cursor) n (boolean.new_for (length s)))).answer ≡ next_u8 (boolean.answer_for (nth (bool_trace s) n))
boolean-nth s n = ap next_u8 (boolean-calls.nth-answer s n)

-- ---- pieces: the i-th reading of the piece with n pieces before it, which have so many readings; behind them all, and so behind as many pieces as the
-- column has bytes, the ending

pub rle-piece-nth : (s : List ℕ) (n i : ℕ) → i < (rle-pieces.piece_at s n).times
    → (rle_piece s (after (λ k. (rle_piece s k).cursor) n (rle.new_for (length s)))).piece
    ≡ times_u64 (next_u64 (rle.answer_for (nth (trace u64_e s) (rle-pieces.had_before s n + i)))) (rle-pieces.piece_at s n).times
rle-piece-nth s n i l = ap (λ a. times_u64 (next_u64 a) (rle-pieces.piece_at s n).times) (rle-pieces.nth-reading s n i l)

pub rle-piece-end : (s : List ℕ) (n : ℕ) → rle-pieces.had_before s n ≡ length (trace u64_e s).readings
    → (rle_piece s (after (λ k. (rle_piece s k).cursor) n (rle.new_for (length s)))).piece ≡ times_u64 (next_u64 (rle.answer_for (ended (trace u64_e s).ending))) 0
rle-piece-end s n l = ap piece_u64 (rle-pieces.then-ending s n l)

pub rle-piece-few : (s : List ℕ) (n : ℕ) → length s ≤ n
    → (rle_piece s (after (λ k. (rle_piece s k).cursor) n (rle.new_for (length s)))).piece ≡ times_u64 (next_u64 (rle.answer_for (ended (trace u64_e s).ending))) 0
rle-piece-few s n l = rle-piece-end s n (rle-pieces.few-given s n l)

-- the i-th reading of a delta piece as C has it: its value and i times its difference, in the form of a single answer
abbrev pub risen : PieceI64 → ℕ → NextI64
risen p i = record { number = p.number; what = p.what; place = p.place; value = p.value +ℤ (pos i *ℤ p.difference) }

-- a value that rises, and the 0 of what is none, which stays
risen-is : (p : DeltaPiece) (i : ℕ) → (delta-pieces.is_present p.answer ≡ false → p.difference ≡ pos 0) → risen (piece_i64 p) i ≡ next_i64 (reading_at p i)
risen-is p i h = go p.answer p.difference h
  where
    none : (d : ℤ) → d ≡ pos 0 → pos 0 +ℤ (pos i *ℤ d) ≡ pos 0
    none d e = ap (λ (d : ℤ). pos 0 +ℤ (pos i *ℤ d)) e ∙ +ℤ_idl (pos i *ℤ pos 0) ∙ *ℤ-zero (pos i)

    go : (a : DeltaAnswer) (d : ℤ) → (delta-pieces.is_present a ≡ false → d ≡ pos 0)
        → record { number = (next_i64 a).number; what = (next_i64 a).what; place = (next_i64 a).place; value = (next_i64 a).value +ℤ (pos i *ℤ d) }
        ≡ next_i64 (reading_of a d i)
    go (deltaAnswer.Present value) d h = ap (λ (z : ℤ). next_i64 (deltaAnswer.Present z)) (sym (each-times d i value))
    go deltaAnswer.Absent d h = ap (λ (z : ℤ). record { number = 0; what = 2; place = 0; value = z }) (none d (h refl))
    go deltaAnswer.End d h = ap (λ (z : ℤ). record { number = 0; what = 3; place = 0; value = z }) (none d (h refl))
    go (deltaAnswer.Refused number place) d h = ap (λ (z : ℤ). record { number = number; what = 0; place = place; value = z }) (none d (h refl))

pub delta-piece-nth : (s : List ℕ) (n i : ℕ)
    → i < (delta_piece s (after (λ k. (delta_piece s k).cursor) n (delta.new_for (length s)))).piece.times
    → risen (delta_piece s (after (λ k. (delta_piece s k).cursor) n (delta.new_for (length s)))).piece i
    ≡ next_i64 (delta.answer_for (nth (delta_trace s) (delta-pieces.had_before s n + i)))
delta-piece-nth s n i l =
    risen-is (delta-pieces.piece_at s n) i (delta-pieces.still-unless s (after (delta-pieces.past_of s) n (delta.new_for (length s))))
    ∙ ap next_i64 (delta-pieces.nth-reading s n i l)

pub delta-piece-end : (s : List ℕ) (n : ℕ) → delta-pieces.had_before s n ≡ length (delta_trace s).readings
    → (delta_piece s (after (λ k. (delta_piece s k).cursor) n (delta.new_for (length s)))).piece
    ≡ piece_i64 (record { answer = delta.answer_for (ended (delta_trace s).ending); difference = pos 0; times = 0 })
delta-piece-end s n l = ap piece_i64 (delta-pieces.then-ending s n l)

pub delta-piece-few : (s : List ℕ) (n : ℕ) → length s ≤ n
    → (delta_piece s (after (λ k. (delta_piece s k).cursor) n (delta.new_for (length s)))).piece
    ≡ piece_i64 (record { answer = delta.answer_for (ended (delta_trace s).ending); difference = pos 0; times = 0 })
delta-piece-few s n l = delta-piece-end s n (delta-pieces.few-given s n l)

pub boolean-piece-nth : (s : List ℕ) (n i : ℕ) → i < (boolean-pieces.piece_at s n).times
    → (boolean_piece s (after (λ k. (boolean_piece s k).cursor) n (boolean.new_for (length s)))).piece
    ≡ times_u8 (next_u8 (boolean.answer_for (nth (bool_trace s) (boolean-pieces.had_before s n + i)))) (boolean-pieces.piece_at s n).times
boolean-piece-nth s n i l = ap (λ a. times_u8 (next_u8 a) (boolean-pieces.piece_at s n).times) (boolean-pieces.nth-reading s n i l)

pub boolean-piece-end : (s : List ℕ) (n : ℕ) → boolean-pieces.had_before s n ≡ length (bool_trace s).readings
    → (boolean_piece s (after (λ k. (boolean_piece s k).cursor) n (boolean.new_for (length s)))).piece
    ≡ times_u8 (next_u8 (boolean.answer_for (ended (bool_trace s).ending))) 0
boolean-piece-end s n l = ap piece_u8 (boolean-pieces.then-ending s n l)

pub boolean-piece-few : (s : List ℕ) (n : ℕ) → length s ≤ n
    → (boolean_piece s (after (λ k. (boolean_piece s k).cursor) n (boolean.new_for (length s)))).piece
    ≡ times_u8 (next_u8 (boolean.answer_for (ended (bool_trace s).ending))) 0
boolean-piece-few s n l = boolean-piece-end s n (boolean-pieces.few-given s n l)
