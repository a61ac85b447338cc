-- 02, [5], at the boundary: a piece of a column in C's form. It is what comes next, in the form of `Cursors`, with how many times it stands there; the
-- times of the end and of a refusal are 0, and so is their difference.
use Rattle.std.specs.Prelude.{ℕ, List}
use Rattle.rle_cursor.specs.declared.RleCursor.{RleCursor}
use Rattle.delta_cursor.specs.declared.DeltaCursor.{DeltaCursor}
use Rattle.boolean_cursor.specs.declared.BooleanCursor.{BooleanCursor}
use Rattle.pieces.specs.Rle.{RlePiece}
use Rattle.pieces.specs.Rle as rle
use Rattle.pieces.specs.Delta.{DeltaPiece}
use Rattle.pieces.specs.Delta as delta
use Rattle.pieces.specs.Boolean.{BooleanPiece}
use Rattle.pieces.specs.Boolean as boolean
use Rattle.capi.specs.Cursors.{next_u64, next_i64, next_u8}
use Rattle.capi.specs.declared.NextU64.{NextU64}
use Rattle.capi.specs.declared.NextI64.{NextI64}
use Rattle.capi.specs.declared.NextU8.{NextU8}
use Rattle.capi.specs.declared.PieceU64.{PieceU64}
use Rattle.capi.specs.declared.PieceI64.{PieceI64}
use Rattle.capi.specs.declared.PieceU8.{PieceU8}

-- the state behind a piece, and the piece in this form
pub record RleTaken : Type 0 where
  pub cursor : RleCursor
  pub piece : PieceU64

pub record DeltaTaken : Type 0 where
  pub cursor : DeltaCursor
  pub piece : PieceI64

pub record BooleanTaken : Type 0 where
  pub cursor : BooleanCursor
  pub piece : PieceU8

abbrev pub times_u64 : NextU64 → ℕ → PieceU64
times_u64 a times = record { number = a.number; what = a.what; place = a.place; value = a.value; times = times }

abbrev pub piece_u64 : RlePiece → PieceU64
piece_u64 p = times_u64 (next_u64 p.answer) p.times

abbrev pub times_i64 : NextI64 → DeltaPiece → PieceI64
times_i64 a p =
    record { number = a.number; what = a.what; place = a.place; value = a.value; difference = p.difference; times = p.times }

abbrev pub piece_i64 : DeltaPiece → PieceI64
piece_i64 p = times_i64 (next_i64 p.answer) p

abbrev pub times_u8 : NextU8 → ℕ → PieceU8
times_u8 a times = record { number = a.number; what = a.what; place = a.place; value = a.value; times = times }

abbrev pub piece_u8 : BooleanPiece → PieceU8
piece_u8 p = times_u8 (next_u8 p.answer) p.times

-- the piece of the library, from any state, in this form
abbrev pub rle_piece : List ℕ → RleCursor → RleTaken
rle_piece s k = record { cursor = (rle.piece_of s k).cursor; piece = piece_u64 (rle.piece_of s k).piece }

abbrev pub delta_piece : List ℕ → DeltaCursor → DeltaTaken
delta_piece s k = record { cursor = (delta.piece_of s k).cursor; piece = piece_i64 (delta.piece_of s k).piece }

abbrev pub boolean_piece : List ℕ → BooleanCursor → BooleanTaken
boolean_piece s k = record { cursor = (boolean.piece_of s k).cursor; piece = piece_u8 (boolean.piece_of s k).piece }
