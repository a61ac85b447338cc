-- What the pieces of the code stand for. The end and a refusal are no reading, so they have no times.
use Rattle.std.specs.Prelude.{ℕ, ℤ, pos, Result, Ok, Err, Option, Some, None}
use Rattle.refusal.specs.Number.{number_of}
use Rattle.refusal.specs.declared.Refusal.{Refusal}
use Rattle.rle_cursor.specs.Answer.{RleAnswer}
use Rattle.rle_cursor.specs.Answer as rle
use Rattle.boolean_cursor.specs.State as boolean
use Rattle.delta_cursor.specs.Answer.{DeltaAnswer}
use Rattle.delta_cursor.specs.Answer as delta
use Rattle.pieces.specs.Rle.{RlePiece, RleTaken}
use Rattle.pieces.specs.Boolean.{BooleanPiece, BooleanTaken}
use Rattle.pieces.specs.Delta.{DeltaPiece, DeltaTaken}
use Rattle.pieces.specs.declared.rle.RlePiece as rle_code
use Rattle.pieces.specs.declared.rle.RleTaken as rle_code_taken
use Rattle.pieces.specs.declared.boolean.BooleanPiece as boolean_code
use Rattle.pieces.specs.declared.boolean.BooleanTaken as boolean_code_taken
use Rattle.pieces.specs.declared.delta.DeltaPiece as delta_code
use Rattle.pieces.specs.declared.delta.DeltaTaken as delta_code_taken

-- ---- columns of u64

abbrev pub rle_read : Option ℕ → RleAnswer
rle_read (Some value) = rle.Present value
rle_read None = rle.Absent

abbrev pub rle_piece : Result (Option rle_code.RlePiece) Refusal → RlePiece
rle_piece (Ok (Some p)) = record { answer = rle_read p.reading; times = p.times }
rle_piece (Ok None) = record { answer = rle.End; times = 0 }
rle_piece (Err e) = record { answer = rle.Refused (number_of e.0) e.1; times = 0 }

abbrev pub rle_taken : rle_code_taken.RleTaken → RleTaken
rle_taken t = record { cursor = t.cursor; piece = rle_piece t.piece }

-- ---- boolean columns

abbrev pub boolean_piece : Result (Option boolean_code.BooleanPiece) Refusal → BooleanPiece
boolean_piece (Ok (Some p)) = record { answer = boolean.Present p.flag; times = p.times }
boolean_piece (Ok None) = record { answer = boolean.End; times = 0 }
boolean_piece (Err e) = record { answer = boolean.Refused (number_of e.0) e.1; times = 0 }

abbrev pub boolean_taken : boolean_code_taken.BooleanTaken → BooleanTaken
boolean_taken t = record { cursor = t.cursor; piece = boolean_piece t.piece }

-- ---- delta columns

abbrev pub delta_read : Option ℤ → DeltaAnswer
delta_read (Some value) = delta.Present value
delta_read None = delta.Absent

abbrev pub delta_piece : Result (Option delta_code.DeltaPiece) Refusal → DeltaPiece
delta_piece (Ok (Some p)) = record { answer = delta_read p.reading; difference = p.difference; times = p.times }
delta_piece (Ok None) = record { answer = delta.End; difference = pos 0; times = 0 }
delta_piece (Err e) = record { answer = delta.Refused (number_of e.0) e.1; difference = pos 0; times = 0 }

abbrev pub delta_taken : delta_code_taken.DeltaTaken → DeltaTaken
delta_taken t = record { cursor = t.cursor; piece = delta_piece t.piece }
