-- The frame of a new block: everything but the new column of so many bytes, for which room is left. Refusal 10 where it does not fit.
use Rattle.std.specs.Prelude.{ℕ, ◌+◌, ◌-◌, List, ◌++◌, cond, length, get_or, take, drop, set, ltb, leb, Result, Ok, Err}
use Rattle.refusal.specs.Number.{number_of}
use Rattle.refusal.specs.declared.Refusal.{Refusal}
use Rattle.raw_column.specs.Table.{Tab, tab, faulty, parse}
use Rattle.block_frame.specs.Columns.{table_bytes}
use Rattle.column_part.specs.Part.{start_of}
use Rattle.block_frame.specs.declared.Frame as code

-- where the new column goes, and how long the new block is; or a refusal's number and place
pub record Frame : Type 0 where
  pub number : ℕ
  pub place : ℕ
  pub at : ℕ
  pub len : ℕ

-- what stands before the new column, the new table and the earlier columns; and the later columns behind it
pub data Framed : Type 0 where
  shut : ℕ → ℕ → Framed
  room : List ℕ → List ℕ → Framed

abbrev pub front_of : List ℕ → List ℕ → List ℕ → ℕ → ℕ → ℕ → List ℕ
front_of s specs lens next position size = table_bytes specs (set lens position size) ++ take (start_of lens next position - next) (drop next s)

abbrev pub tail_of : List ℕ → List ℕ → ℕ → ℕ → List ℕ
tail_of s lens next position = drop (start_of lens next position + get_or lens position 0) s

abbrev pub framed_in : List ℕ → ℕ → ℕ → ℕ → Tab → Framed
framed_in s position size out (tab specs lens next) =
    cond (ltb position (length specs))
    (cond (leb (length (front_of s specs lens next position size) + (size + length (tail_of s lens next position))) out)
    (room (front_of s specs lens next position size) (tail_of s lens next position))
    (shut 10 0))
    (shut 16 0)
framed_in s position size out (faulty number place) = shut number place

unfoldable pub framed : List ℕ → ℕ → ℕ → ℕ → Framed
framed s position size out = framed_in s position size out (parse s)

-- where the new column goes, and how long the new block is
abbrev pub frame_of : ℕ → Framed → Frame
frame_of size (shut number place) = record { number = number; place = place; at = 0; len = 0 }
frame_of size (room head tail) = record { number = 0; place = 0; at = length head; len = length head + (size + length tail) }

-- what the code's answer stands for
abbrev pub laid_of : Result code.Frame Refusal → Frame
laid_of (Ok f) = record { number = 0; place = 0; at = f.at; len = f.len }
laid_of (Err e) = record { number = number_of e.0; place = e.1; at = 0; len = 0 }

-- what it leaves in the output: the room for the new column is as it was
abbrev pub frame_out : ℕ → Framed → List ℕ → List ℕ
frame_out size (shut number place) out = out
frame_out size (room head tail) out =
    head ++ (take size (drop (length head) out) ++ (tail ++ drop (length head + (size + length tail)) out))
