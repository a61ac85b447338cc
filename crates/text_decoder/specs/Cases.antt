-- What the answers of the code stand for.
use Rattle.std.specs.Prelude.{ℕ, ◌+◌, List, Result, Ok, Err}
use Rattle.refusal.specs.Number.{number_of}
use Rattle.refusal.specs.declared.Refusal.{Refusal}
use Rattle.leb128.specs.Got.{Got, got, bad}
use Rattle.encoding.specs.Walk.{Next, on, off}
use Rattle.encoding.specs.Column.{Spot, spot}
use Rattle.text.specs.Text.{bytes_at}

-- a name that stands in the bytes s
abbrev pub name_of : List ℕ → Result (ℕ × ℕ) Refusal → Got (List ℕ)
name_of s (Ok (start, len)) = got (bytes_at s start len) (start + len)
name_of s (Err e) = bad (number_of e.0) e.1

abbrev pub step_of : Result (ℕ × ℕ) Refusal → Next Spot
step_of (Ok (at, had)) = on (spot at had)
step_of (Err e) = off (number_of e.0) e.1
