-- The pen's log at the boundary: an entry by its kind's number, and a replay's answer with the library's promise passed on, as in `Told`.
use Rattle.std.specs.Prelude.{◌≡◌, pos}
use Rattle.leb128.specs.Got.{Got, got, bad}
use Rattle.pen_log.specs.Entry.{Entry, insert, insert_absent, remove, change}
use Rattle.pen_log.specs.Replay as replay
use Rattle.capi.specs.declared.Entry.{Entry as Told}
use Rattle.capi.specs.declared.Replayed.{Replayed}

abbrev pub entry_as : Got Entry → Told
entry_as (got (insert i x) next) = record { number = 0; kind = 1; position = i; place = 0; depth = x; next = next }
entry_as (got (insert_absent i) next) = record { number = 0; kind = 2; position = i; place = 0; depth = pos 0; next = next }
entry_as (got (remove i) next) = record { number = 0; kind = 3; position = i; place = 0; depth = pos 0; next = next }
entry_as (got (change i x) next) = record { number = 0; kind = 4; position = i; place = 0; depth = x; next = next }
entry_as (bad number place) = record { number = number; kind = 0; position = 0; place = place; depth = pos 0; next = 0 }

abbrev pub replayed_as : replay.Told → Replayed
replayed_as (replay.written readings bytes) = record { number = 0; place = 0; readings = readings; written = bytes }
replayed_as (replay.refusal number place) = record { number = number; place = place; readings = 0; written = 0 }

pub record ToldReplay (P : replay.Told → Type 0) (r : Replayed) : Type 0 where
  pub told : replay.Told
  pub form : r ≡ replayed_as told
  pub holds : P told
