-- What each answer of the code stands for.
use Rattle.std.specs.Prelude.{ℕ, Result, Ok, Err}
use Rattle.refusal.specs.Number.{number_of}
use Rattle.refusal.specs.declared.Refusal.{Refusal}
use Rattle.leb128.specs.Got.{Got, got, bad}
use Rattle.pen_log.specs.Entry.{Entry, insert, insert_absent, remove, change}
use Rattle.pen_log.specs.Replay.{Told, written, refusal}
use Rattle.pen_log.specs.declared.LogEntry.{LogEntry}
use Rattle.pen_log.specs.declared.LogEntry.TheVariants as logged

abbrev pub entry_of : Result LogEntry Refusal → Got Entry
entry_of (Ok (logged.Insert i x next)) = got (insert i x) next
entry_of (Ok (logged.InsertAbsent i next)) = got (insert_absent i) next
entry_of (Ok (logged.Remove i next)) = got (remove i) next
entry_of (Ok (logged.Change i x next)) = got (change i x) next
entry_of (Err e) = bad (number_of e.0) e.1

abbrev pub told_of : Result (ℕ × ℕ) Refusal → Told
told_of (Ok (readings, bytes)) = written readings bytes
told_of (Err e) = refusal (number_of e.0) e.1
