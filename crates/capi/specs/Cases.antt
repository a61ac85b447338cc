-- What each answer of the library's definitions is at the boundary: number 0 where the call is accepted, and every other number 0 where it
-- is refused (01, "Refusal numbers").
use Rattle.std.specs.Prelude.{ℕ, ℤ, pos}
use Rattle.leb128.specs.Got.{Got, got, bad}
use Rattle.leb128.specs.Answer.{Answer, done, refused}
use Rattle.column_specification.specs.Specification.{Packing, made}
use Rattle.column_specification.specs.Specification as packing
use Rattle.encoding.specs.Survivors.{Surveyed}
use Rattle.salvage.specs.Salvage.{Outcome, saved, refusal}
use Rattle.column_part.specs.Part.{Part as RawPart}
use Rattle.corrections.specs.Over.{Over, corrected, scanned, neither}
use Rattle.block_frame.specs.Frame.{Frame as RawFrame}
use Rattle.capi.specs.declared.NumberU64.{NumberU64}
use Rattle.capi.specs.declared.NumberI64.{NumberI64}
use Rattle.capi.specs.declared.NumberU32.{NumberU32}
use Rattle.capi.specs.declared.Counted.{Counted}
use Rattle.capi.specs.declared.Survey.{Survey}
use Rattle.capi.specs.declared.Salvaged.{Salvaged}
use Rattle.capi.specs.declared.Specification.{Specification}
use Rattle.capi.specs.declared.Part.{Part}
use Rattle.capi.specs.declared.Layered.{Layered}
use Rattle.capi.specs.declared.Frame.{Frame}

abbrev pub number_u64 : Got ℕ → NumberU64
number_u64 (got v next) = record { number = 0; place = 0; value = v; next = next }
number_u64 (bad r place) = record { number = r; place = place; value = 0; next = 0 }

abbrev pub number_i64 : Got ℤ → NumberI64
number_i64 (got x next) = record { number = 0; place = 0; value = x; next = next }
number_i64 (bad r place) = record { number = r; place = place; value = pos 0; next = 0 }

abbrev pub number_u32 : Got ℕ → NumberU32
number_u32 (got v next) = record { number = 0; place = 0; value = v; next = next }
number_u32 (bad r place) = record { number = r; place = place; value = 0; next = 0 }

abbrev pub counted : Answer → Counted
counted (done n) = record { number = 0; place = 0; count = n }
counted (refused r place) = record { number = r; place = place; count = 0 }

-- what survives of a column
abbrev pub survey_as : Surveyed → Survey
survey_as s = record { fault = s.number; place = s.place; readings = s.readings }

-- a salvage: the column's fault beside the call's own refusal
abbrev pub salvaged_as : Outcome → Salvaged
salvaged_as (saved kept written fault place) = record { number = 0; fault = fault; place = 0; fault_place = place; kept = kept; written = written }
salvaged_as (refusal r place) = record { number = r; fault = 0; place = place; fault_place = 0; kept = 0; written = 0 }

abbrev pub specification : Packing → Specification
specification (made spec) = record { number = 0; place = 0; spec = spec }
specification (packing.refused r place) = record { number = r; place = place; spec = 0 }

-- the library's structs, field by field
abbrev pub part_as : RawPart → Part
part_as p = record { number = p.number; place = p.place; start = p.start; len = p.len }

-- the same, of the block with this number
abbrev pub part_in : ℕ → RawPart → Layered
part_in block p = record { number = p.number; block = block; place = p.place; start = p.start; len = p.len }

-- 02, [10]: "the answer says which block": 1 the corrections, 2 the first scan, 0 neither
abbrev pub layered_as : Over → Layered
layered_as (corrected p) = part_in 1 p
layered_as (scanned p) = part_in 2 p
layered_as neither = record { number = 0; block = 0; place = 0; start = 0; len = 0 }

abbrev pub frame_as : RawFrame → Frame
frame_as f = record { number = f.number; place = f.place; at = f.at; len = f.len }
