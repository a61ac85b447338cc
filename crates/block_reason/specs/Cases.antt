-- What each answer of the code stands for.
use Rattle.std.specs.Prelude.{Option, Some, None, Result, Ok, Err}
use Rattle.refusal.specs.Number.{number_of}
use Rattle.refusal.specs.declared.Refusal.{Refusal}
use Rattle.reason.specs.Cases.{reason_of}
use Rattle.table_reason.specs.Cases as tables
use Rattle.block_reason.specs.Why as spec
use Rattle.block_reason.specs.declared.Fault.{Fault}
use Rattle.block_reason.specs.declared.Fault.TheVariants as fault

abbrev pub why_of : Result (Option Fault) Refusal → spec.Why
why_of (Ok None) = spec.nothing
why_of (Ok (Some (fault.Table r))) = spec.table (tables.reason_of r)
why_of (Ok (Some (fault.Column position r))) = spec.column position (reason_of r)
why_of (Err e) = spec.refusal (number_of e.0) e.1
