-- What each answer of the code stands for.
use Rattle.std.specs.Prelude.{Option, Some, None, Result, Ok, Err}
use Rattle.refusal.specs.Number.{number_of}
use Rattle.refusal.specs.declared.Refusal.{Refusal}
use Rattle.column_part.specs.declared.Part.{Part}
use Rattle.column_part.specs.Part.{no_part, taken}
use Rattle.corrections.specs.Over as spec
use Rattle.corrections.specs.declared.Layered.{Layered}
use Rattle.corrections.specs.declared.Layered.TheVariants as layered

abbrev pub layered_of : Result (Option (Layered Part)) (Layered Refusal) → spec.Over
layered_of (Ok (Some (layered.Corrections p))) = spec.corrected (taken p)
layered_of (Ok (Some (layered.First p))) = spec.scanned (taken p)
layered_of (Ok None) = spec.neither
layered_of (Err (layered.Corrections e)) = spec.corrected (no_part (number_of e.0) e.1)
layered_of (Err (layered.First e)) = spec.scanned (no_part (number_of e.0) e.1)
