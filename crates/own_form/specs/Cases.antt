-- What each answer of the code stands for.
use Rattle.std.specs.Prelude.{ℕ, Option, Some, None, Result, Ok, Err}
use Rattle.refusal.specs.Number.{number_of}
use Rattle.refusal.specs.declared.Refusal.{Refusal}
use Rattle.own_form.specs.Form as spec

abbrev pub form_as : Result (Option ℕ) Refusal → spec.Form
form_as (Ok None) = spec.ours
form_as (Ok (Some place)) = spec.other place
form_as (Err e) = spec.refused (number_of e.0) e.1
