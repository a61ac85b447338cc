-- What each case of the answer of packing stands for.
use Rattle.std.specs.Prelude.{Result, Ok, Err}
use Rattle.refusal.specs.Number.{number_of}
use Rattle.refusal.specs.declared.Refusal.{Refusal}
use Rattle.column_specification.specs.Specification.{Packing, made, refused}
use Rattle.column_specification.specs.declared.ColumnSpec.{ColumnSpec}

abbrev pub packing_of : Result ColumnSpec Refusal → Packing
packing_of (Ok s) = made s.0
packing_of (Err e) = refused (number_of e.0) e.1
