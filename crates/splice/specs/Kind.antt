-- What an edit needs of the kind of column that it edits: which kind it is, what a column's bytes read as, what a list is written as, the first
-- reading that cannot be written (7), and whether 7 and 10 leave the slots as found. A is one reading of the list.
use Rattle.std.specs.Prelude.{ℕ, List, Bool}
use Rattle.std.proofs.Math.Option.{Option}
use Rattle.encoding.specs.Walk.{Trace}
use Rattle.splice.specs.declared.ColumnKind.{ColumnKind}

pub record Kind (A : Type 0) : Type 0 where
  pub kind : ColumnKind
  pub reads : List ℕ → Trace A
  pub writes : List A → List ℕ
  pub wide : List A → Option ℕ
  pub keeps : Bool
