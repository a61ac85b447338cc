-- A row of an accepted table as the code has it: what a private function of the writer asks of its caller. No public promise cites it.
use Rattle.std.specs.Prelude.{ℕ, ◌≤◌, ◌<◌, ◌≡◌, List, length, get_or, take}
use Rattle.raw_column.specs.Table.{tab, sum, parse}
use Rattle.raw_column.specs.declared.Table.{Table}

pub record Chosen (s : List ℕ) (table : Table) (next position : ℕ) : Type 0 where
  pub is : parse s ≡ tab (take table.rows table.specs) (take table.rows table.lens) next
  pub there : position < table.rows
  pub few : table.rows ≤ 64
  pub specs_long : length table.specs ≡ 64
  pub lens_long : length table.lens ≡ 64
  pub start : get_or table.starts position 0 ≡ sum (take position (take table.rows table.lens))
