-- What the private functions answer: rows as they were read.
use Rattle.std.specs.Prelude.{ℕ, ◌≡◌, List, cond, ltb, take, Option, Some, None, Result, Ok, Err, IfErr}
use Rattle.refusal.specs.Number.{number_of}
use Rattle.refusal.specs.declared.Refusal.{Refusal}
use Rattle.raw_column.specs.Table.{Tab, tab, faulty, rows_at}
use Rattle.table_reason.specs.TableReason.{rows_read}
use Rattle.table_reason.specs.declared.Rows.{Rows}

-- the n rows that an answer stands for; or the refusal of one
abbrev pub tab_of : ℕ → Result Rows (Refusal × ℕ) → Tab
tab_of n (Ok r) = tab (take n r.specs) (take n r.lens) r.next
tab_of n (Err e) = faulty (number_of e.0.0) e.0.1

-- what reading n rows from a position on answers; where one is refused, as many read before it
pub record WasRead (s : List ℕ) (at n : ℕ) (r : Result Rows (Refusal × ℕ)) : Type 0 where
  pub rows : tab_of n r ≡ rows_at n s at
  pub read : IfErr r (λ e. e.1 ≡ rows_read n s at)

-- the first of n rows that a search ends at; none where it ends behind them
abbrev pub first_of : ℕ → ℕ → Option ℕ
first_of i n = cond (ltb i n) (Some i) None
