-- 01, "Table and block": "A table keeps its rows, with start and length, in up to 64 places of its own, unused places 0 and no rows on a
-- refusal." "Data ranges follow one another from 0."
use Rattle.std.specs.Prelude.{ℕ, suc, ◌+◌, ◌-◌, ◌≤◌, ◌<◌, ◌≡◌, List, [], ◌∷◌, ◌++◌, cond, not, length, replicate, ltb, Option, Some, None, Result, Ok, Err, MatchResult}
use Rattle.leb128.specs.Got.{got}
use Rattle.leb128.specs.Read.{u64_at}
use Rattle.raw_column.specs.Table.{Tab, tab, faulty, with_row, rows_at, in_order, plain, parse}
use Rattle.refusal.specs.Number.{number_of}
use Rattle.refusal.specs.declared.Refusal.{Refusal}
use Rattle.refusal.specs.declared.Why.{Why}
use Rattle.raw_column.specs.declared.Row.{Row}
use Rattle.raw_column.specs.declared.Table.{Table}
use Rattle.raw_column.specs.declared.Opened.{Opened}
use Rattle.raw_column.specs.declared.TableAnswer.{TableAnswer}

unfoldable pub pad : List ℕ → List ℕ
pad xs = xs ++ replicate (64 - length xs) 0

unfoldable pub starts_from : ℕ → List ℕ → List ℕ
starts_from k [] = []
starts_from k (len ∷ lens) = k ∷ starts_from (k + len) lens

-- the table that stands for rows of these specifications and lengths
abbrev pub table_of : List ℕ → List ℕ → Table
table_of specs lens = record { specs = pad specs; starts = pad (starts_from 0 lens); lens = pad lens; rows = length specs }

abbrev pub empty_table : ℕ → Table
empty_table n = record { specs = replicate 64 0; starts = replicate 64 0; lens = replicate 64 0; rows = n }

abbrev pub no_table : Table
no_table = empty_table 0

-- the answer of reading a table: number 0 where it is accepted, and where the data begins
abbrev pub opened : Tab → TableAnswer
opened (tab specs lens next) = record { table = table_of specs lens; number = 0; place = 0; start = next }
opened (faulty number place) = record { table = no_table; number = number; place = place; start = 0 }

-- what the code's own answer stands for
abbrev pub opened_of : Result Opened Refusal → TableAnswer
opened_of (Ok o) = record { table = o.table; number = 0; place = 0; start = o.start }
opened_of (Err e) = record { table = no_table; number = number_of e.0; place = e.1; start = 0 }

-- the count of rows
abbrev pub Counted : List ℕ → Result (ℕ × ℕ) Refusal → Type 0
Counted s r = MatchResult r (λ c. (u64_at s 0 ≡ got c.0 c.1) × (c.0 ≤ 64)) (λ e. faulty (number_of e.0) e.1 ≡ parse s)

-- a row in front of others, however many
abbrev pub Taken : List ℕ → ℕ → Row → Type 0
Taken s p r = (0 < r.next) × (r.next ≤ length s) × ((n : ℕ) → rows_at (suc n) s p ≡ with_row r.spec r.len (rows_at n s r.next))

abbrev pub Read : List ℕ → ℕ → Result Row Refusal → Type 0
Read s p r = MatchResult r (Taken s p) (λ e. (n : ℕ) → rows_at (suc n) s p ≡ faulty (number_of e.0) e.1)

-- 12, 13, 14 or 15
abbrev pub fault_of : List ℕ → ℕ → ℕ → ℕ
fault_of specs total room =
    cond (not (in_order 0 specs)) 12 (cond (not (plain specs)) 13 (cond (ltb room total) 14 (cond (ltb total room) 15 0)))

-- none of these is 0
abbrev pub fault_number : Option Why → ℕ
fault_number None = 0
fault_number (Some why) = number_of why
