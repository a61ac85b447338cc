-- One law for each way out of the functions that tell a table's reason. Assumes nothing.
use mathlib.Core.Path.{◌≡◌, sym, subst, ap}
use mathlib.Core.List.{List}
use mathlib.Core.Bool.{true, false}
use mathlib.Core.Option.{none}
use Prim.Native.Nat.{ℕ, ◌+◌, ◌*◌, ◌-◌, ◌^◌, ◌≤◌, ◌<◌}
use native.Mathlib.Omega.{arith}
use lib.ListN.{length, get_or, take}
use borrow.Author.Tests.{lt-ltb, le-ltb}
use Rattle.std.specs.Prelude.{Some, None, Ok, Err}
use Rattle.refusal.specs.Number.{number_of}
use Rattle.refusal.specs.declared.Refusal.{Refusal}
use Rattle.leb128.specs.Got.{got, bad}
use Rattle.leb128.specs.Read.{u64_at}
use Rattle.raw_column.specs.Table.{rows_at, in_order, sum}
use Rattle.table_reason.specs.Rows.{WasRead, first_of}
use Rattle.table_reason.specs.TableReason.{
  columns,
  falls,
  compressed,
  lengths,
  nowhere,
  row,
  because,
  rows_read,
  first_fall,
  first_compressed,
  unread,
  lengths_reason,
  judged_reason,
  rows_reason,
  table_reason,
}
use Rattle.table_reason.specs.declared.Rows.{Rows}
use Rattle.table_reason.proofs.Firsts.{first-some, first-none, falls-so, falls-not, compressed-so, compressed-not, fall-behind}
use Rattle.table_reason.proofs.Reading.{RowsEnd, rows_end}

-- ---- told_lengths, of a sum in two numbers
module _ (lens : List ℕ) (high low room : ℕ) (e : high * 2 ^ 64 + low ≡ sum lens) where
  told-14 : room < sum lens → because 14 0 nowhere (lengths (high * 2 ^ 64 + low) room) ≡ lengths_reason lens room
  told-14 h = rw (e, lt-ltb room (sum lens) h)

  pub lengths-high : 0 < high → room < 2 ^ 64 → because 14 0 nowhere (lengths (high * 2 ^ 64 + low) room) ≡ lengths_reason lens room
  lengths-high h r = told-14 (omega arith)

  pub lengths-14 : room < low → because 14 0 nowhere (lengths (high * 2 ^ 64 + low) room) ≡ lengths_reason lens room
  lengths-14 h = told-14 (omega arith)

  pub lengths-15 : high ≤ 0 → low < room → because 15 0 nowhere (lengths (high * 2 ^ 64 + low) room) ≡ lengths_reason lens room
  lengths-15 h l =
      let g : sum lens < room = omega arith in
      let k : sum lens ≤ room = omega arith in
      rw (e, le-ltb room (sum lens) k, lt-ltb (sum lens) room g)

  pub lengths-even : high ≤ 0 → low ≤ room → room ≤ low → none ≡ lengths_reason lens room
  lengths-even h l m =
      let g : sum lens ≤ room = omega arith in
      let k : room ≤ sum lens = omega arith in
      rw (le-ltb room (sum lens) g, le-ltb (sum lens) room k)

-- ---- told_rows
module _ (specs : List ℕ) where
  module _ {i : ℕ} (e : Some i ≡ first_of (first_fall 0 specs) (length specs)) where
    falling : in_order 0 specs ≡ false
    falling = falls-so specs (first-some e).1

    -- the row that falls has one before it
    pub rows_behind : 0 < i
    rows_behind = omega (arith, fall-behind specs falling, (first-some e).0)

    pub rows-12 : (size : ℕ) (lens : List ℕ) (next : ℕ)
        → because 12 0 (row i) (falls (get_or specs (i - 1) 0) (get_or specs i 0)) ≡ judged_reason size specs lens next
    rows-12 size lens next = rw (falling, (first-some e).0)

  module _ (e : None ≡ first_of (first_fall 0 specs) (length specs)) (size : ℕ) (lens : List ℕ) (next : ℕ) where
    ordered : in_order 0 specs ≡ true
    ordered = falls-not specs (first-none e)

    pub rows-13 : {j : ℕ} → Some j ≡ first_of (first_compressed specs) (length specs)
        → because 13 0 (row j) (compressed (get_or specs j 0)) ≡ judged_reason size specs lens next
    rows-13 f = rw (ordered, compressed-so specs (first-some f).1, (first-some f).0)

    pub rows-lengths : None ≡ first_of (first_compressed specs) (length specs) → lengths_reason lens (size - next) ≡ judged_reason size specs lens next
    rows-lengths f = rw (ordered, compressed-not specs (first-none f))

-- ---- told_table
module _ {s : List ℕ} {at n : ℕ} where
  pub table-unread : {e : Refusal} {k : ℕ} → WasRead s at n (Err (e, k))
      → unread s (number_of e.0) e.1 (row k) ≡ rows_reason s (rows_read n s at) (rows_at n s at)
  table-unread w = rw (← w.rows, ← w.read)

  module _ {r : Rows} (w : WasRead s at n (Ok r)) where
    pub table-rows : judged_reason (length s) (take n r.specs) (take n r.lens) r.next ≡ rows_reason s (rows_read n s at) (rows_at n s at)
    table-rows = ap (rows_reason s (rows_read n s at)) w.rows

    pub table-next : at ≤ length s → r.next ≤ length s
    table-next h = (subst (RowsEnd s n at (rows_read n s at)) (sym w.rows) (rows_end s n at)).2 h

-- ---- table_reason
module _ (s : List ℕ) where
  pub reason-bad : {number place : ℕ} → u64_at s 0 ≡ bad number place → unread s number place nowhere ≡ table_reason s
  unfolding table_reason
  reason-bad e = rw e

  module _ {n q : ℕ} (e : u64_at s 0 ≡ got n q) where
    pub reason-11 : 64 < n → because 11 0 nowhere (columns n) ≡ table_reason s
    unfolding table_reason
    reason-11 h = rw (e, lt-ltb 64 n h)

    pub reason-rows : n ≤ 64 → rows_reason s (rows_read n s q) (rows_at n s q) ≡ table_reason s
    unfolding table_reason
    reason-rows h = rw (e, le-ltb 64 n h)
