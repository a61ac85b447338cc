-- 02, [3], at the boundary: a reason as one struct of numbers, in which `about`, `sign` and `facts` say what applies. "What does not apply is said not to apply."
use Rattle.std.specs.Prelude.{ℕ, ◌/◌, ◌%◌, ◌^◌, pos}
use Rattle.std.proofs.Math.Option.{Option, none, some}
use Rattle.reason.specs.Columns as told
use Rattle.reason.specs.Reason as column
use Rattle.table_reason.specs.TableReason as table
use Rattle.block_reason.specs.Why as block
use Rattle.capi.specs.declared.Reason.{Reason}
use Rattle.capi.specs.declared.reasons.Facts.{Facts}
use Rattle.capi.specs.declared.reasons.Signed.{Signed}

-- ---- the facts: which they are, and their numbers

abbrev pub three : ℕ → ℕ → ℕ → ℕ → Facts
three which a b c = record { which = which; first = a; second = b; third = c; sum = pos 0; delta = pos 0 }

abbrev pub column_facts : column.Facts → Facts
column_facts (column.bytes n) = three 1 n 0 0
column_facts (column.name n there) = three 2 n there 0
column_facts (column.passes had c) = three 3 had c 0
column_facts (column.sum z d) = record { which = 4; first = 0; second = 0; third = 0; sum = z; delta = d }

-- a sum of lengths in its high and its low 64 bits
abbrev pub table_facts : table.Facts → Facts
table_facts (table.bytes n) = three 1 n 0 0
table_facts (table.columns n) = three 5 n 0 0
table_facts (table.falls a b) = three 6 a b 0
table_facts (table.compressed a) = three 7 a 0 0
table_facts (table.lengths total room) = three 8 (total / 2 ^ 64) (total % 2 ^ 64) room

-- ---- a count: 0 where none was read, 1 for the number itself, 2 for its negative

abbrev pub signed : column.Count → Signed
signed column.unread = record { sign = 0; size = 0 }
signed (column.plus n) = record { sign = 1; size = n }
signed (column.minus n) = record { sign = 2; size = n }

-- ---- the reason

-- none: nothing is wrong (0 and 0), or a refusal of the call's own
abbrev pub reasonless : ℕ → ℕ → Reason
reasonless number place =
    record {
      number = number;
      fault = 0;
      about = 0;
      sign = 0;
      facts = 0;
      place = place;
      fault_place = 0;
      which = 0;
      begins = 0;
      count = 0;
      index = 0;
      first = 0;
      second = 0;
      third = 0;
      sum = pos 0;
      delta = pos 0;
    }

-- of a fault at a place, about so and so
abbrev pub because : ℕ → ℕ → ℕ → ℕ → ℕ → Signed → ℕ → Facts → Reason
because fault place about which begins c index f =
    record {
      number = 0;
      fault = fault;
      about = about;
      sign = c.sign;
      facts = f.which;
      place = 0;
      fault_place = place;
      which = which;
      begins = begins;
      count = c.size;
      index = index;
      first = f.first;
      second = f.second;
      third = f.third;
      sum = f.sum;
      delta = f.delta;
    }

abbrev pub run_as : column.Reason → Reason
run_as r = because r.number r.place 3 r.run r.begins (signed r.count) r.index (column_facts r.facts)

abbrev pub row_as : ℕ → ℕ → table.Row → Facts → Reason
row_as fault place table.nowhere f = because fault place 1 0 0 (signed column.unread) 0 f
row_as fault place (table.row i) f = because fault place 2 i 0 (signed column.unread) 0 f

abbrev pub table_as : table.TableReason → Reason
table_as r = row_as r.number r.place r.row (table_facts r.facts)

-- what the three calls answer
abbrev pub column_reason_as : told.Told → Reason
column_reason_as (told.because r) = run_as r
column_reason_as told.faultless = reasonless 0 0
column_reason_as (told.refused number place) = reasonless number place

abbrev pub table_reason_as : Option table.TableReason → Reason
table_reason_as none = reasonless 0 0
table_reason_as (some r) = table_as r

abbrev pub block_reason_as : block.Why → Reason
block_reason_as block.nothing = reasonless 0 0
block_reason_as (block.table r) = table_as r
block_reason_as (block.column position r) = run_as r
block_reason_as (block.refusal number place) = reasonless number place
