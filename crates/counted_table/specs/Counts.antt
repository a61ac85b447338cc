-- 02, [6]: a table whose rows carry their column's number of readings. "Let each table row carry its column's number of readings, or say it isn't known,
-- as after opening. Asking for a count stores it when the column reads without fault"
use Rattle.std.specs.Prelude.{ℕ, zero, suc, List, Bool, true, cond, ◌&&◌, ◌||◌, eqb, get_or, set, take, replicate}
use Rattle.std.proofs.Math.Option.{Option, none, some}
use Rattle.leb128.specs.Answer.{Answer, done, refused}
use Rattle.column_specification.specs.Served.{integer_type, delta_type, boolean_type, text_type}
use Rattle.column_specification.specs.Specification.{type_of}
use Rattle.encoding.specs.Column.{trace}
use Rattle.encoding.specs.Walk.{outcome}
use Rattle.rle_decoder.specs.Word.{u64_e}
use Rattle.delta_decoder.specs.Sums.{delta_trace}
use Rattle.boolean_decoder.specs.Turns.{bool_trace}
use Rattle.text.specs.Text.{text_e}
use Rattle.raw_column.specs.Table.{Tab, tab, faulty, parse}
use Rattle.raw_column.specs.Rows.{pad, table_of, opened}
use Rattle.raw_column.specs.declared.Table.{Table}
use Rattle.column_part.specs.Part.{part_in, bytes_of, Part}
use Rattle.counted_table.specs.declared.CountedTable.{CountedTable}
use Rattle.counted_table.specs.declared.CountedOpened.{CountedOpened}
use Rattle.counted_table.specs.declared.CountedColumn.{CountedColumn}

-- no count is known
abbrev pub uncounted : Table → CountedTable
uncounted t = record { table = t; counts = replicate 64 0; known = replicate 64 0 }

abbrev pub counted_opened : Tab → CountedOpened
counted_opened t =
    let o = opened t in
    record { number = o.number; place = o.place; start = o.start; table = uncounted o.table }

-- the count that a row carries
unfoldable pub stored_at : CountedTable → ℕ → Option ℕ
stored_at lent i = cond (eqb (get_or lent.known i 0) 0) none (some (get_or lent.counts i 0))

-- the rows of a table made anew, the counts of those rows as lent, and one count stored; unused places are 0
unfoldable pub stored : CountedTable → Table → ℕ → ℕ → CountedTable
stored lent t i n =
    record { table = t; counts = set (pad (take t.rows lent.counts)) i n; known = set (pad (take t.rows lent.known)) i 1 }

-- do the first n rows of two tables agree, in specification, start and length?
abbrev pub row_agrees : ℕ → Table → Table → Bool
row_agrees i a b =
    eqb (get_or a.specs i 0) (get_or b.specs i 0)
    && (eqb (get_or a.starts i 0) (get_or b.starts i 0) && eqb (get_or a.lens i 0) (get_or b.lens i 0))

unfoldable pub agree_to : ℕ → Table → Table → Bool
agree_to zero a b = true
agree_to (suc i) a b = row_agrees i a b && agree_to i a b

-- 25: "a lent table whose rows, counts aside, are not those of the block's bytes"; unused places are no rows
unfoldable pub fits : Table → Table → Bool
fits lent read = eqb lent.rows read.rows && agree_to read.rows lent read

-- "place 0, directly after table faults": a block's table as it is read beside the one that is lent
abbrev pub lent_in : CountedTable → Tab → Tab
lent_in lent (faulty number place) = faulty number place
lent_in lent (tab specs lens next) = cond (fits lent.table (table_of specs lens)) (tab specs lens next) (faulty 25 0)

unfoldable pub lent_tab : CountedTable → List ℕ → Tab
lent_tab lent s = lent_in lent (parse s)

-- how many readings a column has by its type, or its first fault; 17 for a type that no count serves
abbrev pub served : ℕ → Bool
served t = integer_type t || (delta_type t || (boolean_type t || text_type t))

unfoldable pub count_of : ℕ → List ℕ → Answer
count_of t column =
    cond (integer_type t) (outcome (trace u64_e column))
    (cond (delta_type t) (outcome (delta_trace column))
    (cond (boolean_type t) (outcome (bool_trace column))
    (cond (text_type t) (outcome (trace text_e column)) (refused 17 0))))

-- "Counting checks 16, 17, then answers a stored count as it stands, else checks column faults"
abbrev pub or_counted : Option ℕ → Answer → Answer
or_counted none a = a
or_counted (some n) a = done n

abbrev pub row_count : ℕ → Option ℕ → List ℕ → Answer
row_count t stored column = cond (served t) (or_counted stored (count_of t column)) (refused 17 0)

abbrev pub count_part : CountedTable → ℕ → List ℕ → Part → Answer
count_part lent position s p =
    cond (eqb p.number 0) (row_count (type_of p.spec) (stored_at lent position) (bytes_of s p)) (refused p.number p.place)

unfoldable pub count_in : CountedTable → ℕ → List ℕ → Tab → Answer
count_in lent position s t = count_part lent position s (part_in position t)

-- the count, and the table: with it stored, made anew from the bytes; "a refused count or edit gives the table back as lent"
abbrev pub is_counted : CountedTable → Table → ℕ → ℕ → CountedColumn
is_counted lent t position n = record { number = 0; place = 0; count = n; table = stored lent t position n }

abbrev pub not_counted : CountedTable → ℕ → ℕ → CountedColumn
not_counted lent number place = record { number = number; place = place; count = 0; table = lent }

abbrev pub counted_as : CountedTable → ℕ → Tab → Answer → CountedColumn
counted_as lent position t (done n) = is_counted lent (opened t).table position n
counted_as lent position t (refused number place) = not_counted lent number place

unfoldable pub counted : CountedTable → List ℕ → ℕ → CountedColumn
counted lent s position = counted_as lent position (lent_tab lent s) (count_in lent position s (lent_tab lent s))
