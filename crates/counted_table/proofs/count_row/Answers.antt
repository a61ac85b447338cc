-- `counted_table::count_row` meets its contract: 17, the count that is stored, or the column's. Assumes nothing.
use mathlib.Core.Path.{◌∙◌, ap}
use Prim.Native.Nat.{◌-◌}
use lib.ListN.{take, drop}
use Rattle.encoding.specs.Cases.{maybe_of}
use Rattle.counted_table.proofs.Asking.{count_none, count-beyond, count-stored, count-read, served-range}
use Rattle.counted_table.proofs.count_row.Goals as goal

pub returns-then-typ-eq0 : goal.returns-then-typ-eq0
returns-then-typ-eq0 c =
    let a = c.args in
    count_none a.typ (take (a.till - a.at) (drop a.at a.block.now)) (maybe_of a.stored) c.if-typ-eq0.true

pub returns-then-typ-gt5 : goal.returns-then-typ-gt5
returns-then-typ-gt5 c =
    let a = c.args in
    count-beyond a.typ (take (a.till - a.at) (drop a.at a.block.now)) (maybe_of a.stored) c.if-typ-gt5.true

pub count_of-requires : goal.count_of-requires
count_of-requires c =
    let a = c.args in
    let if1 = c.if-typ-eq0 in
    let if2 = c.if-typ-gt5 in
    served-range a.typ if1.false if2.false

pub returns-in-Some : goal.returns-in-Some
returns-in-Some c =
    let a = c.args in
    let if1 = c.if-typ-eq0 in
    let if2 = c.if-typ-gt5 in
    count-stored a.typ _ if1.false if2.false _ (ap maybe_of c.in-Some.is)

pub returns-in-None : goal.returns-in-None
returns-in-None c =
    let a = c.args in
    let if1 = c.if-typ-eq0 in
    let if2 = c.if-typ-gt5 in
    c.count_of.ensures ∙ count-read a.typ _ if1.false if2.false _ (ap maybe_of c.in-None.is)
