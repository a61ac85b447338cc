-- `text_encoder::writing::put_held` meets its contract: a name from the old column or the given bytes, or nothing. Assumes nothing.
use mathlib.Core.Path.{sym, ap}
use Rattle.encoding.proofs.Putting.{put_as}
use Rattle.encoding.specs.Cuts.{written_in}
use Rattle.text.specs.Text.{text_e}
use Rattle.text_encoder.specs.Walks.{held_in}
use Rattle.text_encoder.specs.declared.walk.Held.{Held}
use Rattle.encoding.proofs.Written.{put-nothing}
use Rattle.text_encoder.proofs.writing.put_held.Goals as goal

pub put_name-requires : goal.put_name-requires
put_name-requires c =
    let p = c.requires in
    let e = c.in-Old.is in
    (rw e at p.within, rw e at p.held_in_bounds)

pub put_name-requires-in-New : goal.put_name-requires-in-New
put_name-requires-in-New c =
    let p = c.requires in
    let e = c.in-New.is in
    (rw e at p.within, rw e at p.held_in_bounds)

pub returns-in-Absent : goal.returns-in-Absent
returns-in-Absent c =
    let a = c.args in
    put_as (ap (λ (h : Held). written_in text_e (held_in a.column.now a.bytes.now h)) (sym c.in-Absent.is)) (put-nothing a.out.now a.at)

pub returns-in-Old : goal.returns-in-Old
returns-in-Old c =
    let a = c.args in
    let e = ap (λ (h : Held). written_in text_e (held_in a.column.now a.bytes.now h)) (sym c.in-Old.is) in
    put_as e c.put_name.ensures

pub returns-in-New : goal.returns-in-New
returns-in-New c =
    let a = c.args in
    let e = ap (λ (h : Held). written_in text_e (held_in a.column.now a.bytes.now h)) (sym c.in-New.is) in
    put_as e c.put_name-in-New.ensures
