-- `text_encoder::walk::advanced` meets its contract: one law for each of the list's three parts. Assumes nothing.
use Rattle.text.specs.Given.{name_list}
use Rattle.text.proofs.Givens.{names-past}
use Rattle.text_encoder.proofs.Pairs.{names-next}
use Rattle.text_encoder.proofs.Advanced.{gap-there, early-list, early-going, amid-list, amid-going, late-list, late-going}
use Rattle.text_encoder.proofs.walk.advanced.Goals as goal

pub drawn-d-requires : goal.drawn-d-requires
drawn-d-requires c = record { sound = c.requires.rest.sound; most_nonzero = c.if-s-gt0.true }

pub returns-then-s-gt0 : goal.returns-then-s-gt0
returns-then-s-gt0 c =
    let x = c.args in
    let new = name_list x.bytes.now x.starts.now x.lens.now x.present.now in
    let d = c.drawn-d.ensures in
    let l = c.if-s-gt0.true in record { «at» = early-going x.column.now x.bytes.now new _ c.requires.rest l _ d; result_value = early-list x.column.now x.bytes.now new _ c.requires.rest l _ d }

pub given_at-requires : goal.given_at-requires
given_at-requires c = record { pairs = c.requires.pairs; i_in_bounds = c.if-s-starts.true }

pub returns-then-s-starts : goal.returns-then-s-starts
returns-then-s-starts c =
    let x = c.args in
    let new = name_list x.bytes.now x.starts.now x.lens.now x.present.now in
    let e = names-next _ _ _ _ _ c.requires.pairs c.if-s-starts.true in
    let g = c.given_at.ensures in
    let b = c.if-s-gt0.false in record { «at» = amid-going x.column.now x.bytes.now new _ c.requires.rest b _ _ g e; result_value = amid-list x.column.now x.bytes.now new _ c.requires.rest b _ _ g e }

pub skipped-c-requires : goal.skipped-c-requires
skipped-c-requires c = let h = c.requires.rest in record { sound = h.sound; n_in_bounds = gap-there _ _ h }

pub returns : goal.returns
returns c =
    let x = c.args in
    let new = name_list x.bytes.now x.starts.now x.lens.now x.present.now in
    let e = names-past _ _ _ _ _ c.requires.pairs.even c.if-s-starts.false in
    let q = c.skipped-c.ensures.result_value in
    let d = c.drawn-d-2.ensures in
    let b = c.if-s-gt0.false in record { «at» = late-going x.column.now x.bytes.now new _ c.requires.rest b e _ q _ _ d; result_value = late-list x.column.now x.bytes.now new _ c.requires.rest b e _ q _ _ d }
