-- `text_encoder::walk::stepped` meets its contract: one reading of the piece that is held, or the next piece. Assumes nothing.
use Rattle.text.specs.Given.{name_list}
use Rattle.text_encoder.proofs.Advanced.{fewer-list, fewer-going, last-list}
use Rattle.text_encoder.proofs.walk.stepped.Goals as goal

pub returns-then-s-gt1 : goal.returns-then-s-gt1
returns-then-s-gt1 c =
    let x = c.args in
    let new = name_list x.bytes.now x.starts.now x.lens.now x.present.now in
    let l = c.if-s-gt1.true in record { at_2 = fewer-going x.column.now x.bytes.now new _ c.requires.«at» l; s_value = fewer-list x.column.now x.bytes.now new _ c.requires.«at» l }

pub advanced-requires : goal.advanced-requires
advanced-requires c = let p = c.requires in record { pairs = p.pairs; rest = p.«at».rest }

pub returns : goal.returns
returns c =
    let x = c.args in
    let new = name_list x.bytes.now x.starts.now x.lens.now x.present.now in
    let r = c.advanced.ensures in
    record { at_2 = r.«at»; s_value = last-list x.column.now x.bytes.now new _ c.requires.«at» c.requires.times_nonzero c.if-s-gt1.false r.result_value }
