-- `text_encoder::walk::first` meets its contract: before the first run the whole old column is to come. Assumes nothing.
use mathlib.Core.Path.{◌∙◌}
use Rattle.text.specs.Given.{name_list}
use Rattle.text_encoder.proofs.Advanced.{opening-rest, opening-list}
use Rattle.text_encoder.proofs.walk.first.Goals as goal

pub advanced-requires : goal.advanced-requires
advanced-requires c = let p = c.requires in record { pairs = p.pairs; rest = opening-rest _ _ _ p.start_le_end.0 p.start_le_end.1 p.start_le_end.2 }

pub returns : goal.returns
returns c =
    let x = c.args in
    let p = c.requires.start_le_end in
    let new = name_list x.bytes.now x.starts.now x.lens.now x.present.now in
    let r = c.advanced.ensures in
    record { «at» = r.«at»; result_value = r.result_value ∙ opening-list _ _ _ p.0 p.1 p.2 new }
