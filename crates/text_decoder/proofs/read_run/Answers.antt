-- `text_decoder::read_run` meets its contract: one law for each way that the run can begin. Assumes nothing.
use mathlib.Core.Path.{◌∙◌, ap}
use Rattle.std.specs.Prelude.{Ok}
use Rattle.encoding.specs.Cases.{head_of}
use Rattle.encoding.proofs.Via.{via}
use Rattle.encoding.proofs.Reading.{reads-repeat, reads-unreadable, reads-literal, reads-absent, reads-amiss}
use Rattle.text.specs.Text.{text_e}
use Rattle.text_decoder.specs.Cases.{name_of}
use Rattle.text_decoder.proofs.read_run.Goals as goal

pub returns-in-Ok : goal.returns-in-Ok
returns-in-Ok c =
    let h = via head_of c.head_of.ensures (c.in-Ok-Repeat.is ∙ ap Ok c.in-Ok-Repeat.field-0-is) in
    let r = via (name_of c.args.s.now) c.name_at.ensures c.in-Ok.is in
    let p = c.requires.at_in_bounds in
    let both : _ × _ = reads-repeat text_e _ _ _ p.0 p.1 _ _ _ _ h r in record { value = both.0; result_bound = both.1 }

pub returns-in-Err-name_at : goal.returns-in-Err-name_at
returns-in-Err-name_at c =
    let h = via head_of c.head_of.ensures (c.in-Ok-Repeat.is ∙ ap Ok c.in-Ok-Repeat.field-0-is) in
    let r = via (name_of c.args.s.now) c.name_at.ensures c.in-Err-name_at.is in
    let p = c.requires.at_in_bounds in
    let both : _ × _ = reads-unreadable text_e _ _ _ p.0 p.1 _ _ _ _ h r in record { value = both.0; result_bound = both.1 }

pub returns-in-Ok-Literal : goal.returns-in-Ok-Literal
returns-in-Ok-Literal c =
    let h = via head_of c.head_of.ensures (c.in-Ok-Literal.is ∙ ap Ok c.in-Ok-Literal.field-0-is) in
    let p = c.requires.at_in_bounds in
    let both : _ × _ = reads-literal text_e _ _ _ p.0 p.1 _ _ _ h c.read_literals.ensures in record { value = both.0; result_bound = both.1 }

pub returns-in-Ok-Absent : goal.returns-in-Ok-Absent
returns-in-Ok-Absent c =
    let h = via head_of c.head_of.ensures (c.in-Ok-Absent.is ∙ ap Ok c.in-Ok-Absent.field-0-is) in
    let p = c.requires.at_in_bounds in
    let both : _ × _ = reads-absent text_e _ _ _ p.0 p.1 _ _ h in record { value = both.0; result_bound = both.1 }

pub returns-in-Err : goal.returns-in-Err
returns-in-Err c =
    let h = via head_of c.head_of.ensures c.in-Err.is in
    let p = c.requires.at_in_bounds in
    let both : _ × _ = reads-amiss text_e _ _ _ p.0 p.1 _ _ h in record { value = both.0; result_bound = both.1 }
