-- `text_encoder::stretches::paired` meets its contract: each way out is a law of looking ahead. Assumes nothing.
use native.Mathlib.Omega.{arith}
use Rattle.text_encoder.proofs.Stretching.{paired-piece, paired-end, paired-held}
use Rattle.text_encoder.proofs.stretches.paired.Goals as goal

pub returns-then-s-gt1 : goal.returns-then-s-gt1
returns-then-s-gt1 c =
    let p = c.requires in
    paired-piece _ _ _ _ p.«at» p.times_nonzero.1 c.if-s-gt1.true

pub returns-then-walk-eq0 : goal.returns-then-walk-eq0
returns-then-walk-eq0 c =
    let p = c.requires in
    let a = c.advanced-walk.ensures in
    let l = c.if-s-gt1.false in
    paired-end _ _ _ _ p.«at» p.times_nonzero.1 _ a.«at» (omega (arith, p.times_nonzero.0)) a.result_value (omega arith)

pub returns : goal.returns
returns c =
    let p = c.requires in
    let a = c.advanced-walk.ensures in
    let l = c.if-s-gt1.false in
    let n = c.if-walk-eq0.false in
    paired-held _ _ _ _ p.«at» p.times_nonzero.1 _ a.«at» (omega (arith, p.times_nonzero.0)) a.result_value _ (omega arith) c.same_held.ensures
