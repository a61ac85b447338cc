-- `run_head::begun_at` meets its contract: one law for each sign of the count. Assumes nothing.
use mathlib.Core.Path.{sym, ◌∙◌, ap}
use lib.IntN.{nat_abs}
use mir.Syntax.{w64}
use mir.Val.{to_z, of_z}
use Rattle.leb128.proofs.Twos.{is-neg, is_pos, same}
use Rattle.run_head.proofs.Begun.{negative, nought, positive}
use Rattle.run_head.proofs.begun_at.Goals as goal

pub returns-then-c-lt0 : goal.returns-then-c-lt0
returns-then-c-lt0 c =
    let x = c.args.c in
    let n = c.count_of.ensures ∙ ap nat_abs (same x c.ranges.c) in
    c.literal_at.ensures ∙ negative _ _ _ _ (is-neg x c.ranges.c c.if-c-lt0.true) n

pub returns-then-c-eq0 : goal.returns-then-c-eq0
returns-then-c-eq0 c =
    c.absent_at.ensures ∙ nought _ _ _ _ (sym (same c.args.c c.ranges.c) ∙ ap (to_z w64) c.if-c-eq0.true)

pub returns : goal.returns
returns c =
    let x = c.args.c in
    let n = c.count_of-2.ensures ∙ ap nat_abs (same x c.ranges.c) in
    let p = is_pos x c.ranges.c c.if-c-lt0.false in
    c.repeat_at.ensures ∙ positive _ _ _ _ p (λ z. c.if-c-eq0.false (ap (of_z w64) p ∙ z)) n
