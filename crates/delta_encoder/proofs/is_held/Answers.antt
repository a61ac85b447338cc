-- `delta_encoder::is_held` meets its contract: each way out is one case of the two signs. Assumes nothing.
use mathlib.Core.Path.{◌≡◌, ap, ◌∙◌}
use lib.Signed.{mag}
use Rattle.leb128.proofs.Twos.{is-neg, is_pos, same, mag-half}
use Rattle.delta_encoder.proofs.Held.{held-neg-neg, held-pos-pos, held-neg-pos, held-pos-neg}
use Rattle.delta_encoder.proofs.is_held.Goals as goal

pub returns-then-last-lt0 : goal.returns-then-last-lt0
returns-then-last-lt0 c =
    let f = c.ranges in
    held-neg-neg c.args.v c.args.last (mag-half _ f.v) (mag-half _ f.last) (is-neg _ f.v c.if-v-lt0.true) (is-neg _ f.last c.if-last-lt0.true)

mag-last-Else-last-lt0 : (c : goal.Else-last-lt0) → c.magnitude-b.result ≡ mag c.args.last
mag-last-Else-last-lt0 c = c.magnitude-b.ensures.0 ∙ ap mag (same c.args.last c.ranges.last)

mag-v-Else-last-lt0 : (c : goal.Else-last-lt0) → c.magnitude-a.result ≡ mag c.args.v
mag-v-Else-last-lt0 c = c.magnitude-a.ensures.0 ∙ ap mag (same c.args.v c.ranges.v)

pub returns-then-v-lt0 : goal.returns-then-v-lt0
returns-then-v-lt0 c =
    held-neg-pos c.args.v c.args.last (mag-v-Else-last-lt0 c) (mag-last-Else-last-lt0 c) (is-neg _ c.ranges.v c.if-v-lt0.true) (is_pos _ c.ranges.last c.if-last-lt0.false)

mag-last-Then-last-lt0-2 : (c : goal.Then-last-lt0-2) → c.magnitude-b.result ≡ mag c.args.last
mag-last-Then-last-lt0-2 c = c.magnitude-b.ensures.0 ∙ ap mag (same c.args.last c.ranges.last)

mag-v-Then-last-lt0-2 : (c : goal.Then-last-lt0-2) → c.magnitude-a.result ≡ mag c.args.v
mag-v-Then-last-lt0-2 c = c.magnitude-a.ensures.0 ∙ ap mag (same c.args.v c.ranges.v)

pub returns-then-last-lt0-2 : goal.returns-then-last-lt0-2
returns-then-last-lt0-2 c =
    held-pos-neg c.args.v c.args.last (mag-v-Then-last-lt0-2 c) (mag-last-Then-last-lt0-2 c) (is_pos _ c.ranges.v c.if-v-lt0.false) (is-neg _ c.ranges.last c.if-last-lt0-2.true)

pub returns : goal.returns
returns c =
    let f = c.ranges in
    held-pos-pos c.args.v c.args.last (mag-half _ f.v) (mag-half _ f.last) (is_pos _ f.v c.if-v-lt0.false) (is_pos _ f.last c.if-last-lt0-2.false)
