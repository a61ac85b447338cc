-- `delta_cursor::is_held` meets its contract: each way out is one case of the two signs. Assumes nothing.
use mathlib.Core.Path.{◌≡◌, ap, ◌∙◌}
use lib.Signed.{mag}
use Rattle.leb128.proofs.Twos.{is-neg, is_pos, same, mag-half}
use Rattle.delta_cursor.proofs.Held.{held-neg-pos, held-pos-neg, held-neg-neg, held-pos-pos}
use Rattle.delta_cursor.proofs.is_held.Goals as goal

mag-d-Then-d-lt0 : (c : goal.Then-d-lt0) → c.magnitude-b.result ≡ mag c.args.d
mag-d-Then-d-lt0 c = c.magnitude-b.ensures.0 ∙ ap mag (same c.args.d c.ranges.d)

mag-z-Then-d-lt0 : (c : goal.Then-d-lt0) → c.magnitude-a.result ≡ mag c.args.z
mag-z-Then-d-lt0 c = c.magnitude-a.ensures.0 ∙ ap mag (same c.args.z c.ranges.z)

pub returns-then-d-lt0 : goal.returns-then-d-lt0
returns-then-d-lt0 c =
    held-neg-neg c.args.z c.args.d (mag-z-Then-d-lt0 c) (mag-d-Then-d-lt0 c) (is-neg _ c.ranges.z c.if-z-lt0.true) (is-neg _ c.ranges.d c.if-d-lt0.true)

pub returns-then-z-lt0 : goal.returns-then-z-lt0
returns-then-z-lt0 c =
    let f = c.ranges in
    held-neg-pos c.args.z c.args.d (mag-half _ f.z) (mag-half _ f.d) (is-neg _ f.z c.if-z-lt0.true) (is_pos _ f.d c.if-d-lt0.false)

pub returns-then-d-lt0-2 : goal.returns-then-d-lt0-2
returns-then-d-lt0-2 c =
    let f = c.ranges in
    held-pos-neg c.args.z c.args.d (mag-half _ f.z) (mag-half _ f.d) (is_pos _ f.z c.if-z-lt0.false) (is-neg _ f.d c.if-d-lt0-2.true)

mag-d-Else-d-lt0-2 : (c : goal.Else-d-lt0-2) → c.magnitude-b.result ≡ mag c.args.d
mag-d-Else-d-lt0-2 c = c.magnitude-b.ensures.0 ∙ ap mag (same c.args.d c.ranges.d)

mag-z-Else-d-lt0-2 : (c : goal.Else-d-lt0-2) → c.magnitude-a.result ≡ mag c.args.z
mag-z-Else-d-lt0-2 c = c.magnitude-a.ensures.0 ∙ ap mag (same c.args.z c.ranges.z)

pub returns : goal.returns
returns c =
    held-pos-pos c.args.z c.args.d (mag-z-Else-d-lt0-2 c) (mag-d-Else-d-lt0-2 c) (is_pos _ c.ranges.z c.if-z-lt0.false) (is_pos _ c.ranges.d c.if-d-lt0-2.false)
