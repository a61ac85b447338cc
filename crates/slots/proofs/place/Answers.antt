-- `slots::place` meets its contract: the move and the put make the new list, and what the old one leaves is cleared. Assumes nothing.
use mathlib.Core.Path.{◌≡◌, refl, sym, ap, ◌∙◌}
use mathlib.Core.List.{List}
use Prim.Native.Nat.{ℕ, ◌-◌, ◌≤◌}
use native.Mathlib.Omega.{arith}
use borrow.Rule.Slice.PartMut.{put_mid, mid_of, mid_len}
use lib.ListN.{length, replicate, length-replicate}
use lib.Seq.{paste}
use Rattle.std.proofs.lemmas.Slice.{put_mid-paste}
use Rattle.slots.proofs.Splicing.{placed, placed-cleared}
use Rattle.slots.proofs.place.Goals as goal

-- a part that was filled
filled : {A : Type 0} (z : A) (d : List A) {s : List A} (at end : ℕ) → s ≡ replicate (length (mid_of at (end - at) d)) z → end ≤ length d
    → put_mid at (end - at) d s ≡ paste d at (replicate (end - at) z) (end - at)
filled z d at end e h =
    put_mid-paste at (end - at) d _ _ _ (e ∙ ap (λ (n : ℕ). replicate n z) (mid_len at end d h)) refl (sym (length-replicate (end - at) z))

pub returns-then-len-old : goal.returns-then-len-old
returns-then-len-old g c =
    let a = c.args in
    let blank = (rw c.BLANK.ensures at c.fill.ensures.after) g.met.T.Blank.clones.1 in
    let cleared = filled _ _ _ a.old blank (omega (arith, c.put.auto, c.move_to.auto, c.requires)) in
    (refl, placed-cleared _ _ _ _ _ _ c.requires c.move_to.ensures c.put.ensures c.if-len-old.true cleared)

pub returns-else-len-old : goal.returns-else-len-old
returns-else-len-old g c = (refl, placed _ _ _ _ _ _ c.requires c.move_to.ensures c.put.ensures c.if-len-old.false)
