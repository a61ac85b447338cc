-- `rle_decoder::skip_short` meets its contract: what comes behind all c values comes behind those past the first n. Assumes nothing.
use Prim.Native.Nat.{◌+◌, ◌≤◌}
use mathlib.Core.Path.{refl, ◌∙◌}
use native.Mathlib.Omega.{arith}
use lib.ListN.{length}
use Rattle.rle_decoder.proofs.Short.{behind-eq, short-passed}
use Rattle.rle_decoder.proofs.skip_short.Goals as goal
use Rattle.rle_decoder.proofs.skip_short.Goals.{else-c-room, then-c-room}

pub returns-then-s-q : goal.returns-then-s-q
returns-then-s-q c = (omega arith, omega arith, λ total. behind-eq _ _ (omega arith) refl)

pub overflow_sub-room : goal.overflow_sub-room
overflow_sub-room c = omega arith

pub loop-n-init : goal.loop-n-init
loop-n-init c =
    let a = c.args in
    let few : c.if-c-room.most ≤ a.c = (elim c.if-c-room.branch [ then-c-room w ↦ omega arith | else-c-room w ↦ omega arith ]) in
    let within : a.q + c.if-c-room.most ≤ length a.s.now = (elim c.if-c-room.branch [ then-c-room w ↦ omega arith | else-c-room w ↦ omega arith ]) in
    (omega arith, few, within, λ total. behind-eq _ _ (omega arith) (omega arith))

pub overflow_sub-most : goal.overflow_sub-most
overflow_sub-most c = omega arith

pub overflow_add-q : goal.overflow_add-q
overflow_add-q c = omega arith

pub short_block-requires : goal.short_block-requires
short_block-requires c = omega arith

pub overflow_add-result : goal.overflow_add-result
overflow_add-result c = omega arith

pub returns-then-not-short_block : goal.returns-then-not-short_block
returns-then-not-short_block c =
    let a = c.loop-n.invariant in
    (omega arith, omega arith, λ total. a.3 total ∙ behind-eq _ _ (omega arith) refl)

pub overflow_add-n : goal.overflow_add-n
overflow_add-n c = omega arith

pub loop-n-smaller : goal.loop-n-smaller
loop-n-smaller c = omega arith

pub loop-n-preserved : goal.loop-n-preserved
loop-n-preserved c =
    let a = c.loop-n.invariant in
    let b = c.short_block.ensures (c.if-not-short_block.false) in (
      omega arith,
      a.1,
      a.2,
      λ total. a.3 total ∙ short-passed _ total 16 _ _ (omega arith) (omega arith) b ∙ behind-eq _ _ (omega arith) (omega arith),
    )

pub overflow_add-result-2 : goal.overflow_add-result-2
overflow_add-result-2 c = omega arith

pub returns : goal.returns
returns c =
    let a = c.loop-n.invariant in
    (omega arith, omega arith, λ total. a.3 total ∙ behind-eq _ _ (omega arith) refl)
