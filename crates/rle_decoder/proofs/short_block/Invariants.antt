-- `rle_decoder::short_block` meets its contract: where `more` is 0, every byte before k + j is below 128. Assumes nothing.
use Prim.Native.Nat.{ℕ, ◌+◌, ◌-◌, ◌≤◌, ◌<◌}
use mathlib.Core.Path.{◌≡◌}
use lib.ListN.{get_or}
use Rattle.rle_decoder.proofs.short_block.Given as goal

abbrev pub invariant-loop-j : goal.invariant-loop-j
invariant-loop-j l = (l.j ≤ 16) × (l.more ≡ 0 → (i : ℕ) → i < l.j → get_or l.s (l.k + i) 0 < 128)

abbrev pub decreases-loop-j : goal.decreases-loop-j
decreases-loop-j l = 16 - l.j
