-- `rle_decoder::skip_short` meets its contract: what comes behind all c values comes behind those past the first n. Assumes nothing.
use Prim.Native.Nat.{ℕ, ◌+◌, ◌-◌, ◌≤◌}
use mathlib.Core.Path.{◌≡◌}
use lib.ListN.{length}
use Rattle.rle_decoder.proofs.Short.{behind}
use Rattle.rle_decoder.proofs.skip_short.Given as goal

abbrev pub invariant-loop-n : goal.invariant-loop-n
invariant-loop-n l = (l.n ≤ l.most) × (l.most ≤ l.c) × (l.q + l.most ≤ length l.s) × ((total : ℕ) → behind l.s total l.c l.q ≡ behind l.s total (l.c - l.n) (l.q + l.n))

abbrev pub decreases-loop-n : goal.decreases-loop-n
decreases-loop-n l = l.most - l.n
