-- `delta_salvage::save` meets its contract: what was kept in the slots is the list that is written. Assumes nothing.
use mathlib.Core.Path.{sym}
use Prim.Native.Nat.{ℕ, ◌<◌}
use native.Mathlib.Omega.{arith}
use lib.IntN.{pos}
use lib.ListN.{get_or}
use Rattle.encoding.specs.Survivors.{seen}
use Rattle.delta_decoder.specs.Sums.{delta_trace}
use Rattle.delta_encoder.specs.Differences.{delta_bytes, delta_judged}
use Rattle.salvage.proofs.Answering.{saved-whole}
use Rattle.delta_salvage.proofs.Whole.{kept-narrow}
use Rattle.delta_salvage.proofs.save.Goals as goal

pub returns : goal.returns
returns c =
    let a = c.args in
    let B : (j : ℕ) → get_or a.s.now j 0 < 256 = λ j. omega (arith, c.type_inv.s j) in
    saved-whole (delta_trace a.s.now) (pos 0) a.values.now a.present.now a.out.now (seen a.found) c.requires.found_value.0 delta_bytes delta_judged
    a.size _ _ _ _ _ _ (sym c.requires.found_value.2) c.requires.found_value.1 (kept-narrow a.s.now B) c.requires.size_value.0 c.requires.size_value.1
    c.keep.ensures c.encode.ensures
