-- `text_salvage::save` meets its contract: the slots hold what survives, and it is written from there. Assumes nothing.
use Prim.Native.Nat.{ℕ, ◌<◌}
use native.Mathlib.Omega.{arith}
use lib.ListN.{get_or}
use Rattle.encoding.specs.Survivors.{seen}
use Rattle.text_salvage.proofs.Keeping.{save-done}
use Rattle.text_salvage.proofs.save.Goals as goal

pub returns : goal.returns
returns c =
    let a = c.args in
    let p = c.requires in
    let s = a.s.now in
    let B : (j : ℕ) → get_or s j 0 < 256 = λ j. omega (arith, c.type_inv.s j) in
    save-done s a.starts.now a.lens.now a.present.now a.out.now p.starts_len.0 p.starts_len.1 (seen a.found) p.found_value.0 p.found_value.1
    B a.size p.size_value.0 p.size_value.1 _ _ _ _ _ _ c.keep.ensures c.encode.ensures
