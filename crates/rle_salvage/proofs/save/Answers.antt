-- `rle_salvage::save` meets its contract: what was kept in the slots is the list that is written. Assumes nothing.
use mathlib.Core.Path.{sym}
use mathlib.Core.List.{List}
use Prim.Native.Nat.{ℕ}
use lib.ListN.{length}
use Rattle.encoding.specs.Column.{trace}
use Rattle.encoding.specs.Given.{list_judged}
use Rattle.encoding.specs.Survivors.{seen}
use Rattle.encoding.specs.Writer.{column_bytes}
use Rattle.encoding.proofs.Limits.{trace-limit}
use Rattle.rle_decoder.specs.Word.{u64_e}
use Rattle.rle_decoder.proofs.WordLaws.{u64-laws}
use Rattle.salvage.proofs.Answering.{saved-whole}
use Rattle.salvage.proofs.Slots.{kept-good}
use Rattle.rle_salvage.proofs.save.Goals as goal

pub returns : goal.returns
returns c =
    let a = c.args in
    let t = trace u64_e a.s.now in
    saved-whole t 0 a.values.now a.present.now a.out.now (seen a.found) c.requires.found_value.0 (column_bytes u64_e)
    (λ (v p : List ℕ). list_judged (length v) p) a.size _ _ _ _ _ _ (sym c.requires.found_value.2) c.requires.found_value.1
    (kept-good 0 t.readings (trace-limit u64_e u64-laws a.s.now)) c.requires.size_value.0 c.requires.size_value.1 c.keep.ensures c.encode.ensures
