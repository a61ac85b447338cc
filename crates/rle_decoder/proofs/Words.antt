-- A column of u64 as a machine to be walked. Assumes nothing.
use Prim.Native.Nat.{ℕ}
use mathlib.Core.List.{List}
use Rattle.encoding.specs.Column.{Reading, Spot}
use Rattle.encoding.proofs.Walking.{Machine}
use Rattle.encoding.proofs.Columns.{columns}
use Rattle.rle_decoder.specs.Word.{u64_e}
use Rattle.rle_decoder.proofs.WordLaws.{u64-laws}

abbrev pub words : List ℕ → Machine (Reading ℕ) Spot
words s = columns u64_e u64-laws s
