-- Optional u64 read back: the round trip of `encoding`, and the bound of 11 bytes a reading, for this element. Assumes nothing.
use Prim.Native.Nat.{ℕ, ◌*◌, ◌≤◌}
use mathlib.Core.Path.{◌≡◌}
use mathlib.Core.List.{List, map}
use mathlib.Core.Option.{Option}
use mathlib.Core.Bool.{true}
use lib.ListN.{length}
use Rattle.encoding.specs.Limit.{limit}
use Rattle.encoding.specs.Walk.{Ending}
use Rattle.encoding.specs.Column.{value, trace}
use Rattle.encoding.specs.Writer.{any_present, column_bytes}
use Rattle.encoding.proofs.Back.{ListFits, round_trip}
use Rattle.encoding.proofs.Sizes.{column-eleven}
use Rattle.rle_decoder.specs.Word.{u64_e}
use Rattle.rle_decoder.proofs.WordLaws.{u64-laws, u64-ten}

pub u64-round-trip : (xs : List (Option ℕ)) → any_present xs ≡ true → ListFits u64_e xs → length xs ≤ limit
    → (map value (trace u64_e (column_bytes u64_e xs)).readings ≡ xs) × ((trace u64_e (column_bytes u64_e xs)).ending ≡ Ending.sound)
u64-round-trip = round_trip u64_e u64-laws

pub u64-eleven : (xs : List (Option ℕ)) → length (column_bytes u64_e xs) ≤ 11 * length xs
u64-eleven = column-eleven u64_e u64-laws u64-ten
