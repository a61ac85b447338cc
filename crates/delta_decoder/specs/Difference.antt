-- The element of a delta column: a difference, a signed number.
use Rattle.std.specs.Prelude.{◌^◌, Bool, false, ltb, eqb, ℤ, pos, negsuc}
use Rattle.std.specs.Int.Signed.{mag}
use Rattle.leb128.specs.Read.{i64_at}
use Rattle.leb128.specs.Write.{i64_bytes}
use Rattle.encoding.specs.Element.{Element}

abbrev pub same_z : ℤ → ℤ → Bool
same_z (pos a) (pos b) = eqb a b
same_z (pos a) (negsuc b) = false
same_z (negsuc a) (pos b) = false
same_z (negsuc a) (negsuc b) = eqb a b

-- an i64 holds it: mag is x where x is not negative, else -(x + 1)
abbrev pub holds : ℤ → Bool
holds x = ltb (mag x) (2 ^ 63)

abbrev pub i64_e : Element ℤ
i64_e = record { read = i64_at; write = i64_bytes; same = same_z; fits = holds }
