-- A specification as a number: packed from an id, a type's number and the compressed bit, and taken apart again.
use Rattle.std.specs.Prelude.{ℕ, ◌+◌, ◌*◌, ◌/◌, ◌%◌, ◌^◌, Bool, cond, ltb, eqb}

-- 01, "Specifications": id times 16, plus 8 for the compressed bit, plus type
abbrev pub packed : ℕ → ℕ → Bool → ℕ
packed id number compressed = id * 16 + cond compressed 8 0 + number

-- what packing gives: a specification, or a refusal's number and place
pub data Packing : Type 0 where
  made : ℕ → Packing
  refused : ℕ → ℕ → Packing

-- 01, "Specifications": ids go to 2^28-1; "Refusal numbers": 19, a column id of 2^28 or more, place 0
abbrev pub pack : ℕ → ℕ → Bool → Packing
pack id number compressed = cond (ltb id (2 ^ 28)) (made (packed id number compressed)) (refused 19 0)

-- 01, "Specifications", read backwards: the id, the type's number (the low three bits) and the compressed bit (bit 3)
abbrev pub id_of : ℕ → ℕ
id_of spec = spec / 16

abbrev pub type_of : ℕ → ℕ
type_of spec = spec % 8

abbrev pub compressed_of : ℕ → Bool
compressed_of spec = eqb (spec / 8 % 2) 1
