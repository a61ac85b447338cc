-- 01, "Specifications", and refusal 17: the types of each kind of column, by their numbers: 1 Actor and 2 Integer, 3 DeltaInteger, 4 Boolean, 5 String.
use Rattle.std.specs.Prelude.{ℕ, Bool, ◌||◌, eqb}

abbrev pub integer_type : ℕ → Bool
integer_type t = eqb t 1 || eqb t 2

abbrev pub delta_type : ℕ → Bool
delta_type t = eqb t 3

abbrev pub boolean_type : ℕ → Bool
boolean_type t = eqb t 4

abbrev pub text_type : ℕ → Bool
text_type t = eqb t 5
