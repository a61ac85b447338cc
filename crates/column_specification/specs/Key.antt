-- The sorting key of a specification.
use Rattle.std.specs.Prelude.{ℕ, ◌+◌, ◌*◌, ◌/◌, ◌%◌}

-- 02, [2]: "the whole specification with only the compressed bit cleared", that is bits 0 to 2 and all bits from 4 up
abbrev pub key : ℕ → ℕ
key spec = spec % 8 + spec / 16 * 16
