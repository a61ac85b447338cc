-- Signed numbers of one and of two bytes, by their bytes. Assumes nothing.
use Prim.Native.Nat.{ℕ, suc, ◌+◌, ◌*◌, ◌-◌, ◌<◌, ◌≤◌}
use mathlib.Core.Path.{◌≡◌}
use mathlib.Core.List.{List}
use native.Mathlib.Omega.{arith}
use lib.ListN.{length, get_or, drop}
use lib.Seq.{drop-cons}
use borrow.Author.Tests.{lt-ltb, le-ltb, ne_eqb}
use Rattle.leb128.specs.Got.{got}
use Rattle.leb128.specs.Digits.{whole, digits}
use Rattle.leb128.specs.Read.{fill, signed_of, i64_at}
use Rattle.leb128.proofs.Short.{one-digit}

module _ (s : List ℕ) (at : ℕ) where
  pub alone-i64 : at < length s → get_or s at 0 < 128 → i64_at s at ≡ got (signed_of 0 1 (get_or s at 0)) (at + 1)
  unfolding i64_at
  alone-i64 h b = rw (one-digit s at h b)

  module _ (h : suc at < length s) (b : 128 ≤ get_or s at 0) (d : get_or s (suc at) 0 < 128) where
    two_digits : digits 0 0 (drop at s) ≡ whole (get_or s at 0 - 128 + 128 * 0) (128 * 1) (get_or s at 0) (get_or s (suc at) 0) 2
    two_digits =
        let l : at < length s = omega arith in
        rw (drop-cons s at 0 l, le-ltb (get_or s at 0) 128 b, drop-cons s (suc at) 0 h, lt-ltb (get_or s (suc at) 0) 128 d)

    pub two-i64 : (get_or s (suc at) 0 ≡ fill (get_or s at 0) → ⊥) → i64_at s at ≡ got (signed_of (get_or s at 0 - 128) 128 (get_or s (suc at) 0)) (at + 2)
    unfolding i64_at
    two-i64 f =
        let e : get_or s at 0 - 128 + 128 * 0 ≡ get_or s at 0 - 128 = omega arith in
        rw (two_digits, ne_eqb _ _ f, e)
