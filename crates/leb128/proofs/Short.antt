-- Unsigned numbers of one byte: what the reader answers without looking further. Assumes nothing.
use Prim.Native.Nat.{ℕ, ◌+◌, ◌*◌, ◌<◌}
use mathlib.Core.Path.{◌≡◌}
use mathlib.Core.List.{List}
use native.Mathlib.Omega.{arith}
use lib.ListN.{length, get_or, drop}
use lib.Seq.{drop-cons}
use borrow.Author.Tests.{lt-ltb}
use Rattle.leb128.specs.Got.{got}
use Rattle.leb128.specs.Digits.{whole, digits}
use Rattle.leb128.specs.Read.{u64_at}

module _ (s : List ℕ) (at : ℕ) (h : at < length s) where
  pub one-digit : get_or s at 0 < 128 → digits 0 0 (drop at s) ≡ whole 0 1 0 (get_or s at 0) 1
  one-digit b = rw (drop-cons s at 0 h, lt-ltb (get_or s at 0) 128 b)

  pub one-u64 : get_or s at 0 < 128 → got (get_or s at 0) (at + 1) ≡ u64_at s at
  unfolding u64_at
  one-u64 b =
      let e : 0 + 1 * get_or s at 0 ≡ get_or s at 0 = omega arith in
      rw (one-digit b, e)
