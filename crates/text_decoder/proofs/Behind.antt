-- The name behind a length number, one law for each way out of `name_behind`. Assumes nothing.
use Prim.Native.Nat.{ℕ, ◌+◌, ◌-◌, ◌≤◌, ◌<◌}
use mathlib.Core.Path.{◌≡◌, sym, ◌∙◌, ap}
use mathlib.Core.List.{List}
use mathlib.Core.Bool.{Bool, true, false, cond}
use native.Mathlib.Omega.{arith}
use lib.ListN.{length}
use borrow.Author.Tests.{le-leb, lt-leb}
use Rattle.leb128.specs.Got.{got, bad}
use Rattle.utf8.specs.Utf8.{is_utf8}
use Rattle.text.specs.Text.{bytes_at, valued}

module _ (s : List ℕ) (p n q : ℕ) where
  pub behind-cut : length s < q + n → bad 1 p ≡ valued s p (got n q)
  behind-cut l = rw (lt-leb (q + n) (length s) l)

  -- the part of s that was judged ends at q + n
  whole : q + n ≤ length s → {t u : Bool} → t ≡ is_utf8 (bytes_at s q (q + n - q)) → t ≡ u
      → valued s p (got n q) ≡ cond u (got (bytes_at s q n) (q + n)) (bad 20 p)
  whole l {t = t} {u = u} e f =
      let k : n ≡ q + n - q = omega arith in
      let j : is_utf8 (bytes_at s q n) ≡ u = ap (λ (k : ℕ). is_utf8 (bytes_at s q k)) k ∙ sym e ∙ f in
      rw (le-leb (q + n) (length s) l, j)

  pub behind-found : q + n ≤ length s → {t : Bool} → t ≡ is_utf8 (bytes_at s q (q + n - q)) → t ≡ true
      → got (bytes_at s q n) (q + n) ≡ valued s p (got n q)
  behind-found l e f = sym (whole l e f)

  pub behind-bad : q + n ≤ length s → {t : Bool} → t ≡ is_utf8 (bytes_at s q (q + n - q)) → t ≡ false → bad 20 p ≡ valued s p (got n q)
  behind-bad l e f = sym (whole l e f)
