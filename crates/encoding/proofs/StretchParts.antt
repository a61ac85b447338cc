-- A stretch's run in its two parts, as the code makes them: a signed count that was passed on, and what it announces. Assumes nothing.
use Prim.Native.Nat.{ℕ, ◌+◌, ◌-◌, ◌^◌, ◌≤◌, ◌<◌}
use mathlib.Core.Path.{◌≡◌, sym, ◌∙◌, ap}
use mathlib.Core.List.{List, ◌++◌}
use native.Mathlib.Omega.{arith}
use lib.IntN.{ℤ, pos}
use lib.ListN.{length, get_or, length-append}
use lib.Seq.{slice}
use lib.Signed.{mag}
use mir.Syntax.{w64}
use mir.Val.{to_z, of_z}
use mir.ValLaws.{to_z-of_z}
use Rattle.leb128.specs.Write.{u64_bytes, i64_bytes}
use Rattle.encoding.specs.Element.{Element}
use Rattle.encoding.specs.Writer.{all_bytes, stretch_bytes}
use Rattle.encoding.specs.Ahead.{end_of, stretch_of, PutAt}
use Rattle.encoding.specs.Flags.{minus}
use Rattle.encoding.specs.declared.StretchEnd.{StretchEnd}
use Rattle.encoding.specs.declared.StretchEnd.TheVariants as stretch
use Rattle.encoding.proofs.Putting.{minus-some, absent-bytes, repeat-bytes, literals-bytes, both-fit, put_two, put_as}

pub record Parts (w₁ w₂ w : List ℕ) : Type 0 where
  pub whole : w₁ ++ w₂ ≡ w

module _ {A : Type 0} (E : Element A) (d : A) (v : List A) (i : ℕ) {k : ℕ} {x : StretchEnd} where
  pub absent-parts : x ≡ stretch.Absent k → Parts (i64_bytes (pos 0)) (u64_bytes (k - i)) (stretch_bytes E (stretch_of d v i x))
  absent-parts f = record { whole = absent-bytes E d v i k x f }

  -- a signed count reaches a callee as its bits read back
  pub repeat-parts : {r : ℤ} → x ≡ stretch.Repeat k → r ≡ pos (k - i) → mag r < 2 ^ 63
      → Parts (i64_bytes (to_z w64 (of_z w64 r))) (E.write (get_or v i d)) (stretch_bytes E (stretch_of d v i x))
  repeat-parts {r = r} f e s =
      let z = to_z-of_z w64 r (record { sfits = s }) in
      record { whole = ap (λ (y : ℤ). i64_bytes y ++ E.write (get_or v i d)) (z ∙ e) ∙ repeat-bytes E d v i k x f }

  pub literal-parts : {r : ℤ} → x ≡ stretch.Literal k → r ≡ minus (k - i) → mag r < 2 ^ 63 → i < end_of x → end_of x ≤ length v
      → Parts (i64_bytes (to_z w64 (of_z w64 r))) (all_bytes E (slice i k v)) (stretch_bytes E (stretch_of d v i x))
  literal-parts {r = r} f e s l h =
      let z = to_z-of_z w64 r (record { sfits = s }) in
      let j = ap end_of f in
      let m = minus-some (k - i) (omega arith) in
      record { whole = ap (λ (y : ℤ). i64_bytes y ++ all_bytes E (slice i k v)) (z ∙ e ∙ sym m) ∙ literals-bytes E d v i k x f l h }

-- how long two parts are; room for the whole is room for each; and one put behind the other
module _ {w₁ w₂ w : List ℕ} (p : Parts w₁ w₂ w) where
  pub parts-length : {a b : ℕ} → a ≡ length w₁ → b ≡ length w₂ → a + b ≡ length w
  parts-length {a} {b} f g = omega (arith, length-append w₁ w₂, ap length p.whole)

  pub first_fits : (at n : ℕ) → at + length w ≤ n → at + length w₁ ≤ n
  first_fits at n h = (both-fit w₁ w₂ w at n p.whole h).0

  pub second_fits : {out mid : List ℕ} {at q : ℕ} → at + length w ≤ length out → PutAt out mid at q w₁ → length mid ≡ length out
      → q + length w₂ ≤ length mid
  second_fits {out} {mid} {at} {q} h a e = omega (arith, (both-fit w₁ w₂ w at (length out) p.whole h).1, a.after)

  pub parts-put : {out mid out' : List ℕ} {at q r : ℕ} → PutAt out mid at q w₁ → PutAt mid out' q r w₂ → PutAt out out' at r w
  parts-put a b = put_as p.whole (put_two a b)
