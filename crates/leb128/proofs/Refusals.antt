-- What the readers refuse with. 02, [8]: where no byte stands at the position it is 21, with the length as its place (`-none`), and
-- elsewhere 1, 2 or 3 (`-begun`). No refusal has the number 0 (`-fault`). Assumes nothing.
use mathlib.Core.Path.{◌≡◌, sym, subst, ◌∙◌}
use mathlib.Core.List.{List, [], ◌∷◌}
use mathlib.Core.Bool.{Bool, true, false, cond}
use Prim.Native.Nat.{ℕ, suc, ◌+◌, ◌*◌, ◌-◌, ◌≤◌, ◌<◌, min}
use native.Mathlib.Decide.{dec_lt}
use native.Mathlib.Omega.{arith}
use lib.Dec.{ltb, leb, eqb}
use lib.IntN.{ℤ}
use lib.ListN.{length, get_or, drop, drop_of_length-le}
use lib.Seq.{drop-cons}
use borrow.Author.Tests.{ne_eqb}
use Rattle.leb128.specs.Got.{Got, got, bad}
use Rattle.leb128.specs.Digits.{Digits, whole, broken, more, digits}
use Rattle.leb128.specs.Read.{u_large, u_long, unsigned, s_large, s_long, signed_of, signed, narrow, u64_at, i64_at, u32_at}

-- of digits, and of what is read: a refusal is 1, 2 or 3
abbrev BegunDigits : Digits → Type 0
BegunDigits (whole low scale prev last count) = Unit {0}
BegunDigits (broken r) = (0 < r) × (r ≤ 3)

abbrev pub Begun : {A : Type 0} → Got A → Type 0
Begun (got v next) = Unit {0}
Begun (bad r place) = (0 < r) × (r ≤ 3)

first : (p b : ℕ) (t l : Bool) (c : Digits) → BegunDigits c → BegunDigits (cond t (whole 0 1 p b 1) (cond l (broken 2) (more (b - 128) c)))
first p b true l c h = tt
first p b false true c h = (omega arith, omega arith)
first p b false false (whole low scale prev last count) h = tt
first p b false false (broken r) h = h

behind : (n p : ℕ) (bs : List ℕ) → 0 < n → BegunDigits (digits n p bs)
behind n p [] h = rw (ne_eqb n 0 (omega arith)) (omega arith, omega arith)
behind n p (b ∷ bs) h = first p b (ltb b 128) (eqb n 9) (digits (n + 1) b bs) (behind (n + 1) b bs (omega arith))

judged : {A : Type 0} (a b : Bool) (place next : ℕ) (v : A) → Begun (cond a (bad 2 place) (cond b (bad 3 place) (got v next)))
judged true b place next v = (omega arith, omega arith)
judged false true place next v = (omega arith, omega arith)
judged false false place next v = tt

u-begun : (at place : ℕ) (c : Digits) → BegunDigits c → Begun (unsigned at place c)
u-begun at place (whole low scale prev last count) h = judged (u_large last count) (u_long last count) place (at + count) (low + scale * last)
u-begun at place (broken r) h = h

s-begun : (at place : ℕ) (c : Digits) → BegunDigits c → Begun (signed at place c)
s-begun at place (whole low scale prev last count) h = judged (s_large last count) (s_long prev last count) place (at + count) (signed_of low scale last)
s-begun at place (broken r) h = h

module _ (s : List ℕ) (at : ℕ) where
  begun : at < length s → BegunDigits (digits 0 0 (drop at s))
  begun h =
      let b : ℕ = get_or s at 0 in
      rw (drop-cons s at 0 h) (first 0 b (ltb b 128) false (digits 1 b (drop (suc at) s)) (behind 1 b (drop (suc at) s) (omega arith)))

  pub u64-begun : at < length s → Begun (u64_at s at)
  unfolding u64_at
  u64-begun h = u-begun at (min at (length s)) (digits 0 0 (drop at s)) (begun h)

  pub i64-begun : at < length s → Begun (i64_at s at)
  unfolding i64_at
  i64-begun h = s-begun at (min at (length s)) (digits 0 0 (drop at s)) (begun h)

  pub u64-none : length s ≤ at → u64_at s at ≡ bad 21 (length s)
  unfolding u64_at
  u64-none h = let m : min at (length s) ≡ length s = omega arith in rw (drop_of_length-le s h, m)

  pub i64-none : length s ≤ at → i64_at s at ≡ bad 21 (length s)
  unfolding i64_at
  i64-none h = let m : min at (length s) ≡ length s = omega arith in rw (drop_of_length-le s h, m)

  pub u64-fault : (r place : ℕ) → u64_at s at ≡ bad r place → 0 < r
  u64-fault r place e = elim (dec_lt at (length s)) [
    | yes h ↦ (subst Begun e (u64-begun h)).0
    | no h ↦ let z : ◌≡◌ {A = Got ℕ} (bad 21 (length s)) (bad r place) = sym (u64-none (omega arith)) ∙ e in let q : 21 ≡ r = cc in omega arith
  ]

  pub i64-fault : (r place : ℕ) → i64_at s at ≡ bad r place → 0 < r
  i64-fault r place e = elim (dec_lt at (length s)) [
    | yes h ↦ (subst Begun e (i64-begun h)).0
    | no h ↦ let z : ◌≡◌ {A = Got ℤ} (bad 21 (length s)) (bad r place) = sym (i64-none (omega arith)) ∙ e in let q : 21 ≡ r = cc in omega arith
  ]

narrow-fault : (at r place : ℕ) (g : Got ℕ) → ((r place : ℕ) → g ≡ bad r place → 0 < r) → narrow at g ≡ bad r place → 0 < r
narrow-fault at r place (bad r' place') h e = h r place e
narrow-fault at r place (got v next) h e = go (leb v 4294967295) e
  where
    go : (t : Bool) → cond t (got v next) (bad 2 at) ≡ bad r place → 0 < r
    go true e = let z : ◌≡◌ {A = ℕ} 0 1 = cc in absurd (omega arith)
    go false e = let q : 2 ≡ r = cc in omega arith

pub u32-fault : (s : List ℕ) (at r place : ℕ) → u32_at s at ≡ bad r place → 0 < r
unfolding u32_at
u32-fault s at r place e = narrow-fault at r place (u64_at s at) (u64-fault s at) e
