-- The encoding without its fuel: a final byte (`encoded-last`), or one byte and the encoding of the rest (`encoded-more`). Assumes nothing.
use mathlib.Core.Path.{◌≡◌, refl, ap, ◌∙◌}
use mathlib.Core.List.{List, [], ◌∷◌, ◌++◌, append_assoc}
use mathlib.Core.Bool.{Bool, true, false, cond}
use Prim.Native.Nat.{ℕ, zero, suc, ◌+◌, ◌*◌, ◌/◌, ◌%◌, ◌^◌, ◌≤◌, ◌<◌}
use native.Mathlib.Nat.{pow-suc, zero-add}
use native.Mathlib.Omega.{arith}
use lib.Dec.{ltb, leb}
use native.Mathlib.Numerals.{add-one}
use lib.ListN.{length, take, drop, set}
use lib.Seq.{sets, sets-eq}
use lib.IntN.{ℤ, pos, negsuc}
use lib.Signed.{mag, lt_z}
use mir.Syntax.{w64}
use mir.Val.{SFits, to_z, of_z}
use mir.ValLaws.{to_z-of_z}
use borrow.Author.Tests.{lt-ltb, le-ltb, le-leb, lt-leb, ltb-true}
use Rattle.leb128.specs.Write.{group, encoded_from, encoded, i64_bytes, put_at, put_out}
use Rattle.leb128.specs.Answer.{done, refused, within, left, written}

pub group-lt : (neg : Bool) (d : ℕ) → d < 128 → group neg d < 128
group-lt true d h = omega arith
group-lt false d h = h

-- one unit of fuel more changes nothing
fuel : (f limit : ℕ) (neg : Bool) (v : ℕ) → 2 ≤ limit → v < 128 ^ f * 2 → encoded_from (suc f) limit neg v ≡ encoded_from (suc (suc f)) limit neg v
fuel zero limit neg v l h = let k : v < limit = omega arith in rw (lt-ltb v limit k)
fuel (suc f) limit neg v l h =
    let ih : v / 128 < 128 ^ f * 2 → encoded_from (suc f) limit neg (v / 128) ≡ encoded_from (suc (suc f)) limit neg (v / 128) =
    fuel f limit neg (v / 128) l in
    ap (λ (r : List ℕ). cond (ltb v limit) (group neg v ∷ []) ((128 + group neg (v % 128)) ∷ r)) (ih (omega (arith, pow-suc 128 f)))

pub encoded-last : (limit : ℕ) (neg : Bool) (v : ℕ) → v < limit → encoded limit neg v ≡ group neg v ∷ []
unfolding encoded
encoded-last limit neg v h = rw (lt-ltb v limit h)

pub encoded-more : (limit : ℕ) (neg : Bool) (v : ℕ) → 2 ≤ limit → limit ≤ v → v < 2 ^ 64
    → encoded limit neg v ≡ (128 + group neg (v % 128)) ∷ encoded limit neg (v / 128)
unfolding encoded
encoded-more limit neg v l h k = rw (le-ltb v limit h) (ap (λ (r : List ℕ). (128 + group neg (v % 128)) ∷ r) (fuel 8 limit neg (v / 128) l (omega arith)))

short : (f limit : ℕ) (neg : Bool) (v : ℕ) → length (encoded_from f limit neg v) ≤ f
short zero limit neg v = omega arith
short (suc f) limit neg v = go (ltb v limit) (short f limit neg (v / 128))
  where
    go : (t : Bool) → length (encoded_from f limit neg (v / 128)) ≤ f
        → length (cond t (group neg v ∷ []) ((128 + group neg (v % 128)) ∷ encoded_from f limit neg (v / 128))) ≤ suc f
    go true ih = omega arith
    go false ih = omega arith

pub encoded-short : (limit : ℕ) (neg : Bool) (v : ℕ) → length (encoded limit neg v) ≤ 10
unfolding encoded
encoded-short limit neg v = short 10 limit neg v

some : (f limit : ℕ) (neg : Bool) (v : ℕ) → 0 < length (encoded_from (suc f) limit neg v)
some f limit neg v = go (ltb v limit)
  where
    go : (t : Bool) → 0 < length (cond t (group neg v ∷ []) ((128 + group neg (v % 128)) ∷ encoded_from f limit neg (v / 128)))
    go true = omega arith
    go false = omega arith

pub encoded-some : (limit : ℕ) (neg : Bool) (v : ℕ) → 0 < length (encoded limit neg v)
unfolding encoded
encoded-some limit neg v = some 9 limit neg v

-- the encoding stored into a list: a turn of the loop, and its end
pub sets_more : (out : List ℕ) (i limit : ℕ) (neg : Bool) (v r : ℕ) → 2 ≤ limit → limit ≤ v → v < 2 ^ 64 → r ≡ group neg (v % 128)
    → sets out i (encoded limit neg v) ≡ sets (set out i (128 + r)) (i + 1) (encoded limit neg (v / 128))
sets_more out i limit neg v r l h k e = rw (encoded-more limit neg v l h k, e, add-one i)

pub sets_last : (out : List ℕ) (i limit : ℕ) (neg : Bool) (v r : ℕ) → v < limit → r ≡ group neg v → sets out i (encoded limit neg v) ≡ set out i r
sets_last out i limit neg v r h e = rw (encoded-last limit neg v h, e)

-- what a call of `put` leaves, where the bytes do not fit and where they do
pub put-no : (out : List ℕ) (at : ℕ) (bs : List ℕ) → length out < at + length bs → (refused 10 0 ≡ put_at out at bs) × (out ≡ put_out out at bs)
unfolding put_at put_out
put-no out at bs h = (rw (lt-leb (at + length bs) (length out) h), rw (lt-leb (at + length bs) (length out) h))

pub put-yes : (out : List ℕ) (at : ℕ) (bs : List ℕ) (n : ℕ) → n ≡ length bs → at + length bs ≤ length out
    → (done (at + n) ≡ put_at out at bs) × (sets out at bs ≡ put_out out at bs)
unfolding put_at put_out
put-yes out at bs n e h = (
  rw (le-leb (at + length bs) (length out) h, e),
  rw (le-leb (at + length bs) (length out) h)
      (sets-eq bs out at h ∙ append_assoc (take at out) bs (drop (at + length bs) out)),
)

-- a signed number's encoding, by its sign and its magnitude
pub s_len : (x : ℤ) {n : ℕ} → ((neg : Bool) → n ≡ length (encoded 64 neg (mag x))) → n ≡ length (i64_bytes x)
s_len (pos k) h = h false
s_len (negsuc k) h = h true

pub s-neg : (x : ℤ) → SFits w64 x → lt_z (to_z w64 (of_z w64 x)) (pos 0) ≡ true → encoded 64 true (mag x) ≡ i64_bytes x
s-neg (pos k) f t = let h : k < 0 = ltb-true k 0 (rw (to_z-of_z w64 (pos k) f) at t) in absurd (omega arith)
s-neg (negsuc k) f t = refl

pub s-pos : (x : ℤ) → SFits w64 x → lt_z (to_z w64 (of_z w64 x)) (pos 0) ≡ false → encoded 64 false (mag x) ≡ i64_bytes x
s-pos (pos k) f t = refl
s-pos (negsuc k) f t = let z : true ≡ false = rw (to_z-of_z w64 (negsuc k) f) at t in let e : ◌≡◌ {A = ℕ} 0 1 = cc in absurd (omega arith)

-- at the front of an output: position 0
pub front : (out bs : List ℕ) → put_at out 0 bs ≡ written out bs
unfolding put_at written within
front out bs = rw (zero-add (length bs))

pub front_out : (out bs : List ℕ) → put_out out 0 bs ≡ left (written out bs) bs out
unfolding put_out written within left
front_out out bs = rw (zero-add (length bs)) (go (leb (length bs) (length out)))
  where
    go : (t : Bool) → cond t (bs ++ drop (length bs) out) out ≡ left (cond t (done (length bs)) (refused 10 0)) bs out
    go true = refl
    go false = refl
