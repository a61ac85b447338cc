-- An entry's bytes: a number in two's complement, and one law for each way out of `entry_at`. An entry takes bytes, and those behind it do not matter.
-- Assumes nothing.
use Prim.Native.Nat.{ℕ, suc, ◌+◌, ◌-◌, ◌*◌, ◌^◌, ◌≤◌, ◌<◌}
use mathlib.Core.Path.{◌≡◌, refl, sym, ap, ◌∙◌}
use mathlib.Core.List.{List}
use mathlib.Core.Bool.{Bool, true, false, cond}
use native.Mathlib.Omega.{arith}
use lib.Dec.{leb, eqb}
use lib.IntN.{ℤ, pos, negsuc}
use lib.ListN.{length, get_or, take}
use lib.Seq.{get_or-take, length-take-le}
use borrow.Author.Tests.{lt-ltb, le-ltb, le-leb, lt-leb, leb-true, ne_eqb, eqb-true}
use mir.Syntax.{w64}
use mir.Val.{to_z}
use Rattle.leb128.specs.Got.{Got, got, bad}
use Rattle.leb128.proofs.Twos as twos
use Rattle.encoding.proofs.Lists.{cond-by}
use Rattle.pen_log.specs.Entry.{Entry, insert, insert_absent, remove, change, word_at, signed, depth_at, whole, entry_at}

-- ---- two's complement

pub signed_low : (n : ℕ) → n < 2 ^ 63 → to_z w64 n ≡ signed n
unfolding signed
signed_low n h = twos.up n h ∙ sym (rw (lt-ltb n (2 ^ 63) h))

pub signed_high : (n : ℕ) → n < 2 ^ 64 → 2 ^ 63 ≤ n → to_z w64 (18446744073709551615 - (18446744073709551615 - n)) ≡ signed n
unfolding signed
signed_high n b h = twos.down (18446744073709551615 - n) (omega arith) ∙ sym (rw (le-ltb n (2 ^ 63) h))

-- ---- the ways out

all_same : {A : Type 0} (a b c d : Bool) (x : A) → cond a x (cond b x (cond c x (cond d x x))) ≡ x
all_same true b c d x = refl
all_same false true c d x = refl
all_same false false true d x = refl
all_same false false false true x = refl
all_same false false false false x = refl

module _ (s : List ℕ) (at : ℕ) where
  pub entry-short : length s < at + 5 → bad 23 at ≡ entry_at s at
  unfolding entry_at
  entry-short h =
      let a = lt-leb (at + 5) (length s) h in
      let b = lt-leb (at + 13) (length s) (omega arith) in
      let k = get_or s at 0 in
      rw (a, b) (sym (all_same (eqb k 1) (eqb k 2) (eqb k 3) (eqb k 4) (bad 23 at)))

  pub entry-cut : (get_or s at 0 ≡ 2 → ⊥) → (get_or s at 0 ≡ 3 → ⊥) → length s < at + 13 → bad 23 at ≡ entry_at s at
  unfolding entry_at
  entry-cut n2 n3 h =
      let k = get_or s at 0 in
      rw (lt-leb (at + 13) (length s) h, ne_eqb k 2 n2, ne_eqb k 3 n3) (sym (all_same (eqb k 1) false false (eqb k 4) (bad 23 at)))

  pub entry-unknown : (get_or s at 0 ≡ 1 → ⊥) → (get_or s at 0 ≡ 2 → ⊥) → (get_or s at 0 ≡ 3 → ⊥) → (get_or s at 0 ≡ 4 → ⊥) → bad 23 at ≡ entry_at s at
  unfolding entry_at
  entry-unknown n1 n2 n3 n4 = let k = get_or s at 0 in rw (ne_eqb k 1 n1, ne_eqb k 2 n2, ne_eqb k 3 n3, ne_eqb k 4 n4)

  module _ {i : ℕ} (w : i ≡ word_at s (at + 1)) where
    pub entry-2 : get_or s at 0 ≡ 2 → at + 5 ≤ length s → got (insert_absent i) (at + 5) ≡ entry_at s at
    unfolding entry_at
    entry-2 e h = rw (w, e, le-leb (at + 5) (length s) h)

    pub entry-3 : get_or s at 0 ≡ 3 → at + 5 ≤ length s → got (remove i) (at + 5) ≡ entry_at s at
    unfolding entry_at
    entry-3 e h = rw (w, e, le-leb (at + 5) (length s) h)

    pub entry-1 : {x : ℤ} → x ≡ depth_at s (at + 5) → get_or s at 0 ≡ 1 → at + 13 ≤ length s → got (insert i x) (at + 13) ≡ entry_at s at
    unfolding entry_at
    entry-1 d e h = rw (w, d, e, le-leb (at + 13) (length s) h)

    pub entry-4 : {x : ℤ} → x ≡ depth_at s (at + 5) → get_or s at 0 ≡ 4 → at + 13 ≤ length s → got (change i x) (at + 13) ≡ entry_at s at
    unfolding entry_at
    entry-4 d e h = rw (w, d, e, le-leb (at + 13) (length s) h)

-- ---- an entry that is read lies within, and one that is not is refused at its first byte

abbrev Within : ℕ → ℕ → Got Entry → Type 0
Within n at (got e next) = (at < next) × (next ≤ n)
Within n at (bad number place) = place ≡ at

whole-within : (s : List ℕ) (at size : ℕ) (e : Entry) → 0 < size → Within (length s) at (whole s at size e)
whole-within s at size e h = cond-by (Within (length s) at) (leb (at + size) (length s)) (λ q. (omega arith, leb-true (at + size) (length s) q)) (λ q. refl)

-- what is so of each kind is so of an entry
entry-by : (P : Got Entry → Type 0) (s : List ℕ) (at : ℕ)
    → (get_or s at 0 ≡ 1 → P (whole s at 13 (insert (word_at s (at + 1)) (depth_at s (at + 5))))) → (get_or s at 0 ≡ 2 → P (whole s at 5 (insert_absent (word_at s (at + 1)))))
    → (get_or s at 0 ≡ 3 → P (whole s at 5 (remove (word_at s (at + 1))))) → (get_or s at 0 ≡ 4 → P (whole s at 13 (change (word_at s (at + 1)) (depth_at s (at + 5)))))
    → P (bad 23 at) → P (entry_at s at)
unfolding entry_at
entry-by P s at f1 f2 f3 f4 b =
    let k = get_or s at 0 in
    cond-by P (eqb k 1) (λ q. f1 (eqb-true k 1 q))
    (λ q. cond-by P (eqb k 2) (λ q. f2 (eqb-true k 2 q))
    (λ q. cond-by P (eqb k 3) (λ q. f3 (eqb-true k 3 q))
    (λ q. cond-by P (eqb k 4) (λ q. f4 (eqb-true k 4 q)) (λ q. b))))

entry-near : (s : List ℕ) (at : ℕ) → Within (length s) at (entry_at s at)
entry-near s at =
    entry-by (Within (length s) at) s at (λ q. whole-within s at 13 _ (omega arith)) (λ q. whole-within s at 5 _ (omega arith))
    (λ q. whole-within s at 5 _ (omega arith)) (λ q. whole-within s at 13 _ (omega arith)) refl

pub entry-within : (s : List ℕ) (at : ℕ) {e : Entry} {next : ℕ} → entry_at s at ≡ got e next → (at < next) × (next ≤ length s)
entry-within s at q = rw q at (entry-near s at)

pub entry_place : (s : List ℕ) (at : ℕ) {number place : ℕ} → entry_at s at ≡ bad number place → place ≡ at
entry_place s at q = rw q at (entry-near s at)

-- ---- and it is the same where the bytes are cut behind it

module _ (s : List ℕ) (m : ℕ) where
  word_kept : (at : ℕ) → at + 4 ≤ m → word_at s at ≡ word_at (take m s) at
  unfolding word_at
  word_kept at h =
      sym (rw (get_or-take m s at 0 (omega arith), get_or-take m s (at + 1) 0 (omega arith), get_or-take m s (at + 2) 0 (omega arith), get_or-take m s (at + 3) 0 (omega arith)))

  depth-kept : (at : ℕ) → at + 8 ≤ m → depth_at s at ≡ depth_at (take m s) at
  unfolding depth_at
  depth-kept at h = rw (word_kept at (omega arith), word_kept (at + 4) (omega arith))

  module _ (at : ℕ) (w : m ≤ length s) where
    abbrev Kept : Got Entry → Type 0
    Kept (got e next) = next ≤ m → got e next ≡ entry_at (take m s) at
    Kept (bad number place) = Unit {0}

    kind-kept : at < m → get_or (take m s) at 0 ≡ get_or s at 0
    kind-kept h = get_or-take m s at 0 h

    cut-long : length (take m s) ≡ m
    cut-long = length-take-le m s w

    whole-kept : (size : ℕ) (e : Entry) → (at + size ≤ m → got e (at + size) ≡ entry_at (take m s) at) → Kept (whole s at size e)
    whole-kept size e f = cond-by Kept (leb (at + size) (length s)) (λ q h. f h) (λ q. tt)

    entry-keeps : Kept (entry_at s at)
    entry-keeps =
        entry-by Kept s at
        (λ q. whole-kept 13 _ (λ h. entry-1 (take m s) at (word_kept (at + 1) (omega arith)) (depth-kept (at + 5) (omega arith)) (kind-kept (omega arith) ∙ q) (omega (arith, cut-long))))
        (λ q. whole-kept 5 _ (λ h. entry-2 (take m s) at (word_kept (at + 1) (omega arith)) (kind-kept (omega arith) ∙ q) (omega (arith, cut-long))))
        (λ q. whole-kept 5 _ (λ h. entry-3 (take m s) at (word_kept (at + 1) (omega arith)) (kind-kept (omega arith) ∙ q) (omega (arith, cut-long))))
        (λ q. whole-kept 13 _ (λ h. entry-4 (take m s) at (word_kept (at + 1) (omega arith)) (depth-kept (at + 5) (omega arith)) (kind-kept (omega arith) ∙ q) (omega (arith, cut-long))))
        tt

    pub entry_kept : {e : Entry} {next : ℕ} → entry_at s at ≡ got e next → next ≤ m → got e next ≡ entry_at (take m s) at
    entry_kept q h = (rw q at entry-keeps) h
