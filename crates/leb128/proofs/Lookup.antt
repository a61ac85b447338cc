-- Signed numbers of one byte, by the table. `rule` says of each of the 256 entries of the fixed table what it is; with that table the
-- reader that is lent one reads what is there (`by-fixed`). A reader by any table answers the entry (`entry`), or reads on where it is
-- the mark (`on`) or where no byte is there (`none`). Assumes nothing.
use Prim.Native.Nat.{ℕ, zero, suc, ◌+◌, ◌*◌, ◌-◌, ◌<◌, ◌≤◌}
use mathlib.Core.Path.{◌≡◌, refl, sym, ap, ◌∙◌}
use mathlib.Core.List.{List}
use native.Mathlib.Decide.{dec_lt}
use native.Mathlib.Nat.{add-zero, zero-add, suc-add, add-suc, le_of_suc-le-suc, not-suc-le-zero}
use native.Mathlib.Omega.{arith}
use lib.IntN.{ℤ, pos, negsuc}
use lib.ListN.{length, get_or}
use lib.Signed.{mag}
use borrow.Author.Tests.{lt-ltb, le-ltb, ne_eqb}
use Rattle.leb128.specs.Got.{Got, got}
use Rattle.leb128.specs.Read.{i64_at}
use Rattle.leb128.specs.Short.{mark, entry_of, entries, short, by_entry, entry_in, i64_by}
use Rattle.leb128.proofs.Short.{one-digit}

entries_at : (n b k : ℕ) → k < n → get_or (entries n b) k (pos 0) ≡ entry_of (b + k)
entries_at zero b k h = absurd (not-suc-le-zero h)
entries_at (suc n) b zero h = ap entry_of (sym (add-zero b))
entries_at (suc n) b (suc k) h =
    entries_at n (suc b) k (le_of_suc-le-suc h) ∙ ap entry_of (suc-add b k ∙ sym (add-suc b k))

-- every entry of the fixed table
pub rule : (b : ℕ) → b < 256 → get_or short b (pos 0) ≡ entry_of b
unfolding short
rule b h = entries_at 256 0 b h ∙ ap entry_of (zero-add b)

-- an entry that is not the mark is the number
number : (at : ℕ) (x : ℤ) (g : Got ℤ) → (x ≡ mark → ⊥) → by_entry x at g ≡ got x (at + 1)
number at (pos n) g h = refl
number at (negsuc n) g h = rw (ne_eqb n 127 (λ e. h (ap negsuc e)))

-- the entry of a first byte that stands alone is not the mark, that of any other is
alone : (b : ℕ) → b < 128 → entry_of b ≡ mark → ⊥
alone b h = elim (dec_lt b 64) [
  | yes k ↦ λ e. let z : pos b ≡ mark = rw (lt-ltb b 64 k) at e in let q : b ≡ 127 = ap mag z in omega arith
  | no k ↦ let k' : 64 ≤ b = omega arith in
      λ e. let z : negsuc (127 - b) ≡ mark = rw (le-ltb b 64 k', lt-ltb b 128 h) at e in let q : 127 - b ≡ 127 = ap mag z in omega arith
]

more : (b : ℕ) → 128 ≤ b → entry_of b ≡ mark
more b h = let k : 64 ≤ b = omega arith in rw (le-ltb b 64 k, le-ltb b 128 h)

fixed : (b : ℕ) → entry_in short b ≡ entry_of b
fixed b = elim (dec_lt b 256) [
  | yes k ↦ rw (lt-ltb b 256 k) (rule b k)
  | no k ↦ let l : 256 ≤ b = omega arith in let m : 128 ≤ b = omega arith in rw (le-ltb b 256 l) (sym (more b m))
]

module _ (s : List ℕ) (at : ℕ) where
  module _ (h : at < length s) where
    pub one-i64 : get_or s at 0 < 128 → got (entry_of (get_or s at 0)) (at + 1) ≡ i64_at s at
    unfolding i64_at
    one-i64 b = elim (dec_lt (get_or s at 0) 64) [
      | yes k ↦ let e : 0 + 1 * get_or s at 0 ≡ get_or s at 0 = omega arith in rw (one-digit s at h b, lt-ltb _ 64 k, e)
      | no k ↦ let l : 64 ≤ get_or s at 0 = omega arith in
          let e : 1 * 128 - suc (0 + 1 * get_or s at 0) ≡ 127 - get_or s at 0 = omega arith in
          rw (one-digit s at h b, le-ltb _ 64 l, lt-ltb _ 128 b, e)
    ]

    pub entry : (table : List ℤ) {x : ℤ} {b : ℕ} → b ≡ get_or s at 0 → b < 256 → x ≡ get_or table b (pos 0) → (x ≡ mark → ⊥)
        → got x (at + 1) ≡ i64_by table s at
    unfolding i64_by
    entry table e k f n = rw (lt-ltb at (length s) h, ← e, lt-ltb _ 256 k, ← f) (sym (number at _ _ n))

    pub on : (table : List ℤ) {b : ℕ} → b ≡ get_or s at 0 → b < 256 → get_or table b (pos 0) ≡ mark → i64_at s at ≡ i64_by table s at
    unfolding i64_by
    on table e k f = rw (lt-ltb at (length s) h, ← e, lt-ltb _ 256 k, f)

  pub none : (table : List ℤ) → length s ≤ at → i64_at s at ≡ i64_by table s at
  unfolding i64_by
  none table h = rw (le-ltb at (length s) h)

  by-short : i64_by short s at ≡ i64_at s at
  unfolding i64_by
  by-short = elim (dec_lt at (length s)) [
    | yes h ↦ here h
    | no h ↦ sym (none short (omega arith))
  ]
    where
      here : at < length s → i64_by short s at ≡ i64_at s at
      here h = elim (dec_lt (get_or s at 0) 128) [
        | yes b ↦ rw (lt-ltb at (length s) h, fixed (get_or s at 0)) (number at _ (i64_at s at) (alone _ b) ∙ one-i64 h b)
        | no b ↦ let l : 128 ≤ get_or s at 0 = omega arith in rw (lt-ltb at (length s) h, fixed (get_or s at 0), more _ l)
      ]

-- a table that is lent is the fixed one
pub by-fixed : {table : List ℤ} → table ≡ short → (s : List ℕ) (at : ℕ) → i64_by table s at ≡ i64_at s at
by-fixed e s at = ap (λ t. i64_by t s at) e ∙ by-short s at
