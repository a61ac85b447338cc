-- The list that is walked, as the loops over it see it: the reading that is held, and what comes behind it. Assumes nothing.
use Prim.Native.Nat.{ℕ, zero, suc, ◌+◌, ◌-◌, ◌≤◌, ◌<◌}
use mathlib.Core.Path.{◌≡◌, refl, sym, ◌∙◌, ap}
use mathlib.Core.List.{List, [], ◌∷◌, ◌++◌}
use mathlib.Core.Option.{Option}
use mathlib.Core.Bool.{true}
use native.Mathlib.Omega.{arith}
use lib.ListN.{length, take, replicate, length-append}
use Rattle.leb128.specs.Write.{u64_bytes}
use Rattle.encoding.specs.Writer.{all_bytes, any_present}
use Rattle.encoding.proofs.StretchParts.{Parts}
use Rattle.encoding.proofs.Times.{piece-less, any-behind, any-first}
use Rattle.text.specs.Text.{bytes_at, text_bytes, text_e}
use Rattle.text_encoder.specs.declared.walk.Held.{Held}
use Rattle.text_encoder.specs.declared.walk.Held.TheVariants as held
use Rattle.text_encoder.specs.declared.walk.Splicing.{Splicing}
use Rattle.encoding.specs.Cuts.{somes, written_in}
use Rattle.text_encoder.specs.Walks.{held_in, Within, size_in, rest_of, list_of, Going}
use Rattle.encoding.proofs.Written.{bytes-length, values_length}

-- ---- what is written of the reading that is held

-- a name: its length number, and its bytes
pub name-parts : (s : List ℕ) (i n : ℕ) → i + n ≤ length s → Parts (u64_bytes n) (bytes_at s i n) (text_bytes (bytes_at s i n))
unfolding text_bytes
name-parts s i n h = record { whole = ap (λ (k : ℕ). u64_bytes k ++ bytes_at s i n) (sym (bytes-length s i n h)) }

text-length : (v : List ℕ) (n : ℕ) → length v ≡ n → length (text_bytes v) ≡ length (u64_bytes n) + n
unfolding text_bytes
text-length v n e = length-append (u64_bytes (length v)) v ∙ ap (λ (k : ℕ). length (u64_bytes k) + k) e

pub held-length : (column bytes : List ℕ) (h : Held) → Within column bytes h → length (written_in text_e (held_in column bytes h)) ≡ size_in h
held-length column bytes held.Absent w = refl
held-length column bytes (held.Old start len) w = text-length (bytes_at column start len) len (bytes-length column start len w)
held-length column bytes (held.New start len) w = text-length (bytes_at bytes start len) len (bytes-length bytes start len w)

-- ---- the reading that is held, and what comes behind

first_of : {A : Type 0} (m : ℕ) (x : A) (ys : List A) → 0 < m → replicate m x ++ ys ≡ x ∷ (replicate (m - 1) x ++ ys)
first_of zero x ys l = absurd (omega arith)
first_of (suc m) x ys l = let z : m ≡ suc m - 1 = omega arith in ap (λ (k : ℕ). x ∷ (replicate k x ++ ys)) z

module _ (column bytes : List ℕ) (new : List (Option (List ℕ))) (s : Splicing) where
  pub walk_first : 0 < s.times
      → list_of column bytes new s
      ≡ held_in column bytes s.held ∷ (replicate (s.times - 1) (held_in column bytes s.held) ++ rest_of column new s)
  walk_first l = first_of s.times (held_in column bytes s.held) (rest_of column new s) l

  pub walk-shorter : 0 < s.times → length (rest_of column new s) < length (list_of column bytes new s)
  walk-shorter l = piece-less s.times (held_in column bytes s.held) (rest_of column new s) (rest_of column new s) refl l

  -- the names of k readings: that of the reading that is held, and those of the others
  pub walk-size : (k : ℕ) (ys : List (Option (List ℕ))) → 0 < k → Within column bytes s.held → list_of column bytes new s ≡ held_in column bytes s.held ∷ ys
      → length (all_bytes text_e (somes (take k (list_of column bytes new s)))) ≡ size_in s.held + length (all_bytes text_e (somes (take (k - 1) ys)))
  walk-size k ys l w e =
      values_length text_e l e ∙ ap (λ (n : ℕ). n + length (all_bytes text_e (somes (take (k - 1) ys)))) (held-length column bytes s.held w)

  -- ---- is any reading present
  pub walk-some : 0 < s.times → (s.held ≡ held.Absent → ⊥) → true ≡ any_present (list_of column bytes new s)
  walk-some l n = go s.held refl
    where
      behind : List (Option (List ℕ))
      behind = replicate (s.times - 1) (held_in column bytes s.held) ++ rest_of column new s

      go : (h : Held) → s.held ≡ h → true ≡ any_present (list_of column bytes new s)
      go held.Absent e = absurd (n e)
      go (held.Old start len) e = any-first (walk_first l ∙ ap (λ (k : Held). held_in column bytes k ∷ behind) e)
      go (held.New start len) e = any-first (walk_first l ∙ ap (λ (k : Held). held_in column bytes k ∷ behind) e)

  pub walk_none : s.held ≡ held.Absent → any_present (list_of column bytes new s) ≡ any_present (rest_of column new s)
  walk_none e =
      ap (λ (k : Held). any_present (replicate s.times (held_in column bytes k) ++ rest_of column new s)) e
      ∙ any-behind s.times (rest_of column new s)

  -- ---- the end of the walk
  module _ (g : Going column bytes new s) where
    pub walk-over : s.times ≤ 0 → list_of column bytes new s ≡ []
    walk-over h = g.ended (omega arith)

    pub walk-there : 0 < length (list_of column bytes new s) → 0 < s.times
    walk-there l = go s.times refl
      where
        go : (t : ℕ) → s.times ≡ t → 0 < s.times
        go zero e = absurd (omega (arith, ap length (g.ended e)))
        go (suc t) e = omega arith
