-- Laws of the loops that put and clear elements of slots, over any element: where a loop starts, what a turn stores, where it ends; and of a move to where
-- they are.
-- Assumes nothing.
use mathlib.Core.Path.{◌≡◌, refl, sym, ap, ◌∙◌}
use mathlib.Core.List.{List}
use Prim.Native.Nat.{ℕ, ◌+◌, ◌-◌, ◌≤◌, ◌<◌}
use native.Mathlib.Numerals.{add-one}
use native.Mathlib.Omega.{arith}
use lib.ListN.{length, get_or, set, drop, replicate, length-set, length-replicate, get_or-replicate, take-append-drop}
use lib.Seq.{paste, paste-zero, paste-suc, take-add}

module _ {A : Type 0} where
  -- the slots d after i elements of src were stored from `at` on
  pub record Stored (d : List A) (at : ℕ) (src : List A) (i : ℕ) (s : List A) : Type 0 where
    pub is : s ≡ paste d at src i
    pub long : length s ≡ length d

  pub stored-none : (d : List A) (at : ℕ) (src : List A) → Stored d at src 0 d
  stored-none d at src = record { is = paste-zero d at src; long = refl }

  pub stored-all : {d : List A} {at : ℕ} {src : List A} {i : ℕ} {s : List A} (n : ℕ) → Stored d at src i s → i ≡ n → s ≡ paste d at src n
  stored-all {d} {at} {src} n k e = k.is ∙ ap (paste d at src) e

  -- a turn that puts
  pub put-turn : {d : List A} {at : ℕ} {src : List A} {i : ℕ} {s : List A} {v : A} (z : A)
      → Stored d at src i s → at + i < length d → i < length src → v ≡ get_or src i z → Stored d at src (i + 1) (set s (at + i) v)
  put-turn {d} {at} {src} {i} {s} {v} z k h t e =
      record {
        is = rw (e, add-one) (ap (λ (l : List A). set l (at + i) (get_or src i z)) k.is ∙ paste-suc d at src i z h t);
        long = length-set s (at + i) v ∙ k.long;
      }

  -- one that clears
  pub clear-start : (d : List A) (at : ℕ) (src : List A) → Stored d at src (at - at) d
  clear-start d at src = let e : at - at ≡ 0 = omega arith in rw e (stored-none d at src)

  pub clear-turn : {d s : List A} (z : A) (at end i : ℕ)
      → Stored d at (replicate (end - at) z) (i - at) s → at ≤ i → i < end → end ≤ length d → Stored d at (replicate (end - at) z) (i + 1 - at) (set s i z)
  clear-turn {d} {s} z at end i k h t b =
      let e : at + (i - at) ≡ i = omega arith in
      let f : i - at + 1 ≡ i + 1 - at = omega arith in
      let l = length-replicate (end - at) z in
      rw (e, f) at (put-turn {v = z} z k (omega arith) (omega (arith, l)) (sym (get_or-replicate (end - at) (i - at) z z (omega arith))))

  -- elements that stay where they are
  pub stay : (d : List A) (from to n : ℕ) → to ≡ from → d ≡ paste d to (drop from d) n
  stay d from to n e = rw (e, ← take-add from n d) (sym (take-append-drop (from + n) d))
