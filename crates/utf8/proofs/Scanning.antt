-- The loop of `is_utf8`: byte by byte, whether the bytes from here on go on as is due says whether all are UTF-8. A turn keeps that
-- (`on`), and each way out reads the answer off it (`never`, `end`). Assumes nothing.
use Rattle.std.proofs.Common.{◌≡◌, ℕ, zero, suc, ◌+◌, ◌-◌, ◌<◌, ◌≤◌, List, [], ◌∷◌, length, get_or, drop, Bool, true, false, cond, eqb, refl, sym, ap, ◌∙◌, arith, replicate}
use Rattle.std.proofs.Math.Option.{Option, none, some}
use Rattle.std.proofs.lemmas.List.{at_drop_more, at_drop_all}
use borrow.Author.Tests.{ne_eqb}
use Rattle.utf8.specs.Utf8.{Range, among, tail, begun, goes_on}
use Rattle.utf8.specs.Due.{ranges, behind}
use Rattle.utf8.proofs.Table.{yes-among}

goes-behind : (rs : List Range) (b : ℕ) (s : List ℕ) → goes_on rs (b ∷ s) ≡ begun (behind rs b) (λ due. goes_on due s)
unfolding goes_on
goes-behind [] b s = refl
goes-behind (r ∷ rs) b s = go (among r b) refl
  where
    go : (t : Bool) → among r b ≡ t → goes_on (r ∷ rs) (b ∷ s) ≡ begun (cond t (some rs) none) (λ due. goes_on due s)
    go true e = rw e
    go false e = rw e

module _ (s : List ℕ) (rs : List Range) (i : ℕ) {x : Bool} (inv : x ≡ goes_on rs (drop i s)) (h : i < length s) where
  turn : {d : Option (List Range)} → d ≡ behind rs (get_or s i 0) → x ≡ begun d (λ due. goes_on due (drop (i + 1) s))
  turn e = inv ∙ at_drop_more (goes_on rs) s i 0 h ∙ goes-behind rs (get_or s i 0) (drop (i + 1) s) ∙ rw e

  pub on : {rs' : List Range} → some rs' ≡ behind rs (get_or s i 0) → x ≡ goes_on rs' (drop (i + 1) s)
  on e = turn e

  pub never : none ≡ behind rs (get_or s i 0) → false ≡ x
  never e = sym (turn e)

-- nothing is due behind the last byte
goes_end : (n low high : ℕ) → goes_on (ranges n low high) [] ≡ eqb n 0
unfolding goes_on
goes_end zero low high = refl
goes_end (suc n) low high = sym (ne_eqb (suc n) 0 (λ e. omega arith))

pub end : (s : List ℕ) (n low high i : ℕ) {x : Bool} → x ≡ goes_on (ranges n low high) (drop i s) → length s ≤ i → eqb n 0 ≡ x
end s n low high i inv h = sym (inv ∙ at_drop_all (goes_on (ranges n low high)) s i h ∙ goes_end n low high)

-- ---- one byte

tails : (n : ℕ) → ranges n 0x80 0xbf ≡ replicate n tail
tails zero = refl
tails (suc n) = refl

pub among-due : (n low high b : ℕ) → (n ≡ 0 → ⊥) → low ≤ b → b ≤ high → some (ranges (n - 1) 0x80 0xbf) ≡ behind (ranges n low high) b
among-due zero low high b h l k = absurd (h refl)
among-due (suc n) low high b h l k =
    let e : suc n - 1 ≡ n = omega arith in
    rw (yes-among low high b l k, e) (ap some (tails n))
