-- 21 is given at the end of the bytes alone: by numbers, by names, which are 1 where they are cut, and by how a run begins, where it is the second number of
-- an absent run; an absent run of 0 is then as good as none. Assumes nothing.
use Prim.Native.Nat.{ℕ, zero, suc, ◌+◌, ◌≤◌, ◌<◌}
use mathlib.Core.Path.{◌≡◌, refl, sym, ◌∙◌, ap, subst}
use mathlib.Core.List.{List, [], ◌++◌, append-nil}
use mathlib.Core.Bool.{Bool, true, false, cond}
use native.Mathlib.Decide.{dec_lt}
use native.Mathlib.Omega.{arith}
use lib.Dec.{leb, eqb}
use lib.IntN.{ℤ, pos, negsuc}
use lib.ListN.{length, length-append}
use borrow.Author.Tests.{eqb-true, le-leb}
use Rattle.leb128.specs.Got.{Got, got, bad}
use Rattle.leb128.specs.Read.{u64_at, i64_at}
use Rattle.leb128.specs.Write.{encoded, u64_bytes}
use Rattle.leb128.proofs.Laws.{u64-back, i64-next}
use Rattle.leb128.proofs.Refusals.{Begun, u64-begun, i64-begun}
use Rattle.encoding.specs.Limit.{limit}
use Rattle.encoding.specs.Head.{Head, amiss, judged, absent_head, begun, head_at}
use Rattle.encoding.proofs.Elements.{Stands, stands_read}
use Rattle.utf8.specs.Utf8.{is_utf8}
use Rattle.text.specs.Text.{bytes_at, valued, text_at}
use Rattle.salvage.specs.Kept.{Bytes}
use Rattle.salvage.proofs.Staying.{Stays, i64-stays}

-- bytes behind all others
pub stands-behind : (s w : List ℕ) → Stands (s ++ w) (length s) w
stands-behind s w = record { pre = s; post = []; split = ap (λ (l : List ℕ). s ++ l) (sym (append-nil w)); place = refl }

pub u64-due : (s : List ℕ) (p place : ℕ) → u64_at s p ≡ bad 21 place → length s ≤ p
u64-due s p place e = elim (dec_lt p (length s)) [
  | yes l ↦ let h = subst Begun e (u64-begun s p l) in absurd (omega (arith, h.1))
  | no l ↦ omega arith
]

pub i64-due : (s : List ℕ) (p place : ℕ) → i64_at s p ≡ bad 21 place → length s ≤ p
i64-due s p place e = elim (dec_lt p (length s)) [
  | yes l ↦ let h = subst Begun e (i64-begun s p l) in absurd (omega (arith, h.1))
  | no l ↦ omega arith
]

-- 21 is that of its length number: a name that is cut is 1
pub text-due : (s : List ℕ) (p place : ℕ) → text_at s p ≡ bad 21 place → length s ≤ p
unfolding text_at
text-due s p place e = go (u64_at s p) refl e
  where
    there : (n q : ℕ) (a b : Bool) → cond a (cond b (got (bytes_at s q n) (q + n)) (bad 20 p)) (bad 1 p) ≡ bad 21 place → ⊥
    there n q true true e = let z : ◌≡◌ {A = ℕ} 0 1 = cc in omega arith
    there n q true false e = let z : ◌≡◌ {A = ℕ} 20 21 = cc in omega arith
    there n q false b e = let z : ◌≡◌ {A = ℕ} 1 21 = cc in omega arith

    go : (g : Got ℕ) → u64_at s p ≡ g → valued s p g ≡ bad 21 place → length s ≤ p
    go (got n q) d e = absurd (there n q (leb (q + n) (length s)) (is_utf8 (bytes_at s q n)) e)
    go (bad n k) d e = let z : n ≡ 21 = cc in u64-due s p k (rw z at d)

-- of heads, by an absent run's second number alone
five : (t : Bool) (h : Head) (p place : ℕ) → (h ≡ amiss 21 place → ⊥) → cond t h (amiss 5 p) ≡ amiss 21 place → ⊥
five true h p place f e = f e
five false h p place f e = let z : ◌≡◌ {A = ℕ} 5 21 = cc in omega arith

absent-due : (s : List ℕ) (had q place : ℕ) (g : Got ℕ) → u64_at s q ≡ g → absent_head had q g ≡ amiss 21 place → length s ≤ q
unfolding absent_head
absent-due s had q place (got c z) e h =
    absurd (five (leb (had + c) limit) (Head.absent c z) q place (λ e. let y : ◌≡◌ {A = ℕ} 0 1 = cc in omega arith) h)
absent-due s had q place (bad n k) e h = let z : n ≡ 21 = cc in u64-due s q k (rw z at e)

head-due : (s : List ℕ) (at had place : ℕ) → at < length s → head_at s at had ≡ amiss 21 place → i64_at s at ≡ got (pos 0) (length s)
unfolding head_at begun
head-due s at had place l h = go (i64_at s at) refl h
  where
    zero-due : (c q : ℕ) → i64_at s at ≡ got (pos c) q → (t : Bool) → eqb c 0 ≡ t
        → cond t (absent_head had q (u64_at s q)) (judged had c at (Head.repeat c q)) ≡ amiss 21 place → i64_at s at ≡ got (pos 0) (length s)
    zero-due c q e true z h =
        let k : c ≡ 0 = eqb-true c 0 z in
        let m : q ≡ length s = omega (arith, absent-due s had q place (u64_at s q) refl h, (i64-next s at q (pos c) e).1) in
        e ∙ ap (λ (j : ℕ). got (pos j) q) k ∙ ap (λ (j : ℕ). got (pos 0) j) m
    zero-due c q e false z h =
        absurd (five (leb (had + c) limit) (Head.repeat c q) at place (λ e. let y : ◌≡◌ {A = ℕ} 0 1 = cc in omega arith) h)

    go : (g : Got ℤ) → i64_at s at ≡ g → begun s at had g ≡ amiss 21 place → i64_at s at ≡ got (pos 0) (length s)
    go (bad n k) e h = let z : n ≡ 21 = cc in let b = subst Begun e (i64-begun s at l) in absurd (omega (arith, b.1))
    go (got (negsuc c) q) e h =
        absurd (five (leb (had + suc c) limit) (Head.literal (suc c) q) at place (λ e. let y : ◌≡◌ {A = ℕ} 0 1 = cc in omega arith) h)
    go (got (pos c) q) e h = zero-due c q e (eqb c 0) refl h

-- no reading more, by an absent run of 0
pub zero-bytes : Bytes (u64_bytes 0)
unfolding encoded
zero-bytes zero = omega arith
zero-bytes (suc i) = omega arith

pub head-none : (s : List ℕ) (at had place : ℕ) → had ≤ limit → at < length s → head_at s at had ≡ amiss 21 place
    → head_at (s ++ u64_bytes 0) at had ≡ Head.absent 0 (length (s ++ u64_bytes 0))
unfolding head_at begun absent_head
head-none s at had place m l h =
    let t : List ℕ = s ++ u64_bytes 0 in
    let e : i64_at t at ≡ got (pos 0) (length s) = subst (λ (g : Got ℤ). Stays g (i64_at t at)) (head-due s at had place l h) (i64-stays s (u64_bytes 0) at) in
    let f : u64_at t (length s) ≡ got 0 (length s + length (u64_bytes 0)) =
    stands_read u64_at (got 0) (u64_bytes 0) (λ pre post. u64-back pre post 0 (omega arith)) t (length s) (stands-behind s (u64_bytes 0)) in
    ap (begun t at had) e
    ∙ ap (absent_head had (length s)) f
    ∙ ap (λ (b : Bool). cond b (Head.absent 0 (length s + length (u64_bytes 0))) (amiss 5 (length s))) (le-leb (had + 0) limit (omega arith))
    ∙ ap (Head.absent 0) (sym (length-append s (u64_bytes 0)))
