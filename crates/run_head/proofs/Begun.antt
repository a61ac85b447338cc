-- A run by its count, one law for each sign; and by a count of one byte, where the limit is far. Assumes nothing.
use Prim.Native.Nat.{ℕ, ◌+◌, ◌≤◌, ◌<◌}
use mathlib.Core.Path.{◌≡◌, sym, ◌∙◌, ap}
use mathlib.Core.List.{List}
use native.Mathlib.Omega.{arith}
use lib.IntN.{ℤ, pos, negsuc, nat_abs}
use lib.ListN.{length, get_or}
use borrow.Author.Tests.{ne_eqb, le-leb}
use Rattle.leb128.specs.Got.{got}
use Rattle.leb128.specs.Read.{u64_at}
use Rattle.leb128.specs.Short.{mark}
use Rattle.leb128.proofs.Lookup.{entry}
use Rattle.leb128.proofs.Short.{one-u64}
use Rattle.encoding.specs.Head.{Head, judged, absent_head, begun, head_by}
use Rattle.encoding.specs.Limit.{limit}
use Rattle.encoding.proofs.Heads.{head-by}

module _ (s : List ℕ) (at had q : ℕ) {x : ℤ} where
  pub negative : {m n : ℕ} → x ≡ negsuc m → n ≡ nat_abs x → judged had n at (Head.literal n q) ≡ begun s at had (got x q)
  unfolding begun
  negative h k = simp (h, k)

  pub nought : x ≡ pos 0 → absent_head had q (u64_at s q) ≡ begun s at had (got x q)
  unfolding begun
  nought h = simp h

  pub positive : {m n : ℕ} → x ≡ pos m → (m ≡ 0 → ⊥) → n ≡ nat_abs x → judged had n at (Head.repeat n q) ≡ begun s at had (got x q)
  unfolding begun
  positive h z k = simp (h, k, ne_eqb _ 0 z)

-- a count that does not pass the limit
held : (had c place : ℕ) (h : Head) → had + c ≤ limit → h ≡ judged had c place h
held had c place h l = simp (le-leb (had + c) limit l)

-- the count x is the entry of the byte at `at`
module _ (table : List ℤ) (s : List ℕ) (at had : ℕ) (far : had + 256 ≤ limit) (h : at < length s)
    {x : ℤ} {b : ℕ} (e : b ≡ get_or s at 0) (k : b < 256) (f : x ≡ get_or table b (pos 0)) (small : nat_abs x ≤ 128) where
  pub near-literal : {m n : ℕ} → x ≡ negsuc m → (x ≡ mark → ⊥) → n ≡ nat_abs x → Head.literal n (at + 1) ≡ head_by table s at had
  near-literal {m} {n} p z c =
      held had n at (Head.literal n (at + 1)) (omega (arith, c)) ∙ negative s at had (at + 1) p c
      ∙ head-by s at had table (sym (entry s at h table e k f z))

  pub near-repeat : {m n : ℕ} → x ≡ pos m → (m ≡ 0 → ⊥) → n ≡ nat_abs x → Head.repeat n (at + 1) ≡ head_by table s at had
  near-repeat {m} {n} p z c =
      let mark-not : x ≡ mark → ⊥ = λ q. let w : ◌≡◌ {A = ℕ} 0 1 = cc in omega arith in
      held had n at (Head.repeat n (at + 1)) (omega (arith, c)) ∙ positive s at had (at + 1) p z c
      ∙ head-by s at had table (sym (entry s at h table e k f mark-not))

  pub near-absent : {c : ℕ} → x ≡ pos 0 → at + 1 < length s → c ≡ get_or s (at + 1) 0 → c < 128 → Head.absent c (at + 1 + 1) ≡ head_by table s at had
  unfolding absent_head
  near-absent {c} p l g d =
      let mark-not : x ≡ mark → ⊥ = λ q. let w : ◌≡◌ {A = ℕ} 0 1 = cc in omega arith in
      let r : got c (at + 1 + 1) ≡ u64_at s (at + 1) = rw g (one-u64 s (at + 1) l (omega (arith, g))) in
      held had c (at + 1) (Head.absent c (at + 1 + 1)) (omega arith) ∙ ap (absent_head had (at + 1)) r ∙ nought s at had (at + 1) p
      ∙ head-by s at had table (sym (entry s at h table e k f mark-not))
