-- What a number of a table is refused with, and what is true of its bytes that are there (`Broken`). Assumes nothing.
use Prim.Native.Nat.{ℕ, ◌≤◌}
use mathlib.Core.Path.{◌≡◌, refl, sym, ◌∙◌}
use mathlib.Core.List.{List}
use mathlib.Core.Bool.{Bool, true, false, cond}
use native.Mathlib.Decide.{dec_lt}
use native.Mathlib.Omega.{arith}
use lib.Dec.{leb}
use lib.ListN.{length, drop, drop_of_length-le}
use Rattle.leb128.specs.Got.{Got, got, bad}
use Rattle.leb128.specs.Read.{narrow, u32_at, u64_at}
use Rattle.leb128.proofs.Laws.{u64-next}
use Rattle.leb128.proofs.Refusals.{u64-none}
use Rattle.reason.specs.Reason.{number_bytes}
use Rattle.reason.specs.True.{Broken}
use Rattle.reason.proofs.Broken.{u64-broken, u64-whole}
use Rattle.table_reason.specs.True.{RowBad, bad_spec, bad_len}

abbrev There : List ℕ → ℕ → ℕ → Type 0
There s number place = Broken s number place (number_bytes 0 (drop place s))

pub u64-refusal : (s : List ℕ) (p number place : ℕ) → u64_at s p ≡ bad number place → There s number place
unfolding number_bytes
u64-refusal s p number place e = elim (dec_lt p (length s)) [
  | yes h ↦ let b = u64-broken s p number place (omega arith) e in rw b.0 b.1
  | no h ↦
      let z : ◌≡◌ {A = Got ℕ} (bad 21 (length s)) (bad number place) = sym (u64-none s p (omega arith)) ∙ e in
      let q : number ≡ 21 = cc in
      let w : place ≡ length s = cc in
      let l : length s ≤ place = omega arith in
      Broken.none q w (rw (drop_of_length-le s l))
]

-- a u32 is refused as a u64 is, or with 2
narrow-refusal : (s : List ℕ) (at number place : ℕ) (g : Got ℕ) → u64_at s at ≡ g → narrow at g ≡ bad number place → There s number place
narrow-refusal s at number place (got v next) h e = go (leb v 4294967295) e
  where
    go : (b : Bool) → ◌≡◌ {A = Got ℕ} (cond b (got v next) (bad 2 at)) (bad number place) → There s number place
    go true e = let z : ◌≡◌ {A = ℕ} 0 1 = cc in absurd (omega arith)
    go false e =
        let m : number ≡ 2 = cc in
        let q : place ≡ at = cc in
        let n = u64-next s at v next h in
        rw (m, q) (u64-whole s at 2 at (omega arith) v next h)
narrow-refusal s at number place (bad r p) h e = let z : u64_at s at ≡ bad number place = h ∙ e in u64-refusal s at number place z

pub row-refusal : {s : List ℕ} {p number place : ℕ} → RowBad s p number place → There s number place
unfolding u32_at
row-refusal {s} {p} {number} {place} (bad_spec e) = narrow-refusal s p number place (u64_at s p) refl e
row-refusal {s} {p} {number} {place} (bad_len {spec} {q} e f) = u64-refusal s q number place f
