-- A signed count by its sign and size: as it is told, and how many readings it asks for. Assumes nothing.
use Prim.Native.Nat.{ℕ, ◌+◌}
use mathlib.Core.Path.{◌≡◌, sym, ◌∙◌, ap}
use mathlib.Core.List.{List}
use mathlib.Core.Bool.{Bool, cond}
use native.Mathlib.Numerals.{add-one}
use lib.IntN.{ℤ, pos, negsuc}
use borrow.Author.Tests.{eq-eqb, ne_eqb}
use Rattle.leb128.specs.Got.{got}
use Rattle.leb128.specs.Read.{u64_at}
use Rattle.reason.specs.Reason.{plus, minus, signed_count, second, asked}

module _ (m q : ℕ) {c : ℤ} where
  pub told-minus : c ≡ negsuc m → minus (m + 1) ≡ signed_count (got c q)
  told-minus e = ap minus (add-one m) ∙ sym (ap (λ (c : ℤ). signed_count (got c q)) e)

  pub told-plus : c ≡ pos m → plus m ≡ signed_count (got c q)
  told-plus e = sym (ap (λ (c : ℤ). signed_count (got c q)) e)

  module _ (s : List ℕ) where
    asks : {x : ℤ} → c ≡ x → asked s (got c q) ≡ asked s (got x q)
    asks e = ap (λ (c : ℤ). asked s (got c q)) e

    pub asks-literal : c ≡ negsuc m → m + 1 ≡ asked s (got c q)
    asks-literal e = add-one m ∙ sym (asks e)

    pub asks-absent : c ≡ pos m → m ≡ 0 → second (u64_at s q) ≡ asked s (got c q)
    asks-absent e z = sym (asks e ∙ ap (λ (b : Bool). cond b (second (u64_at s q)) m) (eq-eqb m 0 z))

    pub asks-repeat : c ≡ pos m → (m ≡ 0 → ⊥) → m ≡ asked s (got c q)
    asks-repeat e z = sym (asks e ∙ ap (λ (b : Bool). cond b (second (u64_at s q)) m) (ne_eqb m 0 z))
