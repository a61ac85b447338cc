-- The laws of the element i64: those of signed numbers. Assumes nothing.
use Prim.Native.Nat.{ℕ, ◌^◌, ◌≤◌}
use mathlib.Core.Path.{◌≡◌, refl, ap}
use mathlib.Core.Bool.{true}
use native.Mathlib.Omega.{arith}
use lib.IntN.{ℤ, pos, negsuc}
use lib.ListN.{length}
use lib.Signed.{mag}
use borrow.Author.Tests.{ltb-true, lt-ltb, eqb-true, eq-eqb}
use Rattle.leb128.specs.Got.{got}
use Rattle.leb128.specs.Read.{i64_at}
use Rattle.leb128.specs.Write.{i64_bytes}
use Rattle.leb128.proofs.Laws.{i64-back, i64-next, i64-only, i64-short}
use Rattle.encoding.proofs.Elements.{ElementLaws, stands_read}
use Rattle.delta_decoder.specs.Difference.{same_z, i64_e}

same-eq : (a b : ℤ) → same_z a b ≡ true → a ≡ b
same-eq (pos a) (pos b) e = ap pos (eqb-true a b e)
same-eq (pos a) (negsuc b) e = let z : ◌≡◌ {A = ℕ} 0 1 = cc in absurd (omega arith)
same-eq (negsuc a) (pos b) e = let z : ◌≡◌ {A = ℕ} 0 1 = cc in absurd (omega arith)
same-eq (negsuc a) (negsuc b) e = ap negsuc (eqb-true a b e)

same_self : (a : ℤ) → same_z a a ≡ true
same_self (pos a) = eq-eqb a a refl
same_self (negsuc a) = eq-eqb a a refl

pub i64-laws : ElementLaws i64_e
i64-laws =
    record {
      back = λ s p a f h. stands_read i64_at (got a) (i64_bytes a) (λ pre post. i64-back pre post a (ltb-true (mag a) (2 ^ 63) f)) s p h;
      ahead = λ s p q a e. (i64-next s p q a e).0;
      within = λ s p q a e. (i64-next s p q a e).1;
      exact = λ s B p q a e. let h = i64-only s B p q a e in (h.0, lt-ltb (mag a) (2 ^ 63) h.1);
      same-eq = same-eq;
      same_self = same_self;
    }

pub i64-ten : (a : ℤ) → length (i64_e.write a) ≤ 10
i64-ten a = (i64-short a).1
