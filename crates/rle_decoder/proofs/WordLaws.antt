-- The laws of the element u64: those of unsigned numbers. Assumes nothing.
use Prim.Native.Nat.{ℕ, ◌^◌, ◌≤◌}
use mathlib.Core.Path.{refl}
use lib.ListN.{length}
use borrow.Author.Tests.{ltb-true, lt-ltb, eqb-true, eq-eqb}
use Rattle.leb128.specs.Got.{got}
use Rattle.leb128.specs.Read.{u64_at}
use Rattle.leb128.specs.Write.{u64_bytes}
use Rattle.leb128.proofs.Laws.{u64-back, u64-next, u64-only, u64-short}
use Rattle.encoding.proofs.Elements.{ElementLaws, stands_read}
use Rattle.rle_decoder.specs.Word.{u64_e}

pub u64-laws : ElementLaws u64_e
u64-laws =
    record {
      back = λ s p a f h. stands_read u64_at (got a) (u64_bytes a) (λ pre post. u64-back pre post a (ltb-true a (2 ^ 64) f)) s p h;
      ahead = λ s p q a e. (u64-next s p a q e).0;
      within = λ s p q a e. (u64-next s p a q e).1;
      exact = λ s B p q a e. let h = u64-only s B p a q e in (h.0, lt-ltb a (2 ^ 64) h.1);
      same-eq = λ a b e. eqb-true a b e;
      same_self = λ a. eq-eqb a a refl;
    }

pub u64-ten : (a : ℕ) → length (u64_e.write a) ≤ 10
u64-ten a = (u64-short a).1
