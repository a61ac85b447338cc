-- Numbers of one byte, passed over without being read. Assumes nothing.
use Prim.Native.Nat.{ℕ, zero, suc, ◌+◌, ◌-◌, ◌≤◌, ◌<◌}
use mathlib.Core.Path.{◌≡◌, sym, ◌∙◌}
use mathlib.Core.List.{List}
use native.Mathlib.Omega.{arith}
use lib.ListN.{length, get_or}
use Rattle.leb128.proofs.Short.{one-u64}
use Rattle.encoding.specs.Walk.{Next}
use Rattle.encoding.specs.Column.{Spot, literals}
use Rattle.encoding.proofs.Walking.{next-eq}
use Rattle.encoding.proofs.Columns.{literals-on}
use Rattle.rle_decoder.specs.Word.{u64_e}

module _ (s : List ℕ) (total : ℕ) where
  -- what comes behind c literal values from q on
  abbrev pub behind : ℕ → ℕ → Next Spot
  behind c q = (literals u64_e s total c q).next

  pub behind-eq : {c c' q q' : ℕ} → c ≡ c' → q ≡ q' → behind c q ≡ behind c' q'
  behind-eq e f = cc

  one-passed : (c q : ℕ) → q < length s → 0 < c → get_or s q 0 < 128 → behind c q ≡ behind (c - 1) (q + 1)
  one-passed c q l m b = next-eq (literals-on u64_e s total c q (q + 1) (get_or s q 0) m (sym (one-u64 s q l b)))

  -- the first n of them have one byte each: what comes behind the others, n bytes on
  pub short-passed : (n c q : ℕ) → q + n ≤ length s → n ≤ c → ((i : ℕ) → i < n → get_or s (q + i) 0 < 128) → behind c q ≡ behind (c - n) (q + n)
  short-passed zero c q l m b = behind-eq (omega arith) (omega arith)
  short-passed (suc n) c q l m b =
      short-passed n c q (omega arith) (omega arith) (λ i h. b i (omega arith))
      ∙ one-passed (c - n) (q + n) (omega arith) (omega arith) (b n (omega arith))
      ∙ behind-eq (omega arith) (omega arith)
