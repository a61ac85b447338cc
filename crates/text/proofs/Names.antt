-- The start and length of each name that a column reads as are those of its bytes in the column. Assumes nothing.
use Prim.Native.Nat.{ℕ, ◌+◌, ◌-◌, ◌≤◌, ◌<◌}
use mathlib.Core.Path.{◌≡◌, sym, ◌∙◌, ap}
use mathlib.Core.List.{List}
use native.Mathlib.Omega.{arith}
use lib.ListN.{length, get_or, drop, length-drop}
use lib.Seq.{length-take-le}
use Rattle.leb128.specs.Got.{got}
use Rattle.leb128.specs.Write.{u64_bytes}
use Rattle.leb128.proofs.Laws.{u64-next, u64-only}
use Rattle.encoding.specs.Column.{present, trace}
use Rattle.text.specs.Text.{bytes_at, text_at, text_e}
use Rattle.text.specs.Name.{start_of, length_of}
use Rattle.text.proofs.TextLaws.{text-read}
use Rattle.text.proofs.Placed.{Each, trace-each}

-- the name v whose length number stands at p has its bytes in s where its start and length say
abbrev pub Named : List ℕ → List ℕ → ℕ → Type 0
Named s v p =
    (start_of (present v p) + length_of (present v p) ≤ length s) × (bytes_at s (start_of (present v p)) (length_of (present v p)) ≡ v)

module _ (s : List ℕ) (B : (i : ℕ) → get_or s i 0 < 256) where
  -- the start is the position behind the length number, and the length is that number
  pub read_length : (p z : ℕ) (v : List ℕ) (e : text_at s p ≡ got v z) → length_of (present v p) ≡ (text-read s p z v e).n
  unfolding length_of
  read_length p z v e =
      let r = text-read s p z v e in
      let rm : r.q + r.n ≤ length s = r.room in
      ap length (sym r.bytes) ∙ length-take-le r.n (drop r.q s) (omega (arith, length-drop r.q s))

  pub read-start : (p z : ℕ) (v : List ℕ) (e : text_at s p ≡ got v z) → start_of (present v p) ≡ (text-read s p z v e).q
  unfolding start_of length_of
  read-start p z v e =
      let r = text-read s p z v e in
      let n : ℕ = r.n in
      let q : ℕ = r.q in
      let d = u64-next s p n q r.number in
      let o = u64-only s B p n q r.number in
      let lb : q - p ≡ length (u64_bytes n) = sym (length-take-le (q - p) (drop p s) (omega (arith, length-drop p s))) ∙ ap length o.0 in
      let lu : length (u64_bytes (length v)) ≡ length (u64_bytes n) = ap (λ (k : ℕ). length (u64_bytes k)) (read_length p z v e) in
      omega arith

  named : (p z : ℕ) (v : List ℕ) → text_at s p ≡ got v z → Named s v p
  named p z v e =
      let r = text-read s p z v e in
      let a = read-start p z v e in
      let l = read_length p z v e in (
        omega (arith, r.room),
        ap (λ (k : ℕ). bytes_at s k (length_of (present v p))) a ∙ ap (λ (k : ℕ). bytes_at s r.q k) l ∙ r.bytes,
      )

  pub names-there : Each (Named s) (trace text_e s).readings
  names-there = trace-each (Named s) text_e s named
