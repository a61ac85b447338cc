-- 02, [7]: the salvage "keeps the readings before the first faulty one". What bytes behind those that are there can change of that: the statements,
-- over any kind of column, which reads as a trace, and any kind of reading, which stands for a value.
use Rattle.std.specs.Prelude.{ℕ, ◌<◌, ◌≡◌, List, ◌++◌, map, get_or}
use Rattle.encoding.specs.Walk.{sound, fault, Trace}

-- ys begins with xs
pub record Prefix {R : Type 0} (xs ys : List R) : Type 0 where
  pub rest : List R
  pub split : ys ≡ xs ++ rest

-- a refusal that says more than that the bytes ended: neither 1, within a number or a name, nor 21, where a number is due
abbrev pub Final : ℕ → Type 0
Final number = (number ≡ 1 → ⊥) × (number ≡ 21 → ⊥)

-- what was kept lasts, whatever bytes come behind: it is what all the readings begin with, and where the fault is final, all there is
pub record Lasting {R : Type 0} (read : List ℕ → Trace R) : Type 0 where
  pub prefix : (s u : List ℕ) → Prefix (read s).readings (read (s ++ u)).readings
  pub final : (s u : List ℕ) (number place : ℕ) → (read s).ending ≡ fault number place → Final number → read (s ++ u) ≡ read s

abbrev pub Bytes : List ℕ → Type 0
Bytes s = (i : ℕ) → get_or s i 0 < 256

-- the list of every sound column that begins with s begins with xs
abbrev pub Certain : {R B : Type 0} → (List ℕ → Trace R) → (R → B) → List ℕ → List B → Type 0
Certain read value s xs = (u : List ℕ) → Bytes u → (read (s ++ u)).ending ≡ sound → Prefix xs (map value (read (s ++ u)).readings)

-- where the bytes end at a number that is due, 21, all is open behind what was kept: a sound column goes on so, and nothing longer is certain
pub record Open {R B : Type 0} (read : List ℕ → Trace R) (value : R → B) : Type 0 where
  pub mended : (s : List ℕ) (place : ℕ) → (read s).ending ≡ fault 21 place → (u : List ℕ) × Bytes u × ((read (s ++ u)).ending ≡ sound)
  pub longest : (s : List ℕ) (place : ℕ) → (read s).ending ≡ fault 21 place → (xs : List B) → Certain read value s xs
      → Prefix xs (map value (read s).readings)
