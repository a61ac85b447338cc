-- What is known of a stretch of readings. Readings are two lists: their values, and bytes that are 0 where a reading is absent.
use Rattle.std.specs.Prelude.{ℕ, suc, ◌+◌, ◌-◌, ◌*◌, ◌^◌, min, max, cond, eqb, leb, length}
use mathlib.Core.List.{List, [], ◌∷◌, foldl}
use Rattle.std.proofs.Math.Seq.{slice}
use Rattle.picture.specs.declared.Stretch.{Stretch}

-- the values of the readings that are present
unfoldable pub present_of : List ℕ → List ℕ → List ℕ
present_of [] ps = []
present_of (v ∷ vs) [] = []
present_of (v ∷ vs) (p ∷ ps) = let rest = present_of vs ps in cond (eqb p 0) rest (v ∷ rest)

-- how many readings are absent
unfoldable pub absent_in : List ℕ → ℕ
absent_in [] = 0
absent_in (p ∷ ps) = let rest = absent_in ps in cond (eqb p 0) (suc rest) rest

-- the least of some values; 0 where there is none
unfoldable pub least_of : List ℕ → ℕ
least_of [] = 0
least_of (v ∷ vs) = foldl min v vs

-- the greatest of some values; 0 where there is none
unfoldable pub greatest_of : List ℕ → ℕ
greatest_of vs = foldl max 0 vs

-- the range of the present values, how many they are, and how many readings are absent
abbrev pub shown : List ℕ → ℕ → Stretch
shown xs gone = record { low = least_of xs; high = greatest_of xs; here = length xs; gone = gone }

-- the same of readings
abbrev pub known : List ℕ → List ℕ → Stretch
known vs ps = shown (present_of vs ps) (absent_in ps)

-- a count with one more; no count passes 64 bits
abbrev pub one_more : ℕ → ℕ
one_more n = min (n + 1) (2 ^ 64 - 1)

-- a stretch with one value more; the first is both the least and the greatest
unfoldable pub with_value : Stretch → ℕ → Stretch
with_value s v =
    cond (eqb s.here 0) (record { low = v; high = v; here = 1; gone = s.gone })
    (record { low = min s.low v; high = max s.high v; here = one_more s.here; gone = s.gone })

-- a stretch with one reading more, present where its byte is not 0
unfoldable pub with_reading : Stretch → ℕ → ℕ → Stretch
with_reading s v p =
    cond (eqb p 0) (record { low = s.low; high = s.high; here = s.here; gone = one_more s.gone }) (with_value s v)

-- readings fed one after the other to what is known
unfoldable pub fed : Stretch → List ℕ → List ℕ → Stretch
fed s [] ps = s
fed s (v ∷ vs) [] = s
fed s (v ∷ vs) (p ∷ ps) = fed (with_reading s v p) vs ps

-- the readings from a up to e; nothing is known where a list has not so many
unfoldable pub stretch_of : List ℕ → List ℕ → ℕ → ℕ → Stretch
stretch_of values present a e =
    cond (leb e (length values)) (cond (leb e (length present)) (known (slice a e values) (slice a e present)) (known [] [])) (known [] [])

-- the readings of place x: `per` of them from x * per on, or as many as are left
unfoldable pub stretch_at : List ℕ → List ℕ → ℕ → ℕ → Stretch
stretch_at values present per x = stretch_of values present (min (x * per) (length values)) (min (x * per + per) (length values))
