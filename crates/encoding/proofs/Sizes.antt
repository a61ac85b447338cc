-- How many bytes a list takes, over any element of at most 10: at most 11 a reading. Assumes nothing.
use Prim.Native.Nat.{ℕ, suc, ◌*◌, ◌≤◌}
use mathlib.Core.Path.{◌≡◌, ap}
use mathlib.Core.List.{List, [], ◌∷◌, map}
use mathlib.Core.Option.{Option, none, some}
use mathlib.Core.Bool.{Bool, true, false, cond}
use native.Mathlib.Omega.{arith}
use lib.ListN.{length, replicate, length-append, length-replicate, length-map}
use lib.IntN.{pos, negsuc}
use Rattle.leb128.specs.Write.{u64_bytes, i64_bytes}
use native.Mathlib.Decide.{dec_lt}
use Rattle.leb128.proofs.Laws.{u64-short, i64-short, i64-one}
use Rattle.encoding.specs.Element.{Element}
use Rattle.encoding.specs.Stretches.{Stretch, stretches}
use Rattle.encoding.specs.Longest.{readings_in, readings_of, Longest}
use Rattle.encoding.specs.Writer.{all_bytes, stretch_bytes, stretches_bytes, any_present, column_bytes}
use Rattle.encoding.proofs.Elements.{ElementLaws}
use Rattle.encoding.proofs.Cut.{cut-whole, cut-longest}

-- the count of a literal run takes at most as many bytes as it has values
count-short : (m : ℕ) → length (i64_bytes (negsuc m)) ≤ suc m
count-short m = elim (dec_lt m 64) [ yes h ↦ omega (arith, i64-one m h) | no h ↦ omega (arith, i64-short (negsuc m)) ]

module _ {A : Type 0} (E : Element A) (L : ElementLaws E) (short : (a : A) → length (E.write a) ≤ 10) where
  all_short : (l : List A) → length (all_bytes E l) ≤ 10 * length l
  unfolding all_bytes
  all_short [] = omega arith
  all_short (a ∷ l) = omega (arith, length-append (E.write a) (all_bytes E l), short a, all_short l)

  sum-short : (ss : List (Stretch A)) → Longest ss → length (stretches_bytes E ss) ≤ 11 * length (readings_of ss)
  unfolding stretches_bytes stretch_bytes readings_of readings_in
  sum-short [] h = omega arith
  sum-short (Stretch.absent n ∷ r) h =
      omega (
        arith,
        i64-one 0 (omega arith),
        u64-short n,
        length-replicate {A = Option A} n none,
        length-append (i64_bytes (pos 0)) (u64_bytes n),
        length-append (stretch_bytes E (Stretch.absent n)) (stretches_bytes E r),
        length-append (replicate n none) (readings_of r),
        sum-short r h.2,
      )
  sum-short (Stretch.repeat n a ∷ r) h =
      omega (
        arith,
        i64-short (pos n),
        short a,
        length-replicate n (some a),
        length-append (i64_bytes (pos n)) (E.write a),
        length-append (stretch_bytes E (Stretch.repeat n a)) (stretches_bytes E r),
        length-append (replicate n (some a)) (readings_of r),
        sum-short r h.2,
      )
  sum-short (Stretch.literal a more ∷ r) h =
      let m : length (map some more) ≡ length more = length-map more some in
      omega (
        arith,
        count-short (length more),
        all_short (a ∷ more),
        length-append (i64_bytes (negsuc (length more))) (all_bytes E (a ∷ more)),
        length-append (stretch_bytes E (Stretch.literal a more)) (stretches_bytes E r),
        length-append (map some (a ∷ more)) (readings_of r),
        sum-short r h.2,
      )

  -- "n optional readings never need more than 11n bytes"
  pub eleven : (xs : List (Option A)) → length (stretches_bytes E (stretches E.same xs)) ≤ 11 * length xs
  eleven xs =
      omega (
        arith,
        sum-short (stretches E.same xs) (cut-longest E.same L.same-eq L.same_self xs),
        ap length (cut-whole E.same L.same-eq L.same_self xs),
      )

  pub column-eleven : (xs : List (Option A)) → length (column_bytes E xs) ≤ 11 * length xs
  unfolding column_bytes
  column-eleven xs = go (any_present xs)
    where
      go : (t : Bool) → length (cond t (stretches_bytes E (stretches E.same xs)) []) ≤ 11 * length xs
      go true = eleven xs
      go false = omega arith
