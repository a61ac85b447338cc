-- A boolean column beside what our writer gives for its readings, count by count: what is compared here is what was to be compared at the start. And the ways
-- out. Assumes nothing.
use Prim.Native.Nat.{ℕ, ◌+◌, ◌-◌, ◌≤◌, ◌<◌}
use mathlib.Core.Path.{◌≡◌, refl, sym, ◌∙◌, ap}
use mathlib.Core.List.{List, [], ◌++◌}
use native.Mathlib.Omega.{arith}
use lib.ListN.{length, drop, replicate, length-replicate, drop_of_length-le}
use lib.Seq.{drop_at, drop-cons, drop-drop}
use Rattle.leb128.specs.Got.{got}
use Rattle.leb128.specs.Write.{u64_bytes}
use Rattle.leb128.proofs.Laws.{u64-short}
use Rattle.encoding.specs.Limit.{limit}
use Rattle.encoding.proofs.Back.{u64-stands}
use Rattle.encoding.proofs.Elements.{Stands, stands-within}
use Rattle.boolean_decoder.specs.Turns.{turn, turns_from, bool_trace}
use Rattle.boolean_decoder.proofs.Limits.{bool-limit}
use Rattle.boolean_decoder.proofs.Turning.{counted-whole, turn-read, readings-on}
use Rattle.boolean_encoder.specs.Ahead.{alike}
use Rattle.boolean_encoder.specs.Writer.{bool_bytes}
use Rattle.boolean_encoder.proofs.Counting.{bytes_from, Stood, stood-start, bytes-start, CutAt, cut_at, bytes-end}
use Rattle.boolean_encoder.proofs.Writing.{read_flags}
use Rattle.own_form.specs.Difference.{differ_at}
use Rattle.own_form.specs.Form.{ours, other, compared}
use Rattle.own_form.proofs.Differing.{differ-after, differ-front}
use Rattle.own_form.proofs.Standing.{stands-there, behind}
use Rattle.count_place.specs.Place.{standing, differs}
use Rattle.count_place.specs.Place as place
use Rattle.count_place.proofs.Placing.{standing_on, off-place}

-- what a column reads as
abbrev pub list : List ℕ → List ℕ
list s = (bool_trace s).readings

-- before a count both the column and the writer have come so far
pub record Agreed (s : List ℕ) (at had flag : ℕ) : Type 0 where
  pub owed : differ_at 0 s (bool_bytes (list s)) ≡ differ_at at (drop at s) (bytes_from (list s) had flag)
  pub rest : drop had (list s) ≡ (turns_from s (turn at had flag)).readings
  pub stood : Stood (list s) had flag
  pub within : at ≤ length s

module _ (s : List ℕ) where
  pub agreed-start : Agreed s 0 0 0
  unfolding bool_trace
  agreed-start =
      record { owed = ap (differ_at 0 s) (sym (bytes-start (list s))); rest = refl; stood = stood-start (list s); within = omega arith }

  module _ {at had flag : ℕ} (A : Agreed s at had flag) where
    -- what the loop asks of looking ahead
    pub agreed-asks : (had ≤ limit) × (flag ≤ 1)
    agreed-asks = (omega (arith, A.stood.within, bool-limit s), A.stood.bit)

    -- behind the last reading the writer has nothing more
    module _ (l : length (list s) ≤ had) where
      left : differ_at 0 s (bool_bytes (list s)) ≡ differ_at at (drop at s) []
      left = A.owed ∙ ap (differ_at at (drop at s)) (bytes-end (list s) had flag l)

      pub agreed-longer : at < length s → other at ≡ compared (differ_at 0 s (bool_bytes (list s)))
      unfolding differ_at
      agreed-longer m = sym (ap compared (left ∙ ap (λ (r : List ℕ). differ_at at r []) (drop-cons s at 0 m)))

      pub agreed-ours : length s ≤ at → ours ≡ compared (differ_at 0 s (bool_bytes (list s)))
      unfolding differ_at
      agreed-ours m = sym (ap compared (left ∙ ap (λ (r : List ℕ). differ_at at r []) (drop_of_length-le s m)))

    -- before it, the next count is of the readings up to k
    module _ (k : ℕ) (l : had < length (list s)) (e : k ≡ had + alike flag (turns_from s (turn at had flag)).readings) where
      cut : CutAt (list s) had flag k
      cut = cut_at (list s) had flag k (read_flags s) A.stood l (e ∙ ap (λ (xs : List ℕ). had + alike flag xs) (sym A.rest))

      pub agreed-differs : (p : ℕ) → standing at (drop at s) (u64_bytes (k - had)) ≡ differs p → other p ≡ compared (differ_at 0 s (bool_bytes (list s)))
      agreed-differs p d =
          let w = u64_bytes (k - had) in
          let q = off-place at p (drop at s) w d in
          ap compared (sym (A.owed ∙ ap (differ_at at (drop at s)) cut.bytes ∙ differ-front at (drop at s) w (bytes_from (list s) k (1 - flag)) q.0 ∙ q.1))

      -- it stands there: the column has that count too, and both go on behind it
      module _ (next : ℕ) (d : standing at (drop at s) (u64_bytes (k - had)) ≡ place.behind next) where
        there : Stands s at (u64_bytes (k - had))
        there = stands-there s at (u64_bytes (k - had)) (standing_on at next (drop at s) (u64_bytes (k - had)) [] d).0 A.within

        next-is : next ≡ at + length (u64_bytes (k - had))
        next-is = (standing_on at next (drop at s) (u64_bytes (k - had)) [] d).1

        pub agreed-less : (at < next) × (next ≤ length s)
        agreed-less = let h = stands-within s at (u64_bytes (k - had)) there in omega (arith, next-is, u64-short (k - had))

        agreed-rest : drop k (list s) ≡ (turns_from s (turn next k (1 - flag))).readings
        agreed-rest =
            let n : ℕ = k - had in
            let z : had + n ≡ k = omega arith in
            let m : had + n ≤ limit = omega (arith, cut.stood.within, bool-limit s) in
            let g = u64-stands s at n (omega arith) there ∙ ap (got n) (sym next-is) in
            let t = turn-read s (turn at had flag) (got n next) (omega (arith, agreed-less)) g ∙ counted-whole (turn at had flag) n next m in
            let r = readings-on s (turn at had flag) t in
            ap (λ (j : ℕ). drop j (list s)) (sym z)
            ∙ sym (drop-drop n had (list s)) ∙ ap (drop n) (A.rest ∙ r)
            ∙ drop_at (replicate n flag) (turns_from s (turn next (had + n) (1 - flag))).readings n (length-replicate n flag)
            ∙ ap (λ (j : ℕ). (turns_from s (turn next j (1 - flag))).readings) z

        pub agreed-on : Agreed s next k (1 - flag)
        agreed-on =
            let w = u64_bytes (k - had) in
            let more = bytes_from (list s) k (1 - flag) in
            record {
              owed = A.owed ∙ ap (differ_at at (drop at s)) cut.bytes ∙ ap (λ (r : List ℕ). differ_at at r (w ++ more)) (behind s at w there)
                  ∙ differ-after at w (drop (at + length w) s) more
                  ∙ ap (λ (j : ℕ). differ_at j (drop j s) more) (sym next-is);
              rest = agreed-rest;
              stood = cut.stood;
              within = agreed-less.1;
            }
