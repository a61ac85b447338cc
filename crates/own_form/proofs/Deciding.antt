-- COUNTS DECIDE: where a sound column and what our writer gives for the rest of its list differ, they differ first within a count, or else agree over the whole of a stretch and go on
-- behind it. Over any element; assumes nothing.
use Prim.Native.Nat.{ℕ, ◌+◌, ◌≤◌, ◌<◌}
use mathlib.Core.Path.{◌≡◌, refl, sym, ◌∙◌, ap}
use mathlib.Core.List.{List, ◌∷◌, ◌++◌, append_assoc, append-nil, map}
use mathlib.Core.Option.{Option}
use lib.ListN.{length, get_or, take, drop}
use Rattle.leb128.specs.Write.{u64_bytes, i64_bytes}
use lib.IntN.{pos}
use Rattle.encoding.specs.Column.{value, spot, trace_from}
use Rattle.encoding.specs.Element.{Element}
use Rattle.encoding.specs.Limit.{limit}
use Rattle.encoding.specs.Longest.{readings_in}
use Rattle.encoding.specs.Stretches.{Stretch}
use Rattle.encoding.specs.Walk.{sound}
use Rattle.encoding.specs.Writer.{stretch_bytes, stretches_bytes}
use Rattle.encoding.proofs.Elements.{ElementLaws}
use Rattle.own_form.specs.Difference.{differ_at}
use Rattle.own_form.specs.Heads.{head_bytes, value_bytes}
use Rattle.own_form.proofs.Differing.{differ-after, differ-front}
use Rattle.own_form.proofs.Following.{Follows, follows}
use Rattle.own_form.proofs.Standing.{stands-there, behind}

-- a stretch is its count and its values
split-bytes : {A : Type 0} (E : Element A) (x : Stretch A) → stretch_bytes E x ≡ head_bytes x ++ value_bytes E x
unfolding stretch_bytes head_bytes value_bytes
split-bytes E (Stretch.absent n) = sym (append-nil (i64_bytes (pos 0) ++ u64_bytes n))
split-bytes E (Stretch.repeat n a) = refl
split-bytes E (Stretch.literal a more) = refl

module _ {A : Type 0} (E : Element A) (s : List ℕ) (p : ℕ) (x : Stretch A) (xs : List (Stretch A)) where
  -- the count does not stand there: they differ where the column and that count do
  pub count-differs : (take (length (head_bytes x)) (drop p s) ≡ head_bytes x → ⊥)
      → differ_at p (drop p s) (stretches_bytes E (x ∷ xs)) ≡ differ_at p (drop p s) (head_bytes x)
  unfolding stretches_bytes
  count-differs h =
      ap (differ_at p (drop p s)) (ap (λ (w : List ℕ). w ++ stretches_bytes E xs) (split-bytes E x) ∙ append_assoc (head_bytes x) (value_bytes E x) (stretches_bytes E xs))
      ∙ differ-front p (drop p s) (head_bytes x) (value_bytes E x ++ stretches_bytes E xs) h

  module _ (L : ElementLaws E) (B : (i : ℕ) → get_or s i 0 < 256) (had : ℕ) (ys : List (Option A)) where
    -- it does: the whole stretch stands there, and what is left is compared behind it
    pub count-agrees : take (length (head_bytes x)) (drop p s) ≡ head_bytes x → p ≤ length s → 0 < length (readings_in x) → had + length (readings_in x) ≤ limit
        → (trace_from E s (spot p had)).ending ≡ sound → map value (trace_from E s (spot p had)).readings ≡ readings_in x ++ ys
        → Follows E L s B p had (stretch_bytes E x) (length (readings_in x)) ys
        × (differ_at p (drop p s) (stretches_bytes E (x ∷ xs)) ≡ differ_at (p + length (stretch_bytes E x)) (drop (p + length (stretch_bytes E x)) s) (stretches_bytes E xs))
    unfolding stretches_bytes
    count-agrees h l n m o e =
        let f = follows E L s B p had x ys n m (stands-there s p (head_bytes x) h l) o e in
        let w = stretch_bytes E x in
        let k : drop p s ≡ w ++ drop (p + length w) s = behind s p w f.stands in
        (f, ap (λ (r : List ℕ). differ_at p r (w ++ stretches_bytes E xs)) k ∙ differ-after p w (drop (p + length w) s) (stretches_bytes E xs))
