-- A list of values that can be written, and the list of their bytes, are written alike: no two such values have the same bytes, so the two lists are cut
-- alike. And so a column's readings, written again. Assumes nothing.
use Prim.Native.Nat.{ℕ, zero, suc, ◌<◌}
use mathlib.Core.Path.{◌≡◌, refl, sym, ◌∙◌, ap}
use mathlib.Core.List.{List, [], ◌∷◌, ◌++◌, map}
use mathlib.Core.Option
use mathlib.Core.Option.{Option, none, some}
use mathlib.Core.Bool.{Bool, true, false, cond}
use lib.IntN.{negsuc}
use lib.ListN.{length, get_or, take, length-map}
use Rattle.leb128.specs.Write.{i64_bytes}
use Rattle.encoding.specs.Element.{Element}
use Rattle.encoding.specs.Column.{Reading, absent, present, value, trace}
use Rattle.encoding.specs.Stretches.{Stretch, literal_of, join_none, join_some, stretches}
use Rattle.encoding.specs.Writer.{all_bytes, stretch_bytes, stretches_bytes, any_present, column_bytes}
use Rattle.encoding.proofs.Elements.{ElementLaws}
use Rattle.encoding.proofs.Back.{ListFits}
use Rattle.encoding.proofs.Readable.{readable}
use Rattle.text.specs.Text.{same_bytes}
use Rattle.text.proofs.Bytes.{same-written}
use Rattle.rewriting.specs.Rewritten.{rewritten}
use Rattle.rewriting.specs.Values.{plain_e, bytes_in}

-- ---- a stretch of other values

abbrev over : {A B : Type 0} → (A → B) → Stretch A → Stretch B
over f (Stretch.absent n) = Stretch.absent n
over f (Stretch.repeat n a) = Stretch.repeat n (f a)
over f (Stretch.literal a l) = Stretch.literal (f a) (map f l)

module _ {A B : Type 0} (f : A → B) where
  literal-over : (l : List A) (r : List (Stretch A)) → map (over f) (literal_of l r) ≡ literal_of (map f l) (map (over f) r)
  unfolding literal_of
  literal-over [] r = refl
  literal-over (b ∷ l) r = refl

  none_over : (r : List (Stretch A)) → map (over f) (join_none r) ≡ join_none (map (over f) r)
  unfolding join_none
  none_over [] = refl
  none_over (Stretch.absent n ∷ r) = refl
  none_over (Stretch.repeat n b ∷ r) = refl
  none_over (Stretch.literal b l ∷ r) = refl

  any-over : (xs : List (Option A)) → any_present xs ≡ any_present (map (Option.map f) xs)
  unfolding any_present
  any-over [] = refl
  any-over (none ∷ xs) = any-over xs
  any-over (some a ∷ xs) = refl

  take-over : (n : ℕ) (xs : List A) → map f (take n xs) ≡ take n (map f xs)
  take-over zero xs = refl
  take-over (suc n) [] = refl
  take-over (suc n) (x ∷ xs) = ap (λ (l : List B). f x ∷ l) (take-over n xs)

-- ---- values that can be written

module _ {A : Type 0} (E : Element A) where
  abbrev w : A → List ℕ
  w a = E.write a

  -- the value that stretches begin with is one
  abbrev FirstFits : List (Stretch A) → Type 0
  FirstFits [] = Unit {0}
  FirstFits (Stretch.absent n ∷ r) = Unit {0}
  FirstFits (Stretch.repeat n b ∷ r) = E.fits b ≡ true
  FirstFits (Stretch.literal b l ∷ r) = E.fits b ≡ true

  first-none : (r : List (Stretch A)) → FirstFits (join_none r)
  unfolding join_none
  first-none [] = tt
  first-none (Stretch.absent n ∷ r) = tt
  first-none (Stretch.repeat n b ∷ r) = tt
  first-none (Stretch.literal b l ∷ r) = tt

  first_some : (a : A) (r : List (Stretch A)) → E.fits a ≡ true → FirstFits r → FirstFits (join_some E.same a r)
  unfolding join_some
  first_some a [] f h = f
  first_some a (Stretch.absent n ∷ r) f h = f
  first_some a (Stretch.repeat n b ∷ r) f h = go (E.same a b)
    where
      go : (t : Bool) → FirstFits (cond t (Stretch.repeat (suc n) b ∷ r) (Stretch.literal a [] ∷ Stretch.repeat n b ∷ r))
      go true = h
      go false = f
  first_some a (Stretch.literal b l ∷ r) f h = go (E.same a b)
    where
      go : (t : Bool) → FirstFits (cond t (Stretch.repeat 2 b ∷ literal_of l r) (Stretch.literal a (b ∷ l) ∷ r))
      go true = h
      go false = f

  first_fits : (xs : List (Option A)) → ListFits E xs → FirstFits (stretches E.same xs)
  unfolding stretches
  first_fits [] h = tt
  first_fits (none ∷ xs) h = first-none (stretches E.same xs)
  first_fits (some a ∷ xs) h = first_some a (stretches E.same xs) h.0 (first_fits xs h.1)

  pub fits-take : (n : ℕ) (xs : List (Option A)) → ListFits E xs → ListFits E (take n xs)
  fits-take zero xs h = tt
  fits-take (suc n) [] h = tt
  fits-take (suc n) (none ∷ xs) h = fits-take n xs h
  fits-take (suc n) (some a ∷ xs) h = (h.0, fits-take n xs h.1)

  -- ---- the bytes of a stretch are those of its values' bytes

  all-over : (l : List A) → all_bytes E l ≡ all_bytes plain_e (map w l)
  unfolding all_bytes
  all-over [] = refl
  all-over (a ∷ l) = ap (λ (v : List ℕ). E.write a ++ v) (all-over l)

  stretch-over : (x : Stretch A) → stretch_bytes E x ≡ stretch_bytes plain_e (over w x)
  unfolding stretch_bytes
  stretch-over (Stretch.absent n) = refl
  stretch-over (Stretch.repeat n a) = refl
  stretch-over (Stretch.literal a l) =
      ap (λ (k : ℕ). i64_bytes (negsuc k) ++ all_bytes E (a ∷ l)) (sym (length-map l w))
      ∙ ap (λ (v : List ℕ). i64_bytes (negsuc (length (map w l))) ++ v) (all-over (a ∷ l))

  stretches-over : (r : List (Stretch A)) → stretches_bytes E r ≡ stretches_bytes plain_e (map (over w) r)
  unfolding stretches_bytes
  stretches-over [] = refl
  stretches-over (x ∷ r) =
      ap (λ (v : List ℕ). v ++ stretches_bytes E r) (stretch-over x)
      ∙ ap (λ (v : List ℕ). stretch_bytes plain_e (over w x) ++ v) (stretches-over r)

  -- a reading's bytes
  bytes-value : (rs : List (Reading A)) → map (Option.map w) (map value rs) ≡ map (bytes_in E) rs
  unfolding value
  bytes-value [] = refl
  bytes-value (absent ∷ rs) = ap (λ (l : List (Option (List ℕ))). none ∷ l) (bytes-value rs)
  bytes-value (present a place ∷ rs) = ap (λ (l : List (Option (List ℕ))). some (E.write a) ∷ l) (bytes-value rs)

  module _ (L : ElementLaws E) where
    some-over : (a : A) (r : List (Stretch A)) → E.fits a ≡ true → FirstFits r
        → map (over w) (join_some E.same a r) ≡ join_some same_bytes (E.write a) (map (over w) r)
    unfolding join_some
    some-over a [] f h = refl
    some-over a (Stretch.absent n ∷ r) f h = refl
    some-over a (Stretch.repeat n b ∷ r) f h =
        go (E.same a b)
        ∙ ap (λ (t : Bool).
        cond t (Stretch.repeat (suc n) (w b) ∷ map (over w) r) (Stretch.literal (w a) [] ∷ Stretch.repeat n (w b) ∷ map (over w) r)) (same-written E L a b f h)
      where
        go : (t : Bool) → map (over w) (cond t (Stretch.repeat (suc n) b ∷ r) (Stretch.literal a [] ∷ Stretch.repeat n b ∷ r))
            ≡ cond t (Stretch.repeat (suc n) (w b) ∷ map (over w) r) (Stretch.literal (w a) [] ∷ Stretch.repeat n (w b) ∷ map (over w) r)
        go true = refl
        go false = refl
    some-over a (Stretch.literal b l ∷ r) f h =
        go (E.same a b)
        ∙ ap (λ (t : Bool).
        cond t (Stretch.repeat 2 (w b) ∷ literal_of (map w l) (map (over w) r)) (Stretch.literal (w a) (w b ∷ map w l) ∷ map (over w) r)) (same-written E L a b f h)
      where
        go : (t : Bool) → map (over w) (cond t (Stretch.repeat 2 b ∷ literal_of l r) (Stretch.literal a (b ∷ l) ∷ r))
            ≡ cond t (Stretch.repeat 2 (w b) ∷ literal_of (map w l) (map (over w) r)) (Stretch.literal (w a) (w b ∷ map w l) ∷ map (over w) r)
        go true = ap (λ (m : List (Stretch (List ℕ))). Stretch.repeat 2 (w b) ∷ m) (literal-over w l r)
        go false = refl

    -- the two lists are cut alike
    cut-over : (xs : List (Option A)) → ListFits E xs → map (over w) (stretches E.same xs) ≡ stretches same_bytes (map (Option.map w) xs)
    unfolding stretches
    cut-over [] h = refl
    cut-over (none ∷ xs) h = none_over w (stretches E.same xs) ∙ ap join_none (cut-over xs h)
    cut-over (some a ∷ xs) h =
        some-over a (stretches E.same xs) h.0 (first_fits xs h.1) ∙ ap (join_some same_bytes (E.write a)) (cut-over xs h.1)

    -- THE PLAIN LIST is written as the list is
    pub plain : (xs : List (Option A)) → ListFits E xs → column_bytes E xs ≡ column_bytes plain_e (map (Option.map w) xs)
    unfolding column_bytes
    plain xs h =
        ap (λ (t : Bool). cond t (stretches_bytes E (stretches E.same xs)) []) (any-over w xs)
        ∙ ap (λ (v : List ℕ). cond (any_present (map (Option.map w) xs)) v [])
        (stretches-over (stretches E.same xs) ∙ ap (stretches_bytes plain_e) (cut-over xs h))

    pub rewritten-plain : (s : List ℕ) → ((i : ℕ) → get_or s i 0 < 256) → (most : ℕ)
        → rewritten E s most ≡ column_bytes plain_e (take most (map (bytes_in E) (trace E s).readings))
    unfolding rewritten
    rewritten-plain s B most =
        let rs = (trace E s).readings in
        plain (take most (map value rs)) (fits-take most (map value rs) (readable E L s B))
        ∙ ap (column_bytes plain_e) (take-over (Option.map w) most (map value rs) ∙ ap (take most) (bytes-value rs))
