-- The bytes of a list as the loops over a walk go through them: reading by reading, stretch by stretch, and a stretch's run in its two parts. Over any element;
-- assumes nothing.
use Prim.Native.Nat.{ℕ, zero, suc, ◌+◌, ◌-◌, ◌^◌, ◌≤◌, ◌<◌}
use mathlib.Core.Path.{◌≡◌, refl, sym, ◌∙◌, ap, subst}
use mathlib.Core.List.{List, [], ◌∷◌, ◌++◌}
use mathlib.Core.Option.{Option, none, some}
use mathlib.Core.Bool.{true, false}
use native.Mathlib.Omega.{arith}
use native.Mathlib.Numerals.{add-one}
use lib.IntN.{ℤ, pos, negsuc}
use lib.ListN.{length, get_or, set, take, drop, length-append, length-drop, drop_of_length-le}
use lib.Seq.{sets, drop-cons, get_or-take, get_or-drop, length-take-le}
use lib.Signed.{mag}
use mir.Syntax.{w64}
use mir.Val.{to_z, of_z}
use mir.ValLaws.{to_z-of_z}
use Rattle.leb128.specs.Write.{u64_bytes, i64_bytes}
use Rattle.encoding.specs.Ahead.{end_of, PutAt}
use Rattle.encoding.specs.Element.{Element}
use Rattle.encoding.specs.Flags.{minus}
use Rattle.encoding.specs.Stretches.{stretches}
use Rattle.encoding.specs.Writer.{all_bytes, stretch_bytes, stretches_bytes, any_present, column_bytes}
use Rattle.encoding.specs.declared.StretchEnd.{StretchEnd}
use Rattle.encoding.specs.declared.StretchEnd.TheVariants as stretch
use Rattle.encoding.proofs.StretchParts.{Parts}
use Rattle.encoding.specs.Cuts.{somes, written_in, literal_in, stretch_in, PresentIn, CutOf}

-- ---- the n bytes of s from i on

pub bytes-length : (s : List ℕ) (i n : ℕ) → i + n ≤ length s → length (take n (drop i s)) ≡ n
bytes-length s i n h = length-take-le n (drop i s) (omega (arith, length-drop i s))

-- put one by one: what is owed at the position behind k of them
pub store-start : (out : List ℕ) (at : ℕ) (w : List ℕ) → sets out at w ≡ sets out (at + 0) (drop 0 w)
store-start out at w = let z : at ≡ at + 0 = omega arith in ap (λ (k : ℕ). sets out k w) z

pub store-next : (out : List ℕ) (at k : ℕ) (s : List ℕ) (i n : ℕ) → i + n ≤ length s → k < n
    → sets out (at + k) (drop k (take n (drop i s))) ≡ sets (set out (at + k) (get_or s (i + k) 0)) (at + (k + 1)) (drop (k + 1) (take n (drop i s)))
store-next out at k s i n h l =
    let w = take n (drop i s) in
    let e : drop k w ≡ get_or w k 0 ∷ drop (suc k) w = drop-cons w k 0 (omega (arith, bytes-length s i n h)) in
    let g : get_or w k 0 ≡ get_or s (i + k) 0 = get_or-take n (drop i s) k 0 l ∙ get_or-drop i s k 0 in
    let z : suc (at + k) ≡ at + (k + 1) = omega arith in
    ap (λ (x : List ℕ). sets out (at + k) x) (e ∙ ap (λ (b : ℕ). b ∷ drop (suc k) w) g)
    ∙ ap (λ (j : ℕ). sets (set out (at + k) (get_or s (i + k) 0)) j (drop (suc k) w)) z
    ∙ ap (λ (j : ℕ). sets (set out (at + k) (get_or s (i + k) 0)) (at + (k + 1)) (drop j w)) (sym (add-one k))

pub store-end : (out : List ℕ) (at k : ℕ) (s : List ℕ) (i n : ℕ) → i + n ≤ length s → n ≤ k → sets out (at + k) (drop k (take n (drop i s))) ≡ out
store-end out at k s i n h l =
    ap (λ (x : List ℕ). sets out (at + k) x) (drop_of_length-le (take n (drop i s)) {i = k} (omega (arith, bytes-length s i n h)))

pub put-nothing : (out : List ℕ) (at : ℕ) → PutAt out out at at []
put-nothing out at = record { after = omega arith; bytes = refl }

module _ {A : Type 0} (E : Element A) where
  -- ---- readings one by one

  one-bytes : (x : Option A) (xs : List (Option A)) → all_bytes E (somes (x ∷ xs)) ≡ written_in E x ++ all_bytes E (somes xs)
  unfolding all_bytes
  one-bytes none xs = refl
  one-bytes (some v) xs = refl

  module _ {k : ℕ} {xs ys : List (Option A)} {x : Option A} where
    pub values-bytes : 0 < k → xs ≡ x ∷ ys → all_bytes E (somes (take k xs)) ≡ written_in E x ++ all_bytes E (somes (take (k - 1) ys))
    values-bytes l e = ap (λ (zs : List (Option A)). all_bytes E (somes (take k zs))) e ∙ go k l
      where
        go : (m : ℕ) → 0 < m → all_bytes E (somes (take m (x ∷ ys))) ≡ written_in E x ++ all_bytes E (somes (take (m - 1) ys))
        go zero l = absurd (omega arith)
        go (suc m) l =
            let z : m ≡ suc m - 1 = omega arith in
            one-bytes x (take m ys) ∙ ap (λ (j : ℕ). written_in E x ++ all_bytes E (somes (take j ys))) z

    pub values_length : 0 < k → xs ≡ x ∷ ys
        → length (all_bytes E (somes (take k xs))) ≡ length (written_in E x) + length (all_bytes E (somes (take (k - 1) ys)))
    values_length l e = ap length (values-bytes l e) ∙ length-append (written_in E x) (all_bytes E (somes (take (k - 1) ys)))

    -- the first takes n
    pub values-sized : (n : ℕ) → 0 < k → xs ≡ x ∷ ys → n ≡ length (written_in E x)
        → length (all_bytes E (somes (take k xs))) ≡ n + length (all_bytes E (somes (take (k - 1) ys)))
    values-sized n l e f = values_length l e ∙ ap (λ (m : ℕ). m + length (all_bytes E (somes (take (k - 1) ys)))) (sym f)

  pub values-over : {k : ℕ} (xs : List (Option A)) → k ≤ 0 → all_bytes E (somes (take k xs)) ≡ []
  unfolding all_bytes
  values-over {k} xs h = let z : k ≡ 0 = omega arith in ap (λ (j : ℕ). all_bytes E (somes (take j xs))) z

  -- ---- a stretch's run in its two parts: its count, as its bits read back, and what the count announces

  module _ {k : ℕ} {x : StretchEnd} (xs : List (Option A)) where
    pub absent-in : x ≡ stretch.Absent k → Parts (i64_bytes (pos 0)) (u64_bytes k) (stretch_bytes E (stretch_in xs x))
    unfolding stretch_bytes
    absent-in f = record { whole = sym (ap (λ (y : StretchEnd). stretch_bytes E (stretch_in xs y)) f) }

    pub repeat-in : {h : Option A} {ys : List (Option A)} {r : ℤ} → x ≡ stretch.Repeat k → xs ≡ h ∷ ys → PresentIn xs x
        → r ≡ pos k → mag r < 2 ^ 63 → Parts (i64_bytes (to_z w64 (of_z w64 r))) (written_in E h) (stretch_bytes E (stretch_in xs x))
    unfolding stretch_bytes
    repeat-in {h = h} {ys = ys} {r = r} f e p q s =
        let z = to_z-of_z w64 r (record { sfits = s }) in
        let u : PresentIn (h ∷ ys) (stretch.Repeat k) =
        subst (λ (zs : List (Option A)). PresentIn zs (stretch.Repeat k)) e (subst (PresentIn xs) f p) in
        record {
          whole =
              ap (λ (y : ℤ). i64_bytes y ++ written_in E h) (z ∙ q)
              ∙ go h u
              ∙ ap (λ (zs : List (Option A)). stretch_bytes E (stretch_in zs (stretch.Repeat k))) (sym e)
              ∙ ap (λ (y : StretchEnd). stretch_bytes E (stretch_in xs y)) (sym f);
        }
      where
        go : (g : Option A) → PresentIn (g ∷ ys) (stretch.Repeat k)
            → i64_bytes (pos k) ++ written_in E g ≡ stretch_bytes E (stretch_in (g ∷ ys) (stretch.Repeat k))
        go none u = absurd (omega (arith, u))
        go (some v) u = refl

    pub literal-in : {r : ℤ} → x ≡ stretch.Literal k → PresentIn xs x → 0 < end_of x → r ≡ minus k → mag r < 2 ^ 63
        → Parts (i64_bytes (to_z w64 (of_z w64 r))) (all_bytes E (somes (take k xs))) (stretch_bytes E (stretch_in xs x))
    unfolding stretch_bytes minus
    literal-in {r = r} f p l q s =
        let z = to_z-of_z w64 r (record { sfits = s }) in
        let j = ap end_of f in
        record {
          whole =
              ap (λ (y : ℤ). i64_bytes y ++ all_bytes E (somes (take k xs))) (z ∙ q)
              ∙ go (somes (take k xs)) k (subst (PresentIn xs) f p) (omega arith)
              ∙ ap (λ (y : StretchEnd). stretch_bytes E (stretch_in xs y)) (sym f);
        }
      where
        go : (w : List A) (n : ℕ) → length w ≡ n → 0 < n → i64_bytes (minus n) ++ all_bytes E w ≡ stretch_bytes E (literal_in w)
        go [] n e l = absurd (omega arith)
        go (a ∷ w) zero e l = absurd (omega arith)
        go (a ∷ w) (suc n) e l = let z : n ≡ length w = omega arith in ap (λ (m : ℕ). i64_bytes (negsuc m) ++ all_bytes E (a ∷ w)) z

  -- ---- stretch by stretch

  abbrev pub owing : List (Option A) → List ℕ
  owing xs = stretches_bytes E (stretches E.same xs)

  module _ {xs ys : List (Option A)} {r : StretchEnd} (h : CutOf E.same xs r ys) where
    pub cut-bytes : owing xs ≡ stretch_bytes E (stretch_in xs r) ++ owing ys
    unfolding stretches_bytes
    cut-bytes = ap (stretches_bytes E) h.cuts

    pub cut-length : length (owing xs) ≡ length (stretch_bytes E (stretch_in xs r)) + length (owing ys)
    cut-length = ap length cut-bytes ∙ length-append (stretch_bytes E (stretch_in xs r)) (owing ys)

    pub cut-shorter : length ys < length xs
    cut-shorter = omega (arith, ap length h.behind, length-drop (end_of r) xs, h.later, h.within)

  pub cut-over : (xs : List (Option A)) → xs ≡ [] → owing xs ≡ []
  unfolding stretches_bytes stretches
  cut-over xs e = ap owing e

  -- ---- the column: nothing where no reading is present

  pub column-some : (xs : List (Option A)) → any_present xs ≡ true → column_bytes E xs ≡ owing xs
  unfolding column_bytes
  column-some xs e = rw e

  pub column-none : (xs : List (Option A)) → any_present xs ≡ false → column_bytes E xs ≡ []
  unfolding column_bytes
  column-none xs e = rw e
