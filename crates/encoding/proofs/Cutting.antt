-- Looking ahead over a list that is walked finds the stretches of the writer, over any element: laws for the start, a turn and the end of each loop
-- that looks for a stretch's end. Assumes nothing.
use Prim.Native.Nat.{ℕ, zero, suc, ◌+◌, ◌≤◌, ◌<◌}
use mathlib.Core.Path.{◌≡◌, refl, sym, ◌∙◌, ap, subst}
use mathlib.Core.List.{List, [], ◌∷◌, ◌++◌, map}
use mathlib.Core.Option.{Option, none, some}
use mathlib.Core.Bool.{Bool, true, false}
use native.Mathlib.Omega.{arith}
use lib.ListN.{length, take, drop, replicate, length-append, length-map}
use lib.Seq.{take_at, drop_at}
use Rattle.encoding.specs.Stretches.{stretches}
use Rattle.encoding.specs.Ahead.{alike, join_all, Off, Closed, Apart}
use Rattle.encoding.specs.Element.{Element}
use Rattle.encoding.specs.declared.StretchEnd.TheVariants as stretch
use Rattle.encoding.proofs.Elements.{ElementLaws}
use Rattle.encoding.proofs.Fronts.{NoAbsent, absent-cut, repeats-cut, joined, some_more}
use Rattle.encoding.proofs.Looking.{off-none, off-some, closed-twice, repeats-end, literal-end, apart_more}
use Rattle.encoding.proofs.Times.{same-behind, same-within}
use Rattle.encoding.specs.Cuts.{somes, repeat_in, literal_in, CutOf, RepeatOf, Other, SameRun, LoneRun}

-- ---- absent readings

module _ {A : Type 0} (same : A → A → Bool) where
  pub absent-stretch : (m : ℕ) (xs ys : List (Option A)) → 0 < m → xs ≡ replicate m none ++ ys → NoAbsent same ys
      → CutOf same xs (stretch.Absent m) ys
  absent-stretch zero xs ys l e h = absurd (omega arith)
  absent-stretch (suc n) xs ys l e h =
      let z = same-within (suc n) none xs ys e in
      record {
        later = l;
        within = omega arith;
        whole = tt;
        behind = same-behind (suc n) none xs ys e;
        cuts = ap (stretches same) e ∙ absent-cut same n ys h;
      }

  -- ---- equal values

  pub repeat-of : (a : A) (m : ℕ) (xs ys : List (Option A)) → 0 < m → xs ≡ replicate m (some a) ++ ys → Off same a (stretches same ys)
      → RepeatOf same a xs m ys
  repeat-of a m xs ys l e o =
      let z = same-within m (some a) xs ys e in
      record {
        later = l;
        within = omega arith;
        behind = same-behind m (some a) xs ys e;
        cuts = ap (stretches same) e ∙ repeats-cut same m a ys;
        off = o;
      }

  -- one value alone
  pub lone : (a : A) (k : ℕ) (xs ys : List (Option A)) → RepeatOf same a xs k ys → k < 2 → Off same a (stretches same (drop 1 xs))
  lone a k xs ys h l =
      let z : k ≡ 1 = omega (arith, h.later) in
      subst (λ (l : List (Option A)). Off same a (stretches same l)) (h.behind ∙ ap (λ (j : ℕ). drop j xs) z) h.off

  module _ (same-eq : (a b : A) → same a b ≡ true → a ≡ b) (same_self : (a : A) → same a a ≡ true) where
    pub repeat-stretch : (a : A) (k : ℕ) (xs ys zs : List (Option A)) → RepeatOf same a xs k ys → 2 ≤ k → xs ≡ some a ∷ zs
        → CutOf same xs (stretch.Repeat k) ys
    repeat-stretch a k xs ys zs h l e =
        record {
          later = h.later;
          within = h.within;
          whole = ap (λ (l : List (Option A)). length (somes (take 1 l))) e;
          behind = h.behind;
          cuts = h.cuts ∙ repeats-end same same-eq same_self k a (stretches same ys) l h.off
              ∙ ap (λ (l : List (Option A)). repeat_in k (somes (take 1 l)) ∷ stretches same ys) (sym e);
        }

    pub closed-pair : (a : A) (ys : List (Option A)) → Closed (stretches same (some a ∷ some a ∷ ys))
    unfolding stretches
    closed-pair a ys = closed-twice same same-eq same_self a (stretches same ys)

  -- ---- values that equal no neighbour

  -- so far: a value in front of xs, and behind it those before ys
  pub record Unlike (xs ys : List (Option A)) (k : ℕ) : Type 0 where
    pub values : List A
    pub count : k ≡ suc (length values)
    pub split : xs ≡ map some values ++ ys
    pub apart : (a : A) → Off same a (stretches same xs) → Apart same a values (stretches same ys)

  pub unlike-start : (xs : List (Option A)) → Unlike xs xs 1
  unlike-start xs = record { values = []; count = refl; split = refl; apart = λ a o. o }

  pub unlike-counts : (xs ys : List (Option A)) (k : ℕ) → Unlike xs ys k → k + length ys ≡ 1 + length xs
  unlike-counts xs ys k h =
      omega (arith, h.count, ap length h.split, length-append (map some h.values) ys, length-map h.values some)

  somes-back : (l : List A) → somes (map some l) ≡ l
  somes-back [] = refl
  somes-back (a ∷ l) = ap (λ (m : List A). a ∷ m) (somes-back l)

  module _ (same-eq : (a b : A) → same a b ≡ true → a ≡ b) (same_self : (a : A) → same a a ≡ true) where
    pub unlike-more : (b : A) (xs ys zs : List (Option A)) (k : ℕ) → Unlike xs ys k → ys ≡ some b ∷ zs → Off same b (stretches same (drop 1 ys))
        → Unlike xs zs (k + 1)
    unfolding stretches
    unlike-more b xs ys zs k h e o =
        let n = length-append h.values (b ∷ []) in
        record {
          values = h.values ++ (b ∷ []);
          count = omega (arith, h.count);
          split = h.split ∙ ap (λ (l : List (Option A)). map some h.values ++ l) e ∙ some_more h.values b zs;
          apart = λ a f.
              apart_more same same-eq same_self a h.values b (stretches same zs)
              (subst (λ (l : List (Option A)). Apart same a h.values (stretches same l)) e (h.apart a f))
              (subst (λ (l : List (Option A)). Off same b (stretches same (drop 1 l))) e o);
        }

    pub literal-stretch : (a : A) (us xs ys : List (Option A)) (k : ℕ) → us ≡ some a ∷ xs → Off same a (stretches same (drop 1 us))
        → Unlike xs ys k → Closed (stretches same ys) → CutOf same us (stretch.Literal k) ys
    unfolding join_all
    literal-stretch a us xs ys k e o h c =
        let l : List A = a ∷ h.values in
        let s : us ≡ map some l ++ ys = e ∙ ap (λ (m : List (Option A)). some a ∷ m) h.split in
        let n : length (map some l) ≡ k = length-map l some ∙ sym h.count in
        let t : somes (take k us) ≡ l = ap (λ (m : List (Option A)). somes (take k m)) s ∙ ap somes (take_at (map some l) ys k n) ∙ somes-back l in
        let f : Off same a (stretches same xs) = subst (λ (m : List (Option A)). Off same a (stretches same (drop 1 m))) e o in
        record {
          later = omega (arith, h.count);
          within = omega (arith, ap length s, length-append (map some l) ys);
          whole = ap length t ∙ sym h.count;
          behind = sym (ap (drop k) s ∙ drop_at (map some l) ys k n);
          cuts = ap (stretches same) s ∙ joined same l ys
              ∙ literal-end same same-eq same_self a h.values (stretches same ys) (h.apart a f) c
              ∙ ap (λ (m : List A). literal_in m ∷ stretches same ys) (sym t);
        }

-- ---- the stretch that a walk finds: readings that are alike, and values that equal no neighbour

module _ {A : Type 0} (E : Element A) (L : ElementLaws E) where
  pub alike-eq : (x y : Option A) → alike E x y ≡ true → y ≡ x
  unfolding alike
  alike-eq none none e = refl
  alike-eq none (some b) e = let z : false ≡ true = e in cc
  alike-eq (some a) none e = let z : false ≡ true = e in cc
  alike-eq (some a) (some b) e = ap some (sym (L.same-eq a b e))

  -- what stretches begin with, behind a reading that is not alike
  pub other-absent : (ys : List (Option A)) → Other E none ys → NoAbsent E.same ys
  unfolding alike
  other-absent [] o = tt
  other-absent (none ∷ ys) o = let z : true ≡ false = o in let y : ◌≡◌ {A = ℕ} 0 1 = cc in absurd (omega arith)
  other-absent (some b ∷ ys) o = tt

  pub other-off : (a : A) (ys : List (Option A)) → Other E (some a) ys → Off E.same a (stretches E.same ys)
  unfolding alike stretches
  other-off a [] o = tt
  other-off a (none ∷ ys) o = off-none E.same a (stretches E.same ys)
  other-off a (some b ∷ ys) o = off-some E.same L.same-eq L.same_self a b (stretches E.same ys) o

  -- ---- the stretch that begins a list

  module _ (xs ys : List (Option A)) (c : ℕ) where
    pub cut-absent : SameRun E none xs c ys → CutOf E.same xs (stretch.Absent c) ys
    cut-absent u = absent-stretch E.same c xs ys u.later u.split (other-absent ys u.other)

    pub cut-repeat : (a : A) → SameRun E (some a) xs c ys → 2 ≤ c → CutOf E.same xs (stretch.Repeat c) ys
    cut-repeat a u l =
        repeat-stretch E.same L.same-eq L.same_self a c xs ys (drop 1 xs)
        (repeat-of E.same a c xs ys u.later u.split (other-off a ys u.other)) l
        (begins-with c u.later u.split)
      where
        begins-with : (n : ℕ) → 0 < n → xs ≡ replicate n (some a) ++ ys → xs ≡ some a ∷ drop 1 xs
        begins-with zero l e = absurd (omega arith)
        begins-with (suc n) l e = e ∙ ap (λ (l : List (Option A)). some a ∷ l) (sym (ap (drop 1) e))

    pub cut-literal : (a : A) (k : ℕ) (zs : List (Option A)) → SameRun E (some a) xs c ys → c < 2 → LoneRun E ys k zs
        → CutOf E.same xs (stretch.Literal k) zs
    cut-literal a k zs u l r =
        let one : c ≡ 1 = omega (arith, u.later) in
        let e : xs ≡ some a ∷ ys = u.split ∙ ap (λ (n : ℕ). replicate n (some a) ++ ys) one in
        let v : Unlike E.same ys zs k = record { values = r.values; count = r.count; split = r.split; apart = r.apart } in
        literal-stretch E.same L.same-eq L.same_self a xs ys zs k e
        (subst (λ (l : List (Option A)). Off E.same a (stretches E.same (drop 1 l))) (sym e) (other-off a ys u.other)) v r.closed

  -- there is room for the walk behind it
  pub behind-few : (x : Option A) (xs ys : List (Option A)) (c : ℕ) → SameRun E x xs c ys → (m : ℕ) → length xs ≤ m → suc (length ys) ≤ m
  behind-few x xs ys c u m l = omega (arith, same-within c x xs ys u.split, u.later)
