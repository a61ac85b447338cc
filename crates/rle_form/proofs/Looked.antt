-- Looking ahead over the list that is walked: laws for the start, a turn and the end of each loop, and the stretch that is found. Over any element; assumes
-- nothing.
use Prim.Native.Nat.{ℕ, zero, suc, ◌+◌, ◌≤◌, ◌<◌}
use mathlib.Core.Path.{◌≡◌, refl, sym, ◌∙◌, ap, subst}
use mathlib.Core.List.{List, [], ◌∷◌, ◌++◌}
use mathlib.Core.Option.{Option, some}
use mathlib.Core.Bool.{Bool, true, false}
use native.Mathlib.Omega.{arith}
use lib.ListN.{length, take, drop, replicate, length-append, length-drop}
use Rattle.std.specs.Prelude.{None}
use Rattle.encoding.specs.Ahead.{alike, Off, Closed, end_of}
use Rattle.encoding.specs.Element.{Element}
use Rattle.encoding.specs.Stretches.{stretches}
use Rattle.encoding.specs.declared.StretchEnd.{StretchEnd}
use Rattle.encoding.specs.declared.StretchEnd.TheVariants as stretch
use Rattle.encoding.proofs.Elements.{ElementLaws}
use Rattle.encoding.proofs.Looking.{closed_none, closed-twice}
use Rattle.encoding.proofs.Times.{same_more, same-counts, piece-less, piece-first}
use Rattle.encoding.specs.Cuts.{somes, repeat_in, literal_in, stretch_in, PresentIn, CutOf, Other, SameRun, LoneRun}
use Rattle.encoding.specs.Longest.{readings_in, readings_of}
use Rattle.runs.specs.Pieces.{held_in, rest_of, list_of, Going}
use Rattle.runs.specs.declared.walk.Piece.{Piece}
use Rattle.encoding.proofs.Cutting.{alike-eq, other-off, cut-absent, cut-repeat, cut-literal, Unlike, unlike-start, unlike-counts, unlike-more}
use Rattle.encoding.proofs.Cut.{cut-whole}
use Rattle.runs.proofs.Held.{held_none, held-some}
use Rattle.rle_form.specs.Ahead.{sort_of, Found}

-- ---- the cut of a list by its first stretch

module _ {A : Type 0} (E : Element A) where
  sorted : (xs : List (Option A)) (r : StretchEnd) → 0 < end_of r → PresentIn xs r → r ≡ sort_of (stretch_in xs r)
  sorted xs (stretch.Absent k) l p = refl
  sorted xs (stretch.Repeat k) l p = go (somes (take 1 xs)) p
    where
      go : (w : List A) → length w ≡ 1 → stretch.Repeat k ≡ sort_of (repeat_in k w)
      go [] e = absurd (omega arith)
      go (a ∷ w) e = refl
  sorted xs (stretch.Literal k) l p = go (somes (take k xs)) p
    where
      go : (w : List A) → length w ≡ k → stretch.Literal k ≡ sort_of (literal_in w)
      go [] e = absurd (omega arith)
      go (a ∷ w) e = ap stretch.Literal (sym e)

  found-by : ElementLaws E → (xs : List (Option A)) (r : StretchEnd) (ys : List (Option A)) → CutOf E.same xs r ys → Found E xs r
  unfolding readings_of
  found-by L xs r ys h =
      let w : List (Option A) = readings_in (stretch_in xs r) in
      let e : xs ≡ w ++ ys =
      sym (cut-whole E.same L.same-eq L.same_self xs)
      ∙ ap readings_of h.cuts
      ∙ ap (λ (l : List (Option A)). w ++ l) (cut-whole E.same L.same-eq L.same_self ys) in
      record {
        stretch = stretch_in xs r;
        behind = ys;
        sort = sorted xs r h.later h.whole;
        some = omega (arith, ap length e, length-append w ys, ap length h.behind, length-drop (end_of r) xs, h.later, h.within);
        split = e;
        cuts = h.cuts;
      }

module _ {A : Type 0} (E : Element A) (L : ElementLaws E) where
  module _ (s : List ℕ) where
    begins : (w : Piece) → 0 < w.times → list_of E s w ≡ held_in E s w.held ∷ drop 1 (list_of E s w)
    begins w l = piece-first w.times (held_in E s w.held) (held_in E s w.held) (rest_of E s w) l refl

    pub passed-less : (w r : Piece) → 0 < w.times → list_of E s r ≡ rest_of E s w → length (list_of E s r) < length (list_of E s w)
    passed-less w r l e = piece-less w.times (held_in E s w.held) (rest_of E s w) (list_of E s r) e l

    -- ---- the same reading: c₀ times x before w₀ is c times x before w

    pub record SameTo (x : Option A) (c₀ : ℕ) (w₀ : Piece) (c : ℕ) (w : Piece) : Type 0 where
      pub going : Going E s w
      pub later : 0 < c
      pub whole : replicate c₀ x ++ list_of E s w₀ ≡ replicate c x ++ list_of E s w

    pub same_start : (x : Option A) (c : ℕ) (w : Piece) → Going E s w → 0 < c → SameTo x c w c w
    same_start x c w g l = record { going = g; later = l; whole = refl }

    module _ (x : Option A) (c₀ : ℕ) (w₀ : Piece) (c : ℕ) (w : Piece) (t : SameTo x c₀ w₀ c w) where
      pub same_turn : (r : Piece) (b : Bool) → b ≡ alike E x (held_in E s w.held) → b ≡ true → Going E s r → list_of E s r ≡ rest_of E s w
          → SameTo x c₀ w₀ (c + w.times) r
      same_turn r b e f g k =
          record {
            going = g;
            later = omega (arith, t.later);
            whole = same_more c w.times x (held_in E s w.held) (replicate c₀ x ++ list_of E s w₀) (rest_of E s w) (list_of E s r) t.whole
                (alike-eq E L x (held_in E s w.held) (sym e ∙ f)) k;
          }

      module _ (p : Piece) (e : held_in E s p.held ≡ x) (n : p.times ≡ c₀) (k : list_of E s w₀ ≡ rest_of E s p) where
        whole-list : list_of E s p ≡ replicate c x ++ list_of E s w
        whole-list =
            ap (λ (l : List (Option A)). replicate p.times (held_in E s p.held) ++ l) (sym k)
            ∙ ap (λ (y : Option A). replicate p.times y ++ list_of E s w₀) e
            ∙ ap (λ (m : ℕ). replicate m x ++ list_of E s w₀) n ∙ t.whole

        pub same-room : (m : ℕ) → length (list_of E s p) ≤ m → c + w.times ≤ m
        same-room m l = omega (arith, same-counts c w.times x (held_in E s w.held) (list_of E s p) (rest_of E s w) whole-list)

        same_stop : Other E x (list_of E s w) → SameRun E x (list_of E s p) c (list_of E s w)
        same_stop o = record { later = t.later; split = whole-list; other = o }

        pub same-other : (b : Bool) → 0 < w.times → b ≡ alike E x (held_in E s w.held) → b ≡ false → SameRun E x (list_of E s p) c (list_of E s w)
        same-other b l f g = same_stop (subst (Other E x) (sym (begins w l)) (sym f ∙ g))

        pub same_over : w.times ≤ 0 → SameRun E x (list_of E s p) c (list_of E s w)
        same_over l = same_stop (subst (Other E x) (sym (t.going.ended (omega arith))) tt)

    -- ---- values that equal no neighbour: c of them, with the one before w₀, up to w

    pub record LoneTo (w₀ : Piece) (c : ℕ) (w : Piece) : Type 0 where
      pub going : Going E s w
      pub unlike : Unlike E.same (list_of E s w₀) (list_of E s w) c

    pub lone-start : (w : Piece) → Going E s w → LoneTo w 1 w
    lone-start w g = record { going = g; unlike = unlike-start E.same (list_of E s w) }

    module _ (w₀ : Piece) (c : ℕ) (w : Piece) (t : LoneTo w₀ c w) where
      pub lone_room : (m : ℕ) → 0 < w.times → suc (length (list_of E s w₀)) ≤ m → c + 1 ≤ m
      lone_room m l h = omega (arith, unlike-counts E.same (list_of E s w₀) (list_of E s w) c t.unlike, ap length (begins w l))

      pub lone-few : (m : ℕ) → suc (length (list_of E s w₀)) ≤ m → length (list_of E s w) ≤ m
      lone-few m h = omega (arith, unlike-counts E.same (list_of E s w₀) (list_of E s w) c t.unlike, t.unlike.count)

      lone-stop : Closed (stretches E.same (list_of E s w)) → LoneRun E (list_of E s w₀) c (list_of E s w)
      lone-stop k =
          let u = t.unlike in
          record { values = u.values; count = u.count; split = u.split; apart = u.apart; closed = k }

      pub lone-over : w.times ≤ 0 → LoneRun E (list_of E s w₀) c (list_of E s w)
      unfolding stretches
      lone-over l = lone-stop (subst (λ (m : List (Option A)). Closed (stretches E.same m)) (sym (t.going.ended (omega arith))) tt)

      pub lone-absent : 0 < w.times → w.held ≡ None → LoneRun E (list_of E s w₀) c (list_of E s w)
      unfolding stretches
      lone-absent l e =
          lone-stop
          (subst (λ (m : List (Option A)). Closed (stretches E.same m))
          (sym (begins w l ∙ ap (λ (y : Option A). y ∷ drop 1 (list_of E s w)) (held_none E L s w.held e)))
          (closed_none E.same (stretches E.same (drop 1 (list_of E s w)))))

      module _ (n : ℕ) (r : Piece) (g : Going E s r) (f : w.held ≡ None → ⊥)
          (h : SameRun E (held_in E s w.held) (list_of E s w) n (list_of E s r)) where
        -- it stands there more than once
        pub lone-twice : (n ≡ 1 → ⊥) → LoneRun E (list_of E s w₀) c (list_of E s w)
        unfolding stretches
        lone-twice z = go n refl
          where
            a : (a : A) × (held_in E s w.held ≡ some a)
            a = held-some E L s w.held t.going.within f

            go : (m : ℕ) → n ≡ m → LoneRun E (list_of E s w₀) c (list_of E s w)
            go zero e = absurd (omega (arith, h.later))
            go (suc zero) e = absurd (z e)
            go (suc (suc m)) e =
                lone-stop
                (subst (λ (l : List (Option A)). Closed (stretches E.same l))
                (sym (h.split ∙ ap (λ (j : ℕ). replicate j (held_in E s w.held) ++ list_of E s r) e
                ∙ ap (λ (y : Option A). replicate (suc (suc m)) y ++ list_of E s r) a.1))
                (closed-twice E.same L.same-eq L.same_self a.0 (stretches E.same (replicate m (some a.0) ++ list_of E s r))))

        module _ (one : n ≡ 1) where
          alone : (a : A) → held_in E s w.held ≡ some a → list_of E s w ≡ some a ∷ list_of E s r
          alone a e =
              h.split ∙ ap (λ (j : ℕ). replicate j (held_in E s w.held) ++ list_of E s r) one ∙ ap (λ (y : Option A). y ∷ list_of E s r) e

          pub lone-less : length (list_of E s r) < length (list_of E s w)
          lone-less = let a = held-some E L s w.held t.going.within f in omega (arith, ap length (alone a.0 a.1))

          pub lone-turn : LoneTo w₀ (c + 1) r
          lone-turn =
              let a = held-some E L s w.held t.going.within f in
              let e = alone a.0 a.1 in
              record {
                going = g;
                unlike = unlike-more E.same L.same-eq L.same_self a.0 (list_of E s w₀) (list_of E s w) (list_of E s r) c t.unlike e
                    (subst (λ (l : List (Option A)). Off E.same a.0 (stretches E.same (drop 1 l))) (sym e)
                    (other-off E L a.0 (list_of E s r) (subst (λ (y : Option A). Other E y (list_of E s r)) a.1 h.other)));
              }

    -- ---- the stretch at a piece

    module _ (w : Piece) (g : Going E s w) (ys : List (Option A)) (c : ℕ) (t : SameRun E (held_in E s w.held) (list_of E s w) c ys) where
      pub found-absent : w.held ≡ None → Found E (list_of E s w) (stretch.Absent c)
      found-absent e =
          found-by E L (list_of E s w) (stretch.Absent c) ys
          (cut-absent E L (list_of E s w) ys c (subst (λ (x : Option A). SameRun E x (list_of E s w) c ys) (held_none E L s w.held e) t))

      named : (a : A) → held_in E s w.held ≡ some a → SameRun E (some a) (list_of E s w) c ys
      named a e = subst (λ (x : Option A). SameRun E x (list_of E s w) c ys) e t

      pub found-repeat : (w.held ≡ None → ⊥) → 2 ≤ c → Found E (list_of E s w) (stretch.Repeat c)
      found-repeat f l =
          let a = held-some E L s w.held g.within f in
          found-by E L (list_of E s w) (stretch.Repeat c) ys (cut-repeat E L (list_of E s w) ys c a.0 (named a.0 a.1) l)

      pub found-literal : (k : ℕ) (zs : List (Option A)) → (w.held ≡ None → ⊥) → c < 2 → LoneRun E ys k zs
          → Found E (list_of E s w) (stretch.Literal k)
      found-literal k zs f l r =
          let a = held-some E L s w.held g.within f in
          found-by E L (list_of E s w) (stretch.Literal k) zs (cut-literal E L (list_of E s w) ys c a.0 k zs (named a.0 a.1) l r)
