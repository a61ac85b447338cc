-- Readings that the walk passes while it looks for a stretch's end: laws for the start, a turn and the end of each loop over its states. Assumes
-- nothing.
use Prim.Native.Nat.{ℕ, zero, suc, ◌+◌, ◌≤◌, ◌<◌}
use mathlib.Core.Path.{◌≡◌, refl, sym, ◌∙◌, ap, subst}
use mathlib.Core.List.{List, ◌∷◌, ◌++◌}
use mathlib.Core.Option.{Option, none, some}
use mathlib.Core.Bool.{Bool, true, false}
use native.Mathlib.Omega.{arith}
use lib.ListN.{length, drop, replicate}
use Rattle.encoding.specs.Ahead.{Off, Closed}
use Rattle.encoding.specs.Stretches.{stretches}
use Rattle.encoding.specs.declared.StretchEnd.TheVariants as stretch
use Rattle.text.specs.Text.{same_bytes}
use Rattle.text.proofs.TextLaws.{text-laws}
use Rattle.encoding.proofs.Fronts.{NoAbsent}
use Rattle.encoding.proofs.Times.{same_more, same-counts, piece-less, piece-first}
use Rattle.encoding.specs.Cuts.{CutOf, RepeatOf, PairedIn}
use Rattle.text_encoder.specs.Walks.{held_in, name_in, same_of, rest_of, list_of, Going}
use Rattle.text_encoder.specs.declared.walk.Held.{Held}
use Rattle.text_encoder.specs.declared.walk.Held.TheVariants as held
use Rattle.text_encoder.specs.declared.walk.Splicing.{Splicing}
use Rattle.text_encoder.proofs.Alike.{held_none, held-name, same_true, off-end, off-other, closed-none-first}
use Rattle.text_encoder.proofs.Passing.{walk-over}
use Rattle.encoding.proofs.Cutting.{absent-stretch, repeat-of, repeat-stretch, lone, closed-pair}
use Rattle.encoding.proofs.Cutting.{Unlike, unlike-start, unlike-counts, unlike-more, literal-stretch}

-- ---- the same reading

-- c₀ times the reading x before w₀ is c times x before w
pub record SameTo (column bytes : List ℕ) (new : List (Option (List ℕ))) (x : Option (List ℕ)) (c₀ : ℕ) (w₀ : Splicing) (c : ℕ) (w : Splicing) : Type 0 where
  pub going : Going column bytes new w
  pub later : 0 < c
  pub whole : replicate c₀ x ++ list_of column bytes new w₀ ≡ replicate c x ++ list_of column bytes new w

module _ (column bytes : List ℕ) (new : List (Option (List ℕ))) where
  -- the list at s, whose piece is passed to w₀
  passed : (x : Option (List ℕ)) (s w₀ : Splicing) → held_in column bytes s.held ≡ x → list_of column bytes new w₀ ≡ rest_of column new s
      → list_of column bytes new s ≡ replicate s.times x ++ list_of column bytes new w₀
  passed x s w₀ e f =
      ap (λ (y : Option (List ℕ)). replicate s.times y ++ rest_of column new s) e
      ∙ ap (λ (l : List (Option (List ℕ))). replicate s.times x ++ l) (sym f)

  pub same_start : (x : Option (List ℕ)) (c : ℕ) (w : Splicing) → Going column bytes new w → 0 < c → SameTo column bytes new x c w c w
  same_start x c w g l = record { going = g; later = l; whole = refl }

  -- what is behind a piece is shorter
  pub passed-less : (w w' : Splicing) → Going column bytes new w → Going column bytes new w' → 0 < w.times
      → list_of column bytes new w' ≡ rest_of column new w → length (list_of column bytes new w') < length (list_of column bytes new w)
  passed-less w w' g g' l e = piece-less w.times (held_in column bytes w.held) (rest_of column new w) (list_of column bytes new w') e l

  module _ (x : Option (List ℕ)) (c₀ : ℕ) (w₀ : Splicing) (c : ℕ) (w : Splicing) (h : SameTo column bytes new x c₀ w₀ c w) where
    same_turn : (w' : Splicing) → held_in column bytes w.held ≡ x → Going column bytes new w' → list_of column bytes new w' ≡ rest_of column new w
        → SameTo column bytes new x c₀ w₀ (c + w.times) w'
    same_turn w' e g f =
        record {
          going = g;
          later = omega (arith, h.later);
          whole =
              same_more c w.times x (held_in column bytes w.held) (replicate c₀ x ++ list_of column bytes new w₀) (rest_of column new w)
              (list_of column bytes new w') h.whole e f;
        }

    pub same-room : (s : Splicing) (n : ℕ) → Going column bytes new s → held_in column bytes s.held ≡ x → s.times ≡ c₀
        → list_of column bytes new w₀ ≡ rest_of column new s → length (list_of column bytes new s) ≤ n → c + w.times ≤ n
    same-room s n g e t f l =
        let y = held_in column bytes w.held in
        let z = same-counts c w.times x y (replicate c₀ x ++ list_of column bytes new w₀) (rest_of column new w) h.whole in
        let k : length (list_of column bytes new s) ≡ length (replicate c₀ x ++ list_of column bytes new w₀) =
        ap length (passed x s w₀ e f ∙ ap (λ (k : ℕ). replicate k x ++ list_of column bytes new w₀) t) in
        omega arith

-- the name a again
held-again : (column bytes : List ℕ) (a h : Held) (b : Bool) → (a ≡ held.Absent → ⊥) → b ≡ same_of (held_in column bytes a) (held_in column bytes h)
    → b ≡ true → held_in column bytes h ≡ held_in column bytes a
held-again column bytes a h b f e t =
    let x = held_in column bytes a in
    let n : x ≡ some (name_in x) = held-name column bytes a f in
    same_true (name_in x) x (held_in column bytes h) n (sym e ∙ t) ∙ sym n

module _ (column bytes : List ℕ) (new : List (Option (List ℕ))) (c₀ : ℕ) (w₀ : Splicing) (c : ℕ) (w : Splicing) where
  pub absent-turn : SameTo column bytes new none c₀ w₀ c w → (w' : Splicing) → w.held ≡ held.Absent → Going column bytes new w'
      → list_of column bytes new w' ≡ rest_of column new w → SameTo column bytes new none c₀ w₀ (c + w.times) w'
  absent-turn h w' e g f = same_turn column bytes new none c₀ w₀ c w h w' (held_none column bytes w.held e) g f

  pub name-turn : (s : Splicing) → Going column bytes new s → (s.held ≡ held.Absent → ⊥) → SameTo column bytes new (held_in column bytes s.held) c₀ w₀ c w
      → (w' : Splicing) (b : Bool) → b ≡ same_of (held_in column bytes s.held) (held_in column bytes w.held) → b ≡ true → Going column bytes new w'
      → list_of column bytes new w' ≡ rest_of column new w → SameTo column bytes new (held_in column bytes s.held) c₀ w₀ (c + w.times) w'
  name-turn s at there h w' b e t g f =
      same_turn column bytes new (held_in column bytes s.held) c₀ w₀ c w h w' (held-again column bytes s.held w.held b there e t) g f

-- ---- what stands at w, for a stretch before it

module _ (column bytes : List ℕ) (new : List (Option (List ℕ))) (w : Splicing) where
  begun-end : Going column bytes new w → w.times ≤ 0 → NoAbsent same_bytes (list_of column bytes new w)
  begun-end g l = subst (NoAbsent same_bytes) (sym (walk-over column bytes new w g l)) tt

  begun-held : 0 < w.times → (w.held ≡ held.Absent → ⊥) → NoAbsent same_bytes (list_of column bytes new w)
  begun-held l f =
      subst (NoAbsent same_bytes)
      (sym (piece-first w.times (some (name_in (held_in column bytes w.held))) (held_in column bytes w.held) (rest_of column new w) l
      (held-name column bytes w.held f)))
      tt

  off-done : (a : List ℕ) → Going column bytes new w → w.times ≤ 0 → Off same_bytes a (stretches same_bytes (list_of column bytes new w))
  off-done a g l = off-end a (list_of column bytes new w) (walk-over column bytes new w g l)

  pub closed-end : Going column bytes new w → w.times ≤ 0 → Closed (stretches same_bytes (list_of column bytes new w))
  unfolding stretches
  closed-end g l = subst (λ (m : List (Option (List ℕ))). Closed (stretches same_bytes m)) (sym (walk-over column bytes new w g l)) tt

  pub closed-absent : Going column bytes new w → 0 < w.times → w.held ≡ held.Absent → Closed (stretches same_bytes (list_of column bytes new w))
  closed-absent g l e =
      subst (λ (m : List (Option (List ℕ))). Closed (stretches same_bytes m))
      (sym (piece-first w.times none (held_in column bytes w.held) (rest_of column new w) l (held_none column bytes w.held e)))
      (closed-none-first (drop 1 (list_of column bytes new w)))

-- ---- absent readings from s on

module _ (column bytes : List ℕ) (new : List (Option (List ℕ))) (s w₀ : Splicing) (c : ℕ) (w : Splicing)
    (at : Going column bytes new s) (absent : s.held ≡ held.Absent) (next : list_of column bytes new w₀ ≡ rest_of column new s)
    (h : SameTo column bytes new none s.times w₀ c w) where
  absents : NoAbsent same_bytes (list_of column bytes new w) → CutOf same_bytes (list_of column bytes new s) (stretch.Absent c) (list_of column bytes new w)
  absents b =
      absent-stretch same_bytes c (list_of column bytes new s) (list_of column bytes new w) h.later
      (passed column bytes new none s w₀ (held_none column bytes s.held absent) next ∙ h.whole) b

  pub absents-held : 0 < w.times → (w.held ≡ held.Absent → ⊥)
      → CutOf same_bytes (list_of column bytes new s) (stretch.Absent c) (list_of column bytes new w)
  absents-held l f = absents (begun-held column bytes new w l f)

  pub absents-end : w.times ≤ 0 → CutOf same_bytes (list_of column bytes new s) (stretch.Absent c) (list_of column bytes new w)
  absents-end l = absents (begun-end column bytes new w h.going l)

-- ---- one name from s on

module _ (column bytes : List ℕ) (new : List (Option (List ℕ))) (s w₀ : Splicing) (c : ℕ) (w : Splicing)
    (at : Going column bytes new s) (there : s.held ≡ held.Absent → ⊥) (next : list_of column bytes new w₀ ≡ rest_of column new s)
    (h : SameTo column bytes new (held_in column bytes s.held) s.times w₀ c w) where
  repeated : Off same_bytes (name_in (held_in column bytes s.held)) (stretches same_bytes (list_of column bytes new w))
      → RepeatOf same_bytes (name_in (held_in column bytes s.held)) (list_of column bytes new s) c (list_of column bytes new w)
  repeated o =
      let x = held_in column bytes s.held in
      let e : x ≡ some (name_in x) = held-name column bytes s.held there in
      repeat-of same_bytes (name_in x) c (list_of column bytes new s) (list_of column bytes new w) h.later
      (passed column bytes new x s w₀ refl next ∙ h.whole ∙ ap (λ (y : Option (List ℕ)). replicate c y ++ list_of column bytes new w) e) o

  pub repeated-other : (b : Bool) → 0 < w.times → b ≡ same_of (held_in column bytes s.held) (held_in column bytes w.held) → b ≡ false
      → RepeatOf same_bytes (name_in (held_in column bytes s.held)) (list_of column bytes new s) c (list_of column bytes new w)
  repeated-other b l e f =
      let x = held_in column bytes s.held in
      repeated (off-other (name_in x) x (held_in column bytes w.held) w.times (rest_of column new w) (held-name column bytes s.held there) l (sym e ∙ f))

  pub repeated-end : w.times ≤ 0
      → RepeatOf same_bytes (name_in (held_in column bytes s.held)) (list_of column bytes new s) c (list_of column bytes new w)
  repeated-end l = repeated (off-done column bytes new w (name_in (held_in column bytes s.held)) h.going l)

-- ---- does the name at s stand there twice

module _ (column bytes : List ℕ) (new : List (Option (List ℕ))) (s : Splicing) (at : Going column bytes new s)
    (there : s.held ≡ held.Absent → ⊥) where
  pub paired-piece : 1 < s.times → Closed (stretches same_bytes (list_of column bytes new s))
  paired-piece l = go s.times l (held_in column bytes s.held) (held-name column bytes s.held there)
    where
      go : (n : ℕ) → 1 < n → (x : Option (List ℕ)) → x ≡ some (name_in x) → Closed (stretches same_bytes (replicate n x ++ rest_of column new s))
      go zero l x e = absurd (omega arith)
      go (suc zero) l x e = absurd (omega arith)
      go (suc (suc n)) l x e =
          subst (λ (y : Option (List ℕ)). Closed (stretches same_bytes (y ∷ y ∷ (replicate n x ++ rest_of column new s)))) (sym e)
          (closed-pair same_bytes text-laws.same-eq text-laws.same_self (name_in x) (replicate n x ++ rest_of column new s))

  module _ (w : Splicing) (g : Going column bytes new w) (one : s.times ≡ 1) (next : list_of column bytes new w ≡ rest_of column new s) where
    alone : list_of column bytes new s ≡ some (name_in (held_in column bytes s.held)) ∷ list_of column bytes new w
    alone =
        passed column bytes new (held_in column bytes s.held) s w refl next
        ∙ ap (λ (k : ℕ). replicate k (held_in column bytes s.held) ++ list_of column bytes new w) one
        ∙ ap (λ (x : Option (List ℕ)). x ∷ list_of column bytes new w) (held-name column bytes s.held there)

    pub paired-end : w.times ≤ 0
        → Off same_bytes (name_in (held_in column bytes s.held)) (stretches same_bytes (drop 1 (list_of column bytes new s)))
    paired-end l =
        subst (λ (m : List (Option (List ℕ))). Off same_bytes (name_in (held_in column bytes s.held)) (stretches same_bytes (drop 1 m))) (sym alone)
        (off-done column bytes new w (name_in (held_in column bytes s.held)) g l)

    pub paired-held : (b : Bool) → 0 < w.times → b ≡ same_of (held_in column bytes s.held) (held_in column bytes w.held)
        → PairedIn same_bytes (name_in (held_in column bytes s.held)) (list_of column bytes new s) b
    paired-held b l e = go b e
      where
        go : (b : Bool) → b ≡ same_of (held_in column bytes s.held) (held_in column bytes w.held)
            → PairedIn same_bytes (name_in (held_in column bytes s.held)) (list_of column bytes new s) b
        go true e =
            let x = held_in column bytes s.held in
            let n : x ≡ some (name_in x) = held-name column bytes s.held there in
            let y : held_in column bytes w.held ≡ some (name_in x) = same_true (name_in x) x (held_in column bytes w.held) n (sym e) in
            let f = piece-first w.times (some (name_in x)) (held_in column bytes w.held) (rest_of column new w) l y in
            subst (λ (m : List (Option (List ℕ))). Closed (stretches same_bytes m))
            (sym (alone ∙ ap (λ (m : List (Option (List ℕ))). some (name_in x) ∷ m) f))
            (closed-pair same_bytes text-laws.same-eq text-laws.same_self (name_in x) (drop 1 (list_of column bytes new w)))
        go false e =
            let x = held_in column bytes s.held in
            let n : x ≡ some (name_in x) = held-name column bytes s.held there in
            subst (λ (m : List (Option (List ℕ))). Off same_bytes (name_in x) (stretches same_bytes (drop 1 m))) (sym alone)
            (off-other (name_in x) x (held_in column bytes w.held) w.times (rest_of column new w) n l (sym e))

-- ---- names that equal no neighbour

-- so far, where w₀ is behind the first
pub record ApartTo (column bytes : List ℕ) (new : List (Option (List ℕ))) (w₀ : Splicing) (c : ℕ) (w : Splicing) : Type 0 where
  pub going : Going column bytes new w
  pub unlike : Unlike same_bytes (list_of column bytes new w₀) (list_of column bytes new w) c

module _ (column bytes : List ℕ) (new : List (Option (List ℕ))) where
  pub apart-start : (w : Splicing) → Going column bytes new w → ApartTo column bytes new w 1 w
  apart-start w g = record { going = g; unlike = unlike-start same_bytes (list_of column bytes new w) }

  pub stepped-less : (w w' : Splicing) → Going column bytes new w → Going column bytes new w'
      → list_of column bytes new w ≡ held_in column bytes w.held ∷ list_of column bytes new w'
      → length (list_of column bytes new w') < length (list_of column bytes new w)
  stepped-less w w' g g' e = omega (arith, ap length e)

  module _ (w₀ : Splicing) (c : ℕ) (w : Splicing) (h : ApartTo column bytes new w₀ c w) where
    pub apart-turn : (w' : Splicing) (b : Bool) → (w.held ≡ held.Absent → ⊥)
        → PairedIn same_bytes (name_in (held_in column bytes w.held)) (list_of column bytes new w) b → b ≡ false → Going column bytes new w'
        → list_of column bytes new w ≡ held_in column bytes w.held ∷ list_of column bytes new w'
        → ApartTo column bytes new w₀ (c + 1) w'
    apart-turn w' b f p t g e =
        let x = held_in column bytes w.held in
        record {
          going = g;
          unlike =
              unlike-more same_bytes text-laws.same-eq text-laws.same_self (name_in x) (list_of column bytes new w₀) (list_of column bytes new w)
              (list_of column bytes new w') c h.unlike
              (e ∙ ap (λ (y : Option (List ℕ)). y ∷ list_of column bytes new w') (held-name column bytes w.held f))
              (subst (PairedIn same_bytes (name_in x) (list_of column bytes new w)) t p);
        }

    module _ (s : Splicing) (at : Going column bytes new s)
        (first : list_of column bytes new s ≡ held_in column bytes s.held ∷ list_of column bytes new w₀) where
      pub apart-room : (n : ℕ) → length (list_of column bytes new s) ≤ n → c ≤ n
      apart-room n l =
          omega (arith, unlike-counts same_bytes (list_of column bytes new w₀) (list_of column bytes new w) c h.unlike, ap length first)

      pub apart-stop : (s.held ≡ held.Absent → ⊥)
          → Off same_bytes (name_in (held_in column bytes s.held)) (stretches same_bytes (drop 1 (list_of column bytes new s)))
          → Closed (stretches same_bytes (list_of column bytes new w))
          → CutOf same_bytes (list_of column bytes new s) (stretch.Literal c) (list_of column bytes new w)
      apart-stop f o k =
          let x = held_in column bytes s.held in
          literal-stretch same_bytes text-laws.same-eq text-laws.same_self (name_in x) (list_of column bytes new s) (list_of column bytes new w₀)
          (list_of column bytes new w) c
          (first ∙ ap (λ (y : Option (List ℕ)). y ∷ list_of column bytes new w₀) (held-name column bytes s.held f))
          o h.unlike k

pub pair_found : (column bytes : List ℕ) (new : List (Option (List ℕ))) (w : Splicing) → Going column bytes new w → (b : Bool)
    → PairedIn same_bytes (name_in (held_in column bytes w.held)) (list_of column bytes new w) b → b ≡ true
    → Closed (stretches same_bytes (list_of column bytes new w))
pair_found column bytes new w g b p e = subst (PairedIn same_bytes (name_in (held_in column bytes w.held)) (list_of column bytes new w)) e p

-- ---- the stretch at s

module _ (column bytes : List ℕ) (new : List (Option (List ℕ))) (s w : Splicing) (k : ℕ) (at : Going column bytes new s) (behind : Going column bytes new w)
    (h : RepeatOf same_bytes (name_in (held_in column bytes s.held)) (list_of column bytes new s) k (list_of column bytes new w)) where
  pub repeat-found : 0 < s.times → (s.held ≡ held.Absent → ⊥) → 2 ≤ k
      → CutOf same_bytes (list_of column bytes new s) (stretch.Repeat k) (list_of column bytes new w)
  repeat-found l f m =
      let x = held_in column bytes s.held in
      repeat-stretch same_bytes text-laws.same-eq text-laws.same_self (name_in x) k (list_of column bytes new s) (list_of column bytes new w)
      (drop 1 (list_of column bytes new s)) h m
      (piece-first s.times (some (name_in x)) x (rest_of column new s) l (held-name column bytes s.held f))

  pub lone-found : k < 2 → Off same_bytes (name_in (held_in column bytes s.held)) (stretches same_bytes (drop 1 (list_of column bytes new s)))
  lone-found l = lone same_bytes (name_in (held_in column bytes s.held)) k (list_of column bytes new s) (list_of column bytes new w) h l
