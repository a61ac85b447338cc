-- Readings put into slots, over any machine: what a loop that fills them run by run owes at each state, and one law for each way out of a
-- whole column decoded. Assumes nothing.
use Prim.Native.Nat.{ℕ, ◌+◌, ◌≤◌, ◌<◌}
use mathlib.Core.Path.{◌≡◌, refl, sym, ◌∙◌, ap, subst}
use mathlib.Core.List.{List, [], ◌++◌, map}
use native.Mathlib.Omega.{arith}
use native.Mathlib.Nat.{zero-add}
use lib.ListN.{length, drop, replicate, length-map, length-replicate}
use lib.Seq.{sets, length-sets, sets-eq}
use borrow.Author.Tests.{eq-eqb, ne_eqb, le-leb, lt-leb}
use Rattle.leb128.specs.Answer.{Answer, done, refused, within, left}
use Rattle.encoding.specs.Limit.{limit}
use Rattle.encoding.specs.Walk.{over, on, off, Trace, Ending, fault, outcome_of, outcome}
use Rattle.encoding.specs.Slots.{Decoded, decoding, Room, Wrote}
use Rattle.encoding.proofs.Lists.{map-replicate}
use Rattle.encoding.proofs.Walking.{Machine, rest, owes, owes-start, owes-on, owes-off, owes-over, fills, fills-on, fills-off, fills-over, run_room}

-- ---- room and writing, from one list of readings to an equal one

module _ {R B : Type 0} where
  pub room-eq : {xs ys : List R} {n : ℕ} {v : List B} {p : List ℕ} → xs ≡ ys → Room xs n v p → Room ys n v p
  room-eq {n = n} {v = v} {p = p} e r = subst (λ (zs : List R). Room zs n v p) e r

  pub room-same : (c n : ℕ) (x : R) {v : List B} {p : List ℕ} → Room (replicate c x) n v p → n + c ≤ length v
  room-same c n x r = omega (arith, r.room, length-replicate c x)

  pub wrote-eq : {f : R → B} {g : R → ℕ} {xs ys : List R} {n : ℕ} {v v' : List B} {p p' : List ℕ} → xs ≡ ys → Wrote f g xs n v v' p p' → Wrote f g ys n v v' p p'
  wrote-eq {f = f} {g = g} {n = n} {v = v} {v' = v'} {p = p} {p' = p'} e w = subst (λ (zs : List R). Wrote f g zs n v v' p p') e w

  pub wrote-same : (f : R → B) (g : R → ℕ) (x : R) (c n : ℕ) (v v' : List B) (p p' : List ℕ)
      → v' ≡ sets v n (replicate c (f x)) → p' ≡ sets p n (replicate c (g x)) → Wrote f g (replicate c x) n v v' p p'
  wrote-same f g x c n v v' p p' e h =
      record {
        values = e ∙ ap (sets v n) (sym (map-replicate f c x));
        flags = h ∙ ap (sets p n) (sym (map-replicate g c x));
      }

  pub wrote_none : (f : R → B) (g : R → ℕ) (n : ℕ) (v : List B) (p : List ℕ) → Wrote f g [] n v v p p
  wrote_none f g n v p = record { values = refl; flags = refl }

-- ---- what is owed at a state: the answer, and what both slices hold in the end

pub record Owed {R S B : Type 0} (M : Machine R S) (f : R → B) (g : R → ℕ) (st₀ : S) (v₀ v : List B) (p₀ p : List ℕ) (st : S) : Type 0 where
  pub capped : M.had st ≤ limit
  pub roomy : Room (rest M st).readings (M.had st) v p
  pub same-v : length v ≡ length v₀
  pub same-p : length p ≡ length p₀
  pub answer : owes M st₀ ≡ owes M st
  pub values : fills M f st₀ v₀ ≡ fills M f st v
  pub flags : fills M g st₀ p₀ ≡ fills M g st p

module _ {R S B : Type 0} (M : Machine R S) (f : R → B) (g : R → ℕ) (st₀ : S) (none : M.had st₀ ≡ 0) (v₀ : List B) (p₀ : List ℕ) where
  pub owed_start : Room (rest M st₀).readings 0 v₀ p₀ → Owed M f g st₀ v₀ v₀ p₀ p₀ st₀
  owed_start r =
      record {
        capped = omega arith;
        roomy = subst (λ (n : ℕ). Room (rest M st₀).readings n v₀ p₀) (sym none) r;
        same-v = refl;
        same-p = refl;
        answer = refl;
        values = refl;
        flags = refl;
      }

  at-start : {C : Type 0} (h : R → C) (l : List C) → fills M h st₀ l ≡ sets l 0 (map h (rest M st₀).readings)
  unfolding fills
  at-start h l = ap (λ (n : ℕ). sets l n (map h (rest M st₀).readings)) none

  module _ (v : List B) (p : List ℕ) (st : S) (o : Owed M f g st₀ v₀ v p₀ p st) where
    pub owed-room : Room (M.run st).readings (M.had st) v p
    owed-room =
        let e = run_room M st (M.run st).next refl in
        let r = o.roomy.room in
        record { room = omega arith; even = o.roomy.even }

    pub owed-on : (v' : List B) (p' : List ℕ) (z : S) → Wrote f g (M.run st).readings (M.had st) v v' p p' → (M.run st).next ≡ on z
        → Owed M f g st₀ v₀ v' p₀ p' z
    owed-on v' p' z w e =
        let lv : length v' ≡ length v = ap length w.values ∙ length-sets v (M.had st) (map f (M.run st).readings) in
        let lp : length p' ≡ length p = ap length w.flags ∙ length-sets p (M.had st) (map g (M.run st).readings) in
        let r = o.roomy.room in
        let c = M.counts st z e in
        let rr = run_room M st (on z) e in
        record {
          capped = M.capped st z e;
          roomy = record { room = omega arith; even = lp ∙ o.roomy.even ∙ sym lv };
          same-v = lv ∙ o.same-v;
          same-p = lp ∙ o.same-p;
          answer = o.answer ∙ owes-on M st z e;
          values = o.values ∙ fills-on M f st z v e ∙ ap (fills M f z) (sym w.values);
          flags = o.flags ∙ fills-on M g st z p e ∙ ap (fills M g z) (sym w.flags);
        }

    pub owed-off : (v' : List B) (p' : List ℕ) (number place : ℕ) → Wrote f g (M.run st).readings (M.had st) v v' p p'
        → (M.run st).next ≡ off number place → (refused number place ≡ outcome (rest M st₀)) × Wrote f g (rest M st₀).readings 0 v₀ v' p₀ p'
    owed-off v' p' number place w e = (
      sym (owes-start M st₀ none ∙ o.answer ∙ owes-off M st number place e),
      record {
        values = w.values ∙ sym (fills-off M f st number place v e) ∙ sym o.values ∙ at-start f v₀;
        flags = w.flags ∙ sym (fills-off M g st number place p e) ∙ sym o.flags ∙ at-start g p₀;
      },
    )

    pub owed-over : (M.run st).next ≡ over → (M.run st).readings ≡ [] → (done (M.had st) ≡ outcome (rest M st₀)) × Wrote f g (rest M st₀).readings 0 v₀ v p₀ p
    owed-over e r = (
      sym (owes-start M st₀ none ∙ o.answer ∙ owes-over M st e r),
      record {
        values = sym (fills-over M f st v e r) ∙ sym o.values ∙ at-start f v₀;
        flags = sym (fills-over M g st p e r) ∙ sym o.flags ∙ at-start g p₀;
      },
    )

-- ---- a whole column decoded: one law for each way out

sound-length : {R : Type 0} (t : Trace R) (n : ℕ) → outcome t ≡ done n → length t.readings ≡ n
unfolding outcome outcome_of
sound-length t n e = go t.ending e
  where
    go : (x : Ending) → outcome_of (length t.readings) x ≡ done n → length t.readings ≡ n
    go Ending.sound h = cc
    go (fault number place) h = let z : ◌≡◌ {A = ℕ} 0 1 = cc in absurd (omega arith)

put_front : {R B : Type 0} (f : R → B) (l : List B) (rs : List R) (n : ℕ) → length rs ≡ n → n ≤ length l → sets l 0 (map f rs) ≡ map f rs ++ drop n l
put_front f l rs n e h =
    let k : 0 + length (map f rs) ≡ n = zero-add (length (map f rs)) ∙ length-map rs f ∙ e in
    sets-eq (map f rs) l 0 (omega arith) ∙ ap (λ (j : ℕ). map f rs ++ drop j l) k

module _ {R B : Type 0} (t : Trace R) (f : R → B) (g : R → ℕ) (v : List B) (p : List ℕ) where
  pub decode-uneven : (length v ≡ length p → ⊥) → Decoded t f g v v p p (refused 8 0)
  unfolding decoding left
  decode-uneven h = record { answer = simp (ne_eqb (length v) (length p) h); values = refl; flags = refl }

  pub decode-fault : (number place : ℕ) → length v ≡ length p → outcome t ≡ refused number place → Decoded t f g v v p p (refused number place)
  unfolding decoding left within
  decode-fault number place h e = record { answer = simp (eq-eqb (length v) (length p) h, e); values = refl; flags = refl }

  pub decode-short : (n : ℕ) → length v ≡ length p → outcome t ≡ done n → length v < n → Decoded t f g v v p p (refused 9 0)
  unfolding decoding left within
  decode-short n h e l = record { answer = simp (eq-eqb (length v) (length p) h, e, lt-leb n (length v) l); values = refl; flags = refl }

  pub decode-room : (n : ℕ) → length v ≡ length p → outcome t ≡ done n → n ≤ length v → Room t.readings 0 v p
  decode-room n h e l = record { room = omega (arith, sound-length t n e); even = sym h }

  pub decode-done : (v' : List B) (p' : List ℕ) (n : ℕ) (o : Answer) → length v ≡ length p → outcome t ≡ done n → n ≤ length v
      → Wrote f g t.readings 0 v v' p p' → o ≡ outcome t → Decoded t f g v v' p p' o
  unfolding decoding left within
  decode-done v' p' n o h e l w k =
      let z = sound-length t n e in
      let oe : o ≡ done n = k ∙ e in
      record {
        answer = oe ∙ sym (simp (eq-eqb (length v) (length p) h, e, le-leb n (length v) l));
        values = w.values ∙ put_front f v t.readings n z l ∙ ap (λ (x : Answer). left x (map f t.readings) v) (sym oe);
        flags = w.flags ∙ put_front g p t.readings n z (omega arith) ∙ ap (λ (x : Answer). left x (map g t.readings) p) (sym oe);
      }
