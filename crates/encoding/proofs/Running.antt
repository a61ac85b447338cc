-- A run put into slots, over any kind of reading and any state: by the run that it is found to be, or one reading at a time. Assumes nothing.
use Prim.Native.Nat.{ℕ, ◌+◌, ◌<◌}
use mathlib.Core.Path.{◌≡◌, refl, sym, ◌∙◌, ap}
use mathlib.Core.List.{List, [], map}
use native.Mathlib.Numerals.{add-one}
use native.Mathlib.Omega.{arith}
use lib.ListN.{length, set, length-set}
use lib.Seq.{sets}
use Rattle.encoding.specs.Walk.{Run, Next}
use Rattle.encoding.specs.Column.{ahead}
use Rattle.encoding.specs.Slots.{Room, Wrote}
use Rattle.encoding.proofs.Walking.{next-eq, readings-eq}
use Rattle.encoding.proofs.Filling.{wrote-eq}

module _ {R S B : Type 0} (f : R → B) (l : List B) (n : ℕ) {r t : Run R S} where
  put-eq : r ≡ t → sets l n (map f r.readings) ≡ sets l n (map f t.readings)
  put-eq e = ap (λ (r : Run R S). sets l n (map f r.readings)) e

  put_first : {x : R} → r ≡ ahead x t → sets l n (map f r.readings) ≡ sets (set l n (f x)) (n + 1) (map f t.readings)
  put_first {x = x} e =
      ap (λ (r : Run R S). sets l n (map f r.readings)) e
      ∙ ap (λ (k : ℕ). sets (set l n (f x)) k (map f t.readings)) (sym (add-one n))

-- what was done for a run was done for an equal one
pub wrote-run : {R S B : Type 0} {f : R → B} {g : R → ℕ} {r t : Run R S} {y : Next S} {n : ℕ} {v v' : List B} {p p' : List ℕ}
    → r ≡ t → y ≡ t.next → Wrote f g t.readings n v v' p p' → (y ≡ r.next) × Wrote f g r.readings n v v' p p'
wrote-run e k w = (k ∙ sym (next-eq e), wrote-eq (sym (readings-eq e)) w)

-- of the run r, due from n₀ on, the part t is still to come, from n on: put into the slots as they are, it makes them hold the whole run
pub record Partly {R S B : Type 0} (f : R → B) (g : R → ℕ) (r : Run R S) (n₀ : ℕ) (v₀ : List B) (p₀ : List ℕ)
    (t : Run R S) (n : ℕ) (v : List B) (p : List ℕ) : Type 0 where
  pub roomy : Room t.readings n v p
  pub same-v : length v ≡ length v₀
  pub same-p : length p ≡ length p₀
  pub next : r.next ≡ t.next
  pub values : sets v₀ n₀ (map f r.readings) ≡ sets v n (map f t.readings)
  pub flags : sets p₀ n₀ (map g r.readings) ≡ sets p n (map g t.readings)

module _ {R S B : Type 0} {f : R → B} {g : R → ℕ} {r : Run R S} {n₀ : ℕ} {v₀ : List B} {p₀ : List ℕ} where
  pub partly-start : Room r.readings n₀ v₀ p₀ → Partly f g r n₀ v₀ p₀ r n₀ v₀ p₀
  partly-start h = record { roomy = h; same-v = refl; same-p = refl; next = refl; values = refl; flags = refl }

  module _ {t : Run R S} {n : ℕ} {v : List B} {p : List ℕ} (h : Partly f g r n₀ v₀ p₀ t n v p) where
    -- a reading comes first: there is a slot for it, and with it put in, the rest is to come
    module _ {x : R} {t' : Run R S} (e : t ≡ ahead x t') where
      pub partly-room : n < length v
      partly-room = omega (arith, h.roomy.room, ap length (readings-eq e))

      pub partly-on : Partly f g r n₀ v₀ p₀ t' (n + 1) (set v n (f x)) (set p n (g x))
      partly-on =
          record {
            roomy = record {
              room = simp length-set (omega (arith, h.roomy.room, ap length (readings-eq e)));
              even = simp length-set h.roomy.even;
            };
            same-v = simp length-set h.same-v;
            same-p = simp length-set h.same-p;
            next = h.next ∙ next-eq e;
            values = h.values ∙ put_first f v n e;
            flags = h.flags ∙ put_first g p n e;
          }

    -- no reading comes any more
    pub partly-end : {y : Next S} → t ≡ record { readings = []; next = y } → (y ≡ r.next) × Wrote f g r.readings n₀ v₀ v p₀ p
    partly-end e = (
      sym (h.next ∙ next-eq e),
      record { values = sym (h.values ∙ put-eq f v n e); flags = sym (h.flags ∙ put-eq g p n e) },
    )
