-- HEADS DECIDE: where the count of the writer's next stretch stands in a sound column at a run's beginning, the run is that stretch, byte for byte, and behind it
-- the column reads as what the writer has still to write. So two forms of one list differ first within a count. Over any element; assumes nothing.
use Prim.Native.Nat.{ℕ, zero, suc, ◌+◌, ◌≤◌, ◌<◌}
use mathlib.Core.Logic.{◌⊎◌, inl, inr}
use mathlib.Core.Path.{◌≡◌, refl, sym, ◌∙◌, ap, subst}
use mathlib.Core.List.{List, [], ◌∷◌, ◌++◌, map}
use mathlib.Core.Option.{Option, none, some}
use mathlib.Core.Bool.{Bool, cond}
use native.Mathlib.Nat.{add-zero}
use native.Mathlib.Omega.{arith}
use lib.IntN.{ℤ, pos, negsuc}
use lib.ListN.{length, get_or, take, drop, replicate, length-append, length-replicate, length-map, take-append-drop}
use lib.Seq.{length-take-le}
use borrow.Author.Tests.{le-leb, ne_eqb}
use Rattle.leb128.specs.Got.{Got, got, bad}
use Rattle.leb128.specs.Read.{u64_at}
use Rattle.leb128.specs.Write.{u64_bytes, i64_bytes}
use Rattle.encoding.specs.Column.{Reading, absent, present, value, Spot, spot, ahead, repeated, literal_next, literals, run_of, run_at, trace_from}
use Rattle.encoding.specs.Element.{Element}
use Rattle.encoding.specs.Head.{Head, amiss, judged, absent_head, begun}
use Rattle.encoding.specs.Limit.{limit}
use Rattle.encoding.specs.Longest.{readings_in}
use Rattle.encoding.specs.Stretches.{Stretch}
use Rattle.encoding.specs.Walk.{Run, Next, on, off, whole, Trace, Ending, sound, fault, before, after, onward}
use Rattle.encoding.specs.Writer.{all_bytes, stretch_bytes}
use Rattle.encoding.proofs.Back.{u64-stands, begins}
use Rattle.encoding.proofs.Columns.{repeated-got, repeated-bad, trace-on}
use Rattle.encoding.proofs.Elements.{Stands, ElementLaws, stands-left, stands-right, stands-within}
use Rattle.encoding.proofs.Lists.{map-append, map-replicate}
use Rattle.encoding.proofs.Walking.{next-eq}
use Rattle.own_form.specs.Heads.{head_bytes}
use Rattle.own_form.proofs.Standing.{stands-join, read-stands}

-- ---- lists that begin alike

pub append-same : {X : Type 0} (us vs xs ys : List X) → length us ≡ length vs → us ++ xs ≡ vs ++ ys → (us ≡ vs) × (xs ≡ ys)
append-same [] [] xs ys l e = (refl, e)
append-same [] (v ∷ vs) xs ys l e = absurd (omega arith)
append-same (u ∷ us) [] xs ys l e = absurd (omega arith)
append-same (u ∷ us) (v ∷ vs) xs ys l e =
    let f : u ≡ v = cc in
    let g : us ++ xs ≡ vs ++ ys = cc in
    let k = append-same us vs xs ys (omega arith) g in
    (ap (λ (x : _). x ∷ us) f ∙ ap (λ (l : List _). v ∷ l) k.0, k.1)

module _ {A : Type 0} (E : Element A) (L : ElementLaws E) (s : List ℕ) (B : (i : ℕ) → get_or s i 0 < 256) where
  -- what comes behind the bytes w of a run at p, which has n readings: ys, soundly
  pub record Follows (p had : ℕ) (w : List ℕ) (n : ℕ) (ys : List (Option A)) : Type 0 where
    pub stands : Stands s p w
    pub next : (run_at E s (spot p had)).next ≡ on (spot (p + length w) (had + n))
    pub rest : map value (trace_from E s (spot (p + length w) (had + n))).readings ≡ ys
    pub sound : (trace_from E s (spot (p + length w) (had + n))).ending ≡ Ending.sound

  -- a run that is whole, in front of the rest of a sound column
  behind-run : (p had : ℕ) (rs : List (Reading A)) (z : Spot) → run_at E s (spot p had) ≡ whole rs z
      → trace_from E s (spot p had) ≡ before rs (trace_from E s z)
  behind-run p had rs z e = trace-on E L s (spot p had) ∙ ap (λ (r : Run (Reading A) Spot). onward r (λ z. trace_from E s z)) e

  -- a run that has a fault is none of a sound column
  faulty : (p had number place : ℕ) → (run_at E s (spot p had)).next ≡ off number place → (trace_from E s (spot p had)).ending ≡ sound → ⊥
  faulty p had number place e h =
      let k : (trace_from E s (spot p had)).ending ≡ fault number place =
      ap (λ (t : Trace (Reading A)). t.ending) (trace-on E L s (spot p had)) ∙ ap (λ (x : Next Spot). (after x (λ z. trace_from E s z)).ending) e in
      let j : sound ≡ fault number place = sym h ∙ k in
      let z : ◌≡◌ {A = ℕ} 0 1 = cc in omega arith

  -- ---- absent readings

  pub absent-follows : (p had n : ℕ) (ys : List (Option A)) → had + n ≤ limit → Stands s p (head_bytes {A = A} (Stretch.absent n))
      → (trace_from E s (spot p had)).ending ≡ sound → map value (trace_from E s (spot p had)).readings ≡ replicate n none ++ ys
      → Follows p had (stretch_bytes E (Stretch.absent n)) n ys
  unfolding head_bytes stretch_bytes run_of begun absent_head value
  absent-follows p had n ys m h o e =
      let c : List ℕ = i64_bytes (pos 0) in
      let q : ℕ = p + length c in
      let z : ℕ = q + length (u64_bytes n) in
      let u : u64_at s q ≡ got n z = u64-stands s q n (omega arith) (stands-right s p c (u64_bytes n) h) in
      let r : run_at E s (spot p had) ≡ whole (replicate n absent) (spot z (had + n)) =
      begins E s p had (pos 0) (omega arith) (stands-left s p c (u64_bytes n) h)
      ∙ ap (λ (g : Got ℕ). run_of E s had (absent_head had q g)) u
      ∙ ap (λ (t : Bool). run_of E s had (cond t (Head.absent n z) (amiss 5 q))) (le-leb (had + n) limit m) in
      let t = behind-run p had (replicate n absent) (spot z (had + n)) r in
      let w : z ≡ p + length (c ++ u64_bytes n) = omega (arith, length-append c (u64_bytes n)) in
      let b : replicate n none ++ map value (trace_from E s (spot z (had + n))).readings ≡ replicate n none ++ ys =
      ap (λ (l : List (Option A)). l ++ map value (trace_from E s (spot z (had + n))).readings) (sym (map-replicate value n absent))
      ∙ sym (map-append value (replicate n absent) (trace_from E s (spot z (had + n))).readings)
      ∙ ap (λ (t : Trace (Reading A)). map value t.readings) (sym t) ∙ e in
      record {
        stands = h;
        next = next-eq r ∙ ap (λ (k : ℕ). on (spot k (had + n))) w;
        rest = ap (λ (k : ℕ). map value (trace_from E s (spot k (had + n))).readings) (sym w) ∙ (append-same (replicate n none) (replicate n none) _ ys refl b).1;
        sound = ap (λ (k : ℕ). (trace_from E s (spot k (had + n))).ending) (sym w) ∙ ap (λ (t : Trace (Reading A)). t.ending) (sym t) ∙ o;
      }

  -- ---- one value some times

  pub repeat-follows : (p had n : ℕ) (a : A) (ys : List (Option A)) → 0 < n → had + n ≤ limit → Stands s p (head_bytes (Stretch.repeat n a))
      → (trace_from E s (spot p had)).ending ≡ sound → map value (trace_from E s (spot p had)).readings ≡ replicate n (some a) ++ ys
      → Follows p had (stretch_bytes E (Stretch.repeat n a)) n ys
  unfolding head_bytes stretch_bytes run_of begun value
  repeat-follows p had n a ys l m h o e = go (E.read s q) refl
    where
      q : ℕ
      q = p + length (i64_bytes (pos n))

      run : run_at E s (spot p had) ≡ repeated had n q (E.read s q)
      run =
          begins E s p had (pos n) (omega arith) h
          ∙ ap (λ (t : Bool). run_of E s had (cond t (absent_head had q (u64_at s q)) (judged had n p (Head.repeat n q)))) (ne_eqb n 0 (λ z. omega arith))
          ∙ ap (λ (t : Bool). run_of E s had (cond t (Head.repeat n q) (amiss 5 p))) (le-leb (had + n) limit m)

      first : (k : ℕ) (b : A) → 0 < k → replicate k (some b) ≡ replicate k (some a) → b ≡ a
      first zero b l f = absurd (omega arith)
      first (suc k) b l f = let g : some b ≡ some a = cc in cc

      go : (g : Got A) → E.read s q ≡ g → Follows p had (i64_bytes (pos n) ++ E.write a) n ys
      go (bad number place) f = absurd (faulty p had number place (next-eq (run ∙ repeated-bad had n q number place (E.read s q) f)) o)
      go (got b z) f =
          let t = behind-run p had (replicate n (present b q)) (spot z (had + n)) (run ∙ repeated-got had n q z b (E.read s q) f) in
          let c : replicate n (some b) ++ map value (trace_from E s (spot z (had + n))).readings ≡ replicate n (some a) ++ ys =
          ap (λ (l : List (Option A)). l ++ map value (trace_from E s (spot z (had + n))).readings) (sym (map-replicate value n (present b q)))
          ∙ sym (map-append value (replicate n (present b q)) (trace_from E s (spot z (had + n))).readings)
          ∙ ap (λ (t : Trace (Reading A)). map value t.readings) (sym t) ∙ e in
          let k = append-same (replicate n (some b)) (replicate n (some a)) _ ys (length-replicate n (some b) ∙ sym (length-replicate n (some a))) c in
          let ba : b ≡ a = first n b l k.0 in
          let r = read-stands E L s B q z b f in
          let v : Stands s q (E.write a) = subst (λ (x : A). Stands s q (E.write x)) ba r.0 in
          let w : z ≡ p + length (i64_bytes (pos n) ++ E.write a) = omega (arith, r.1, ap (λ (x : A). length (E.write x)) ba, length-append (i64_bytes (pos n)) (E.write a)) in
          record {
            stands = stands-join s p (i64_bytes (pos n)) (E.write a) h v;
            next = next-eq (run ∙ repeated-got had n q z b (E.read s q) f) ∙ ap (λ (k : ℕ). on (spot k (had + n))) w;
            rest = ap (λ (k : ℕ). map value (trace_from E s (spot k (had + n))).readings) (sym w) ∙ k.1;
            sound = ap (λ (k : ℕ). (trace_from E s (spot k (had + n))).ending) (sym w) ∙ ap (λ (t : Trace (Reading A)). t.ending) (sym t) ∙ o;
          }

  -- ---- literal values

  -- so many values from q on: those of l, whose encodings stand there
  record Literal (total c q : ℕ) : Type 0 where
    values : List A
    count : length values ≡ c
    stands : Stands s q (all_bytes E values)
    readings : List (Reading A)
    same : map value readings ≡ map some values
    run : literals E s total c q ≡ whole readings (spot (q + length (all_bytes E values)) total)

  -- or one of them cannot be read
  literal-whole : (total c q : ℕ) → q ≤ length s → Literal total c q ⊎ ((number : ℕ) × (place : ℕ) × ((literals E s total c q).next ≡ off number place))
  unfolding literals literal_next all_bytes value
  literal-whole total zero q l =
      inl (
      record {
        values = [];
        count = refl;
        stands = record { pre = take q s; post = drop q s; split = sym (take-append-drop q s); place = length-take-le q s l };
        readings = [];
        same = refl;
        run = ap (λ (k : ℕ). whole [] (spot k total)) (sym (add-zero q));
      })
  literal-whole total (suc c) q l = go (E.read s q) refl (λ z k. literal-whole total c z k)
    where
      go : (g : Got A) → E.read s q ≡ g
          → ((z : ℕ) → z ≤ length s → Literal total c z ⊎ ((number : ℕ) × (place : ℕ) × ((literals E s total c z).next ≡ off number place)))
          → Literal total (suc c) q ⊎ ((number : ℕ) × (place : ℕ) × ((literal_next q (E.read s q) (λ z. literals E s total c z)).next ≡ off number place))
      go (bad number place) e k = inr (number, place, ap (λ (g : Got A). (literal_next q g (λ z. literals E s total c z)).next) e)
      go (got a z) e k = more (k z (L.within s q z a e))
        where
          r : Stands s q (E.write a) × (z ≡ q + length (E.write a))
          r = read-stands E L s B q z a e

          more : Literal total c z ⊎ ((number : ℕ) × (place : ℕ) × ((literals E s total c z).next ≡ off number place))
              → Literal total (suc c) q ⊎ ((number : ℕ) × (place : ℕ) × ((literal_next q (E.read s q) (λ z. literals E s total c z)).next ≡ off number place))
          more (inr x) = inr (x.0, x.1, ap (λ (g : Got A). (literal_next q g (λ z. literals E s total c z)).next) e ∙ x.2)
          more (inl x) =
              let w : z + length (all_bytes E x.values) ≡ q + length (E.write a ++ all_bytes E x.values) =
              omega (arith, r.1, length-append (E.write a) (all_bytes E x.values)) in
              inl (
              record {
                values = a ∷ x.values;
                count = ap suc x.count;
                stands = stands-join s q (E.write a) (all_bytes E x.values) r.0 (subst (λ (k : ℕ). Stands s k (all_bytes E x.values)) r.1 x.stands);
                readings = present a q ∷ x.readings;
                same = ap (λ (l : List (Option A)). some a ∷ l) x.same;
                run = ap (λ (g : Got A). literal_next q g (λ z. literals E s total c z)) e
                    ∙ ap (λ (r : Run (Reading A) Spot). ahead (present a q) r) x.run
                    ∙ ap (λ (k : ℕ). whole (present a q ∷ x.readings) (spot k total)) w;
              })

  pub literal-follows : (p had : ℕ) (a : A) (more : List A) (ys : List (Option A)) → had + suc (length more) ≤ limit
      → Stands s p (head_bytes (Stretch.literal a more)) → (trace_from E s (spot p had)).ending ≡ sound
      → map value (trace_from E s (spot p had)).readings ≡ map some (a ∷ more) ++ ys
      → Follows p had (stretch_bytes E (Stretch.literal a more)) (suc (length more)) ys
  unfolding head_bytes stretch_bytes run_of begun value
  literal-follows p had a more ys m h o e = go (literal-whole (had + n) n q (stands-within s p (i64_bytes x) h))
    where
      n : ℕ
      n = suc (length more)

      x : ℤ
      x = negsuc (length more)

      q : ℕ
      q = p + length (i64_bytes x)

      run : run_at E s (spot p had) ≡ literals E s (had + n) n q
      run =
          begins E s p had x (omega arith) h
          ∙ ap (λ (t : Bool). run_of E s had (cond t (Head.literal n q) (amiss 5 p))) (le-leb (had + n) limit m)

      somes : (l k : List A) → map some l ≡ map some k → l ≡ k
      somes [] [] f = refl
      somes [] (b ∷ k) f = let z : ◌≡◌ {A = ℕ} 0 1 = cc in absurd (omega arith)
      somes (b ∷ l) [] f = let z : ◌≡◌ {A = ℕ} 0 1 = cc in absurd (omega arith)
      somes (b ∷ l) (d ∷ k) f =
          let g : b ≡ d = cc in
          let j : map some l ≡ map some k = cc in
          ap (λ (x : A). x ∷ l) g ∙ ap (λ (m : List A). d ∷ m) (somes l k j)

      go : Literal (had + n) n q ⊎ ((number : ℕ) × (place : ℕ) × ((literals E s (had + n) n q).next ≡ off number place))
          → Follows p had (i64_bytes x ++ all_bytes E (a ∷ more)) n ys
      go (inr y) = absurd (faulty p had y.0 y.1 (next-eq run ∙ y.2) o)
      go (inl y) =
          let z : ℕ = q + length (all_bytes E y.values) in
          let t = behind-run p had y.readings (spot z (had + n)) (run ∙ y.run) in
          let c : map some y.values ++ map value (trace_from E s (spot z (had + n))).readings ≡ map some (a ∷ more) ++ ys =
          ap (λ (l : List (Option A)). l ++ map value (trace_from E s (spot z (had + n))).readings) (sym y.same)
          ∙ sym (map-append value y.readings (trace_from E s (spot z (had + n))).readings)
          ∙ ap (λ (t : Trace (Reading A)). map value t.readings) (sym t) ∙ e in
          let j : length (map some y.values) ≡ length (map some (a ∷ more)) = length-map y.values some ∙ y.count ∙ sym (length-map (a ∷ more) some) in
          let k = append-same (map some y.values) (map some (a ∷ more)) _ ys j c in
          let f : y.values ≡ a ∷ more = somes y.values (a ∷ more) k.0 in
          let v : Stands s q (all_bytes E (a ∷ more)) = subst (λ (l : List A). Stands s q (all_bytes E l)) f y.stands in
          let w : z ≡ p + length (i64_bytes x ++ all_bytes E (a ∷ more)) =
          omega (arith, ap (λ (l : List A). length (all_bytes E l)) f, length-append (i64_bytes x) (all_bytes E (a ∷ more))) in
          record {
            stands = stands-join s p (i64_bytes x) (all_bytes E (a ∷ more)) h v;
            next = next-eq (run ∙ y.run) ∙ ap (λ (k : ℕ). on (spot k (had + n))) w;
            rest = ap (λ (k : ℕ). map value (trace_from E s (spot k (had + n))).readings) (sym w) ∙ k.1;
            sound = ap (λ (k : ℕ). (trace_from E s (spot k (had + n))).ending) (sym w) ∙ ap (λ (t : Trace (Reading A)). t.ending) (sym t) ∙ o;
          }

  -- ---- any stretch

  pub follows : (p had : ℕ) (x : Stretch A) (ys : List (Option A)) → 0 < length (readings_in x) → had + length (readings_in x) ≤ limit
      → Stands s p (head_bytes x) → (trace_from E s (spot p had)).ending ≡ sound
      → map value (trace_from E s (spot p had)).readings ≡ readings_in x ++ ys
      → Follows p had (stretch_bytes E x) (length (readings_in x)) ys
  unfolding readings_in
  follows p had (Stretch.absent n) ys l m h o e =
      let k : length {A = Option A} (replicate n none) ≡ n = length-replicate n none in
      subst (λ (j : ℕ). Follows p had (stretch_bytes E (Stretch.absent n)) j ys) (sym k) (absent-follows p had n ys (omega arith) h o e)
  follows p had (Stretch.repeat n a) ys l m h o e =
      let k : length (replicate n (some a)) ≡ n = length-replicate n (some a) in
      subst (λ (j : ℕ). Follows p had (stretch_bytes E (Stretch.repeat n a)) j ys) (sym k) (repeat-follows p had n a ys (omega arith) (omega arith) h o e)
  follows p had (Stretch.literal a more) ys l m h o e =
      let k : length (map some (a ∷ more)) ≡ suc (length more) = length-map (a ∷ more) some in
      subst (λ (j : ℕ). Follows p had (stretch_bytes E (Stretch.literal a more)) j ys) (sym k) (literal-follows p had a more ys (omega arith) h o e)
