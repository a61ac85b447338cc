-- THE ROUND TRIP, over any element: what the writer writes reads soundly as the list that was written; a list with no value present writes
-- nothing, and nothing reads as the empty list. Assumes nothing.
use Prim.Native.Nat.{ℕ, zero, suc, ◌+◌, ◌^◌, ◌≤◌, ◌<◌}
use mathlib.Core.Path.{◌≡◌, refl, sym, ◌∙◌, ap}
use mathlib.Core.List.{List, [], ◌∷◌, ◌++◌, map, append-nil}
use mathlib.Core.Option.{Option, none, some}
use mathlib.Core.Bool.{Bool, true, false, cond}
use native.Mathlib.Omega.{arith}
use native.Mathlib.Nat.{add-zero, zero-add, add_assoc}
use lib.ListN.{length, replicate, length-append, length-replicate, length-map}
use lib.IntN.{ℤ, pos, negsuc}
use lib.Signed.{mag}
use borrow.Author.Tests.{le-leb, ne_eqb}
use Rattle.leb128.specs.Got.{Got, got}
use Rattle.leb128.specs.Read.{u64_at, i64_at}
use Rattle.leb128.specs.Write.{u64_bytes, i64_bytes}
use Rattle.leb128.proofs.Laws.{u64-back, i64-back, i64-short}
use Rattle.encoding.specs.Limit.{limit}
use Rattle.encoding.specs.Walk.{Run, over, on, whole, stop, Trace, Ending, walk, before, after}
use Rattle.encoding.specs.Element.{Element}
use Rattle.encoding.specs.Head.{Head, amiss, judged, absent_head, begun, head_at}
use Rattle.encoding.specs.Column.{Reading, absent, present, value, Spot, spot, ahead, literal_next, literals, run_of, run_at, trace_from, trace}
use Rattle.encoding.specs.Stretches.{Stretch, stretches}
use Rattle.encoding.specs.Longest.{readings_in, readings_of, Longest}
use Rattle.encoding.specs.Writer.{all_bytes, stretch_bytes, stretches_bytes, any_present, column_bytes}
use Rattle.encoding.proofs.Lists.{map-append, map-replicate}
use Rattle.encoding.proofs.Elements.{Stands, ElementLaws, stands-left, stands-right, stands-within, stands_read}
use Rattle.encoding.proofs.Walking.{rest, rest-is, next-eq, readings-eq}
use Rattle.encoding.proofs.Columns.{columns, trace-rest, run-head, run_end, repeated-got}
use Rattle.encoding.proofs.Cut.{cut-whole, cut-longest}

-- ---- the numbers of a run read back

pub u64-stands : (s : List ℕ) (p n : ℕ) → n < 2 ^ 64 → Stands s p (u64_bytes n) → u64_at s p ≡ got n (p + length (u64_bytes n))
u64-stands s p n l h = stands_read u64_at (got n) (u64_bytes n) (λ pre post. u64-back pre post n l) s p h

i64-stands : (s : List ℕ) (p : ℕ) (x : ℤ) → mag x < 2 ^ 63 → Stands s p (i64_bytes x) → i64_at s p ≡ got x (p + length (i64_bytes x))
i64-stands s p x l h = stands_read i64_at (got x) (i64_bytes x) (λ pre post. i64-back pre post x l) s p h

-- the run that a count begins
pub begins : {A : Type 0} (E : Element A) (s : List ℕ) (p n : ℕ) (x : ℤ) → mag x < 2 ^ 63 → Stands s p (i64_bytes x)
    → run_at E s (spot p n) ≡ run_of E s n (begun s p n (got x (p + length (i64_bytes x))))
unfolding head_at
begins E s p n x f h =
    let l : p < length s = omega (arith, stands-within s p (i64_bytes x) h, i64-short x) in
    run-head E s p n _ l (ap (λ (g : Got ℤ). begun s p n g) (i64-stands s p x f h))

-- ---- which lists the writer takes

abbrev AllFit : {A : Type 0} → Element A → List A → Type 0
AllFit E [] = Unit {0}
AllFit E (a ∷ l) = (E.fits a ≡ true) × AllFit E l

-- each value that is present is one that the element writes
abbrev pub ListFits : {A : Type 0} → Element A → List (Option A) → Type 0
ListFits E [] = Unit {0}
ListFits E (none ∷ xs) = ListFits E xs
ListFits E (some a ∷ xs) = (E.fits a ≡ true) × ListFits E xs

-- and so in each stretch of a longest cut, which has a reading at least
abbrev Fit : {A : Type 0} → Element A → Stretch A → Type 0
Fit E (Stretch.absent n) = Unit {0}
Fit E (Stretch.repeat n a) = (0 < n) × (E.fits a ≡ true)
Fit E (Stretch.literal a more) = AllFit E (a ∷ more)

abbrev FitAll : {A : Type 0} → Element A → List (Stretch A) → Type 0
FitAll E [] = Unit {0}
FitAll E (x ∷ r) = Fit E x × FitAll E r

module _ {A : Type 0} (E : Element A) where
  fits-none : (n : ℕ) (xs : List (Option A)) → ListFits E (replicate n none ++ xs) → ListFits E xs
  fits-none zero xs h = h
  fits-none (suc n) xs h = fits-none n xs h

  fits-some : (n : ℕ) (a : A) (xs : List (Option A)) → ListFits E (replicate n (some a) ++ xs) → ListFits E xs
  fits-some zero a xs h = h
  fits-some (suc n) a xs h = fits-some n a xs h.1

  fits-literal : (l : List A) (xs : List (Option A)) → ListFits E (map some l ++ xs) → AllFit E l × ListFits E xs
  fits-literal [] xs h = (tt, h)
  fits-literal (a ∷ l) xs h = let k = fits-literal l xs h.1 in ((h.0, k.0), k.1)

  fit_all : (ss : List (Stretch A)) → Longest ss → ListFits E (readings_of ss) → FitAll E ss
  unfolding readings_of readings_in
  fit_all [] h f = tt
  fit_all (Stretch.absent n ∷ r) h f = (tt, fit_all r h.2 (fits-none n (readings_of r) f))
  fit_all (Stretch.repeat zero a ∷ r) h f = absurd (omega arith)
  fit_all (Stretch.repeat (suc n) a ∷ r) h f = ((omega arith, f.0), fit_all r h.2 (fits-some n a (readings_of r) f.1))
  fit_all (Stretch.literal a more ∷ r) h f = let k = fits-literal (a ∷ more) (readings_of r) f in (k.0, fit_all r h.2 k.1)

-- ---- a stretch's bytes read as its run

spot-eq : {p q n m : ℕ} → p ≡ q → n ≡ m → spot p n ≡ spot q m
spot-eq e f = λ i. spot (e i) (f i)

join-sum : (p : ℕ) (a b : List ℕ) → p + length a + length b ≡ p + length (a ++ b)
join-sum p a b = omega (arith, length-append a b)

-- the readings of a run that stands for xs
abbrev Reads : {A : Type 0} → Run (Reading A) Spot → ℕ → ℕ → List (Option A) → Type 0
Reads {A} r p n xs = (rs : List (Reading A)) × (r ≡ whole rs (spot p (n + length xs))) × (map value rs ≡ xs)

module _ {A : Type 0} (E : Element A) (L : ElementLaws E) (s : List ℕ) where
  literals-back : (total q : ℕ) (l : List A) → AllFit E l → Stands s q (all_bytes E l)
      → (rs : List (Reading A)) × (literals E s total (length l) q ≡ whole rs (spot (q + length (all_bytes E l)) total)) × (map value rs ≡ map some l)
  unfolding literals literal_next all_bytes value
  literals-back total q [] f h = ([], ap (λ (k : ℕ). whole [] (spot k total)) (sym (add-zero q)), refl)
  literals-back total q (a ∷ l) f h =
      let q' : ℕ = q + length (E.write a) in
      let e : E.read s q ≡ got a q' = L.back s q a f.0 (stands-left s q (E.write a) (all_bytes E l) h) in
      let ih = literals-back total q' l f.1 (stands-right s q (E.write a) (all_bytes E l) h) in (
        present a q ∷ ih.0,
        ap (λ (g : Got A). literal_next q g (λ next. literals E s total (length l) next)) e
            ∙ ap (λ (r : Run (Reading A) Spot). ahead (present a q) r) ih.1
            ∙ ap (λ (k : ℕ). whole (present a q ∷ ih.0) (spot k total))
            (add_assoc q (length (E.write a)) (length (all_bytes E l)) ∙ ap (λ (k : ℕ). q + k) (sym (length-append (E.write a) (all_bytes E l)))),
        ap (λ (r : List (Option A)). some a ∷ r) ih.2,
      )

  head-back : (p n : ℕ) (x : ℤ) (w : List ℕ) → mag x < 2 ^ 63 → Stands s p (i64_bytes x ++ w)
      → run_at E s (spot p n) ≡ run_of E s n (begun s p n (got x (p + length (i64_bytes x))))
  head-back p n x w f h = begins E s p n x f (stands-left s p (i64_bytes x) w h)

  run-back : (p n : ℕ) (x : Stretch A) → Fit E x → n + length (readings_in x) ≤ limit → Stands s p (stretch_bytes E x)
      → Reads (run_at E s (spot p n)) (p + length (stretch_bytes E x)) n (readings_in x)
  unfolding stretch_bytes readings_in run_of begun absent_head value
  run-back p n (Stretch.absent k) f m h =
      let q : ℕ = p + length (i64_bytes (pos 0)) in
      let lk : length {A = Option A} (replicate k none) ≡ k = length-replicate k none in (
        replicate k absent,
        head-back p n (pos 0) (u64_bytes k) (omega arith) h
            ∙ ap (λ (g : Got ℕ). run_of E s n (absent_head n q g)) (u64-stands s q k (omega arith) (stands-right s p (i64_bytes (pos 0)) (u64_bytes k) h))
            ∙ ap (λ (t : Bool). run_of E s n (cond t (Head.absent k (q + length (u64_bytes k))) (amiss 5 q))) (le-leb (n + k) limit (omega arith))
            ∙ ap (λ (z : Spot). whole (replicate k absent) z) (spot-eq (join-sum p (i64_bytes (pos 0)) (u64_bytes k)) (ap (λ (j : ℕ). n + j) (sym lk))),
        map-replicate value k absent,
      )
  run-back p n (Stretch.repeat k a) f m h =
      let q : ℕ = p + length (i64_bytes (pos k)) in
      let lk : length (replicate k (some a)) ≡ k = length-replicate k (some a) in (
        replicate k (present a q),
        head-back p n (pos k) (E.write a) (omega arith) h
            ∙ ap (λ (t : Bool). run_of E s n (cond t (absent_head n q (u64_at s q)) (judged n k p (Head.repeat k q)))) (ne_eqb k 0 (λ e. omega arith))
            ∙ ap (λ (t : Bool). run_of E s n (cond t (Head.repeat k q) (amiss 5 p))) (le-leb (n + k) limit (omega arith))
            ∙ repeated-got n k q _ a _ (L.back s q a f.1 (stands-right s p (i64_bytes (pos k)) (E.write a) h))
            ∙ ap (λ (z : Spot). whole (replicate k (present a q)) z)
            (spot-eq (join-sum p (i64_bytes (pos k)) (E.write a)) (ap (λ (j : ℕ). n + j) (sym lk))),
        map-replicate value k (present a q),
      )
  run-back p n (Stretch.literal a more) f m h =
      let k : ℕ = suc (length more) in
      let x : ℤ = negsuc (length more) in
      let q : ℕ = p + length (i64_bytes x) in
      let lk : suc (length (map some more)) ≡ k = ap suc (length-map more some) in
      let sb = literals-back (n + k) q (a ∷ more) f (stands-right s p (i64_bytes x) (all_bytes E (a ∷ more)) h) in (
        sb.0,
        head-back p n x (all_bytes E (a ∷ more)) (omega arith) h
            ∙ ap (λ (t : Bool). run_of E s n (cond t (Head.literal k q) (amiss 5 p))) (le-leb (n + k) limit (omega arith))
            ∙ sb.1
            ∙ ap (λ (z : Spot). whole sb.0 z)
            (spot-eq (join-sum p (i64_bytes x) (all_bytes E (a ∷ more))) (ap (λ (j : ℕ). n + j) (sym lk))),
        sb.2,
      )

  -- stretches that fill the rest of the bytes read as their list
  rest_back : (p n : ℕ) (r : List (Stretch A)) → FitAll E r → n + length (readings_of r) ≤ limit → Stands s p (stretches_bytes E r)
      → p + length (stretches_bytes E r) ≡ length s
      → (map value (rest (columns E L s) (spot p n)).readings ≡ readings_of r) × ((rest (columns E L s) (spot p n)).ending ≡ Ending.sound)
  unfolding stretches_bytes readings_of
  rest_back p n [] f m h e =
      let t : run_at E s (spot p n) ≡ stop = run_end E s p n (omega arith) in
      let g = rest-is (columns E L s) (spot p n) over (next-eq t) ∙ ap (λ (xs : List (Reading A)). before xs (after over (rest (columns E L s)))) (readings-eq t) in
      (ap (λ (t : Trace (Reading A)). map value t.readings) g, ap (λ (t : Trace (Reading A)). t.ending) g)
  rest_back p n (x ∷ r) f m h e =
      let la = length-append (readings_in x) (readings_of r) in
      let rb = run-back p n x f.0 (omega arith) (stands-left s p (stretch_bytes E x) (stretches_bytes E r) h) in
      let q : ℕ = p + length (stretch_bytes E x) in
      let k : ℕ = n + length (readings_in x) in
      let ih = rest_back q k r f.1 (omega arith) (stands-right s p (stretch_bytes E x) (stretches_bytes E r) h)
      (omega (arith, length-append (stretch_bytes E x) (stretches_bytes E r))) in
      let g = rest-is (columns E L s) (spot p n) (on (spot q k)) (next-eq rb.1) ∙ ap (λ (xs : List (Reading A)). before xs (rest (columns E L s) (spot q k))) (readings-eq rb.1) in (
        ap (λ (t : Trace (Reading A)). map value t.readings) g
            ∙ map-append value rb.0 (rest (columns E L s) (spot q k)).readings
            ∙ ap (λ (l : List (Option A)). l ++ map value (rest (columns E L s) (spot q k)).readings) rb.2
            ∙ ap (λ (l : List (Option A)). readings_in x ++ l) ih.0,
        ap (λ (t : Trace (Reading A)). t.ending) g ∙ ih.1,
      )

-- a list within the limit that has a value present reads back soundly as itself
pub round_trip : {A : Type 0} (E : Element A) (L : ElementLaws E) (xs : List (Option A)) → any_present xs ≡ true → ListFits E xs → length xs ≤ limit
    → (map value (trace E (column_bytes E xs)).readings ≡ xs) × ((trace E (column_bytes E xs)).ending ≡ Ending.sound)
unfolding column_bytes
round_trip {A} E L xs e f m =
    let r = stretches E.same xs in
    let s = stretches_bytes E r in
    let h = cut-whole E.same L.same-eq L.same_self xs in
    let w = fit_all E r (cut-longest E.same L.same-eq L.same_self xs) (rw h f) in
    let b = rest_back E L s 0 0 r w (omega (arith, ap length h))
    (record { pre = []; post = []; split = sym (append-nil s); place = refl }) (zero-add (length s)) in
    let t = trace-rest E L s in
    rw e
    (ap (λ (t : Trace (Reading A)). map value t.readings) t ∙ b.0 ∙ h, ap (λ (t : Trace (Reading A)). t.ending) t ∙ b.1)

-- a list with no value present writes nothing
pub no_value : {A : Type 0} (E : Element A) (xs : List (Option A)) → any_present xs ≡ false → column_bytes E xs ≡ []
unfolding column_bytes
no_value E xs e = rw e

-- no bytes read soundly as the empty list
pub nothing-reads : {A : Type 0} (E : Element A) → trace E [] ≡ record { readings = []; ending = Ending.sound }
unfolding trace trace_from run_at walk
nothing-reads E = refl
