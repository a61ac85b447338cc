-- A run that ends where a number is due, 21, over any element: it lacks some number of values, and with any one that the writer takes, so many times behind
-- the bytes, it goes on to their end (`run-lacks`). Assumes nothing.
use Prim.Native.Nat.{ℕ, zero, suc, ◌+◌, ◌≤◌, ◌<◌}
use mathlib.Core.Path.{◌≡◌, refl, sym, ◌∙◌, ap, subst}
use mathlib.Core.List.{List, [], ◌∷◌, ◌++◌, map}
use mathlib.Core.Option.{Option, some}
use mathlib.Core.Bool.{true}
use native.Mathlib.Decide.{dec_lt}
use native.Mathlib.Nat.{add-zero, add_assoc}
use native.Mathlib.Omega.{arith}
use lib.ListN.{length, get_or, replicate, length-append}
use Rattle.leb128.specs.Got.{Got, got, bad}
use Rattle.leb128.specs.Write.{u64_bytes}
use Rattle.encoding.specs.Limit.{limit}
use Rattle.encoding.specs.Walk.{over, off, Run, whole}
use Rattle.encoding.specs.Element.{Element}
use Rattle.encoding.specs.Head.{Head, amiss, head_at}
use Rattle.encoding.specs.Column.{Reading, present, value, Spot, spot, repeated, ahead, literal_next, literals, run_of, run_at}
use Rattle.encoding.proofs.Lists.{map-replicate}
use Rattle.encoding.proofs.Elements.{Stands, ElementLaws, stands-left, stands-right}
use Rattle.encoding.proofs.Columns.{head-known, run-head, run_end, repeated-got}
use Rattle.salvage.specs.Kept.{Bytes}
use Rattle.salvage.proofs.Staying.{Stays, Staying, StaysHead, head-stays}
use Rattle.salvage.proofs.Due.{stands-behind, zero-bytes, head-none}

-- ---- lists

bytes-append : (xs ys : List ℕ) → Bytes xs → Bytes ys → (i : ℕ) → get_or (xs ++ ys) i 0 < 256
bytes-append [] ys f g i = g i
bytes-append (x ∷ xs) ys f g zero = f 0
bytes-append (x ∷ xs) ys f g (suc i) = bytes-append xs ys (λ j. f (suc j)) g i

abbrev copies : ℕ → List ℕ → List ℕ
copies zero w = []
copies (suc c) w = w ++ copies c w

bytes-copies : (c : ℕ) (w : List ℕ) → Bytes w → Bytes (copies c w)
bytes-copies zero w f i = omega arith
bytes-copies (suc c) w f i = bytes-append w (copies c w) f (bytes-copies c w f) i

-- ---- a run that ends where a number is due

-- with u behind s the run r goes on to the end, by c times the value a, which is written as w
pub record Goes {A : Type 0} (s : List ℕ) (r : List ℕ → Run (Reading A) Spot) (c : ℕ) (a : A) (w : List ℕ) : Type 0 where
  pub u : List ℕ
  pub more : List (Reading A)
  pub had : ℕ
  pub reads : r (s ++ u) ≡ whole ((r s).readings ++ more) (spot (length (s ++ u)) had)
  pub same : map value more ≡ replicate c (some a)
  pub bytes : Bytes w → Bytes u

module _ {A : Type 0} (E : Element A) (L : ElementLaws E) where
  -- it lacks c values, any one that the writer takes
  abbrev pub Lacks : List ℕ → (List ℕ → Run (Reading A) Spot) → Type 0
  Lacks s r = (c : ℕ) × (c ≤ limit) × ((a : A) → E.fits a ≡ true → Goes s r c a (E.write a))

  copies-read : (t : List ℕ) (total c q : ℕ) (a : A) → E.fits a ≡ true → Stands t q (copies c (E.write a))
      → (rs : List (Reading A)) × (literals E t total c q ≡ whole rs (spot (q + length (copies c (E.write a))) total)) × (map value rs ≡ replicate c (some a))
  unfolding literals literal_next value
  copies-read t total zero q a f h = ([], ap (λ (k : ℕ). whole [] (spot k total)) (sym (add-zero q)), refl)
  copies-read t total (suc c) q a f h =
      let w : List ℕ = E.write a in
      let e : E.read t q ≡ got a (q + length w) = L.back t q a f (stands-left t q w (copies c w) h) in
      let ih = copies-read t total c (q + length w) a f (stands-right t q w (copies c w) h) in (
        present a q ∷ ih.0,
        ap (λ (g : Got A). literal_next q g (λ next. literals E t total c next)) e
            ∙ ap (λ (r : Run (Reading A) Spot). ahead (present a q) r) ih.1
            ∙ ap (λ (k : ℕ). whole (present a q ∷ ih.0) (spot k total))
            (add_assoc q (length w) (length (copies c w)) ∙ ap (λ (k : ℕ). q + k) (sym (length-append w (copies c w)))),
        ap (λ (r : List (Option A)). some a ∷ r) ih.2,
      )

  module _ (stays : Staying E.read) (due : (s : List ℕ) (p place : ℕ) → E.read s p ≡ bad 21 place → length s ≤ p) (s : List ℕ) where
    -- what is read in s, where it was read there
    read-on : (u : List ℕ) (p q : ℕ) (a : A) → E.read s p ≡ got a q → E.read (s ++ u) p ≡ got a q
    read-on u p q a e = subst (λ (g : Got A). Stays g (E.read (s ++ u) p)) e (stays s u p)

    -- a value that is due at the end
    read-due : (q place : ℕ) (a : A) → q ≤ length s → E.read s q ≡ bad 21 place → E.fits a ≡ true
        → E.read (s ++ E.write a) q ≡ got a (length (s ++ E.write a))
    read-due q place a l e f =
        let k : length s ≡ q = omega (arith, due s q place e) in
        let h : Stands (s ++ E.write a) q (E.write a) = subst (λ (p : ℕ). Stands (s ++ E.write a) p (E.write a)) k (stands-behind s (E.write a)) in
        let z : q + length (E.write a) ≡ length (s ++ E.write a) = omega (arith, length-append s (E.write a)) in
        L.back (s ++ E.write a) q a f h ∙ ap (got a) z

    repeated-lacks : (had c q place : ℕ) (g : Got A) → q ≤ length s → c ≤ limit → E.read s q ≡ g → (repeated had c q g).next ≡ off 21 place
        → Lacks s (λ t. repeated had c q (E.read t q))
    unfolding repeated value
    repeated-lacks had c q place (got a z) l m e o = let x : ◌≡◌ {A = ℕ} 0 1 = cc in absurd (omega arith)
    repeated-lacks had c q place (bad n k) l m e o =
        let x : n ≡ 21 = cc in
        let e' : E.read s q ≡ bad 21 k = rw x at e in (
          c,
          m,
          λ a f.
              record {
                u = E.write a;
                more = replicate c (present a q);
                had = had + c;
                reads =
                    repeated-got had c q _ a _ (read-due q k a l e' f)
                    ∙ ap (λ (g : Got A). whole ((repeated had c q g).readings ++ replicate c (present a q)) (spot (length (s ++ E.write a)) (had + c)))
                    (sym e');
                same = map-replicate value c (present a q);
                bytes = λ b. b;
              },
        )

    literals-lack : (total c q place : ℕ) → q ≤ length s → c ≤ limit → (literals E s total c q).next ≡ off 21 place → Lacks s (λ t. literals E t total c q)
    unfolding literals literal_next
    literals-lack total zero q place l m o = let x : ◌≡◌ {A = ℕ} 0 1 = cc in absurd (omega arith)
    literals-lack total (suc c) q place l m o =
        go (E.read s q) refl o (λ z lz oz. literals-lack total c z place lz (omega arith) oz)
      where
        go : (g : Got A) → E.read s q ≡ g → (literal_next q g (λ z. literals E s total c z)).next ≡ off 21 place
            → ((z : ℕ) → z ≤ length s → (literals E s total c z).next ≡ off 21 place → Lacks s (λ t. literals E t total c z))
            → Lacks s (λ t. literals E t total (suc c) q)
        go (got b z) e o ih =
            let k = ih z (L.within s q z b e) o in (
              k.0,
              k.1,
              λ a f.
                  let y = k.2 a f in
                  record {
                    u = y.u;
                    more = y.more;
                    had = y.had;
                    reads =
                        ap (λ (g : Got A). literal_next q g (λ z. literals E (s ++ y.u) total c z)) (read-on y.u q z b e)
                        ∙ ap (λ (r : Run (Reading A) Spot). ahead (present b q) r) y.reads
                        ∙ ap (λ (g : Got A). whole ((literal_next q g (λ z. literals E s total c z)).readings ++ y.more) (spot (length (s ++ y.u)) y.had))
                        (sym e);
                    same = y.same;
                    bytes = y.bytes;
                  },
            )
        go (bad n k) e o ih =
            let x : n ≡ 21 = cc in
            let e' : E.read s q ≡ bad 21 k = rw x at e in
            let p : length s ≡ q = omega (arith, due s q k e') in (
              suc c,
              m,
              λ a f.
                  let w : List ℕ = copies (suc c) (E.write a) in
                  let h : Stands (s ++ w) q w = subst (λ (j : ℕ). Stands (s ++ w) j w) p (stands-behind s w) in
                  let y = copies-read (s ++ w) total (suc c) q a f h in
                  let z : q + length w ≡ length (s ++ w) = omega (arith, length-append s w) in
                  record {
                    u = w;
                    more = y.0;
                    had = total;
                    reads =
                        y.1
                        ∙ ap (λ (j : ℕ). whole y.0 (spot j total)) z
                        ∙ ap (λ (g : Got A). whole ((literal_next q g (λ z. literals E s total c z)).readings ++ y.0) (spot (length (s ++ w)) total)) (sym e');
                    same = y.2;
                    bytes = bytes-copies (suc c) (E.write a);
                  },
            )

    lacks-eq : (r r' : List ℕ → Run (Reading A) Spot) → r s ≡ r' s → ((u : List ℕ) → r (s ++ u) ≡ r' (s ++ u)) → Lacks s r → Lacks s r'
    lacks-eq r r' e f k = (
      k.0,
      k.1,
      λ a h.
          let y = k.2 a h in
          record {
            u = y.u;
            more = y.more;
            had = y.had;
            reads =
                sym (f y.u) ∙ y.reads ∙ ap (λ (q : Run (Reading A) Spot). whole (q.readings ++ y.more) (spot (length (s ++ y.u)) y.had)) e;
            same = y.same;
            bytes = y.bytes;
          },
    )

    module _ (at had : ℕ) (l : at < length s) where
      -- the run at a state, by how it begins
      same_here : (h : Head) → head_at s at had ≡ h → run_of E s had h ≡ run_at E s (spot at had)
      same_here h e = sym (run-head E s at had h l e)

      same-there : (h : Head) (u : List ℕ) → head_at (s ++ u) at had ≡ h → run_of E (s ++ u) had h ≡ run_at E (s ++ u) (spot at had)
      same-there h u e = sym (run-head E (s ++ u) at had h (omega (arith, length-append s u)) e)

      head-there : (h : Head) (u : List ℕ) → head_at s at had ≡ h → StaysHead h (head_at (s ++ u) at had)
      head-there h u e = subst (λ (g : Head). StaysHead g (head_at (s ++ u) at had)) e (head-stays s u at had)

      begun-lacks : (h : Head) (place : ℕ) → head_at s at had ≡ h → had ≤ limit → (run_of E s had h).next ≡ off 21 place
          → Lacks s (λ t. run_at E t (spot at had))
      unfolding run_of value
      begun-lacks (Head.repeat c q) place e m o =
          let k = head-known s at had (Head.repeat c q) e in
          lacks-eq (λ t. repeated had c q (E.read t q)) (λ t. run_at E t (spot at had)) (same_here (Head.repeat c q) e)
          (λ u. same-there (Head.repeat c q) u (head-there (Head.repeat c q) u e))
          (repeated-lacks had c q place (E.read s q) k.1 (omega (arith, k.2)) refl o)
      begun-lacks (Head.literal c q) place e m o =
          let k = head-known s at had (Head.literal c q) e in
          lacks-eq (λ t. literals E t (had + c) c q) (λ t. run_at E t (spot at had)) (same_here (Head.literal c q) e)
          (λ u. same-there (Head.literal c q) u (head-there (Head.literal c q) u e)) (literals-lack (had + c) c q place k.1 (omega (arith, k.2)) o)
      begun-lacks (Head.absent c q) place e m o = let x : ◌≡◌ {A = ℕ} 0 1 = cc in absurd (omega arith)
      begun-lacks (amiss n k) place e m o =
          let x : n ≡ 21 = cc in
          let e' : head_at s at had ≡ amiss 21 k = rw x at e in (
            0,
            omega arith,
            λ a f.
                record {
                  u = u64_bytes 0;
                  more = [];
                  had = had + 0;
                  reads =
                      sym (same-there (Head.absent 0 (length (s ++ u64_bytes 0))) (u64_bytes 0) (head-none s at had k m l e'))
                      ∙ ap (λ (q : Run (Reading A) Spot). whole (q.readings ++ []) (spot (length (s ++ u64_bytes 0)) (had + 0))) (same_here (amiss 21 k) e');
                  same = refl;
                  bytes = λ b. zero-bytes;
                },
          )

    pub run-lacks : (st : Spot) (place : ℕ) → st.had ≤ limit → (run_at E s st).next ≡ off 21 place → Lacks s (λ t. run_at E t st)
    run-lacks st place m o = elim (dec_lt st.at (length s)) [
      | yes l ↦
          begun-lacks st.at st.had l (head_at s st.at st.had) place refl m
          (ap (λ (r : Run (Reading A) Spot). r.next) (same_here st.at st.had l (head_at s st.at st.had) refl) ∙ o)
      | no l ↦
          let e = ap (λ (r : Run (Reading A) Spot). r.next) (run_end E s st.at st.had (omega arith)) in
          let z : over ≡ off 21 place = sym e ∙ o in
          let x : ◌≡◌ {A = ℕ} 0 1 = cc in
          absurd (omega arith)
    ]
