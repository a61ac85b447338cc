-- HOW LONG A RUN-LENGTH COLUMN GETS THAT IS WRITTEN AGAIN, over any element: at most 11 times as long as it was, all of what it reads as or the first so many
-- readings of it. A run in front of a list that is cut into stretches changes their first stretch and adds one, or two where it takes a value out of a literal
-- stretch: each has a count of at most ten bytes, and the bytes of a value that stands in the run. Assumes nothing.
use Prim.Native.Nat.{ℕ, zero, suc, ◌+◌, ◌*◌, ◌-◌, ◌≤◌, ◌<◌}
use mathlib.Core.Path.{◌≡◌, refl, sym, ◌∙◌, ap}
use mathlib.Core.List.{List, [], ◌∷◌, ◌++◌, map}
use mathlib.Core.Option.{Option, none, some}
use mathlib.Core.Bool.{Bool, true, false, cond}
use native.Mathlib.Omega.{arith}
use lib.Dec.{ltb}
use lib.IntN.{pos, negsuc}
use lib.ListN.{length, take, drop, replicate, length-append, length-drop}
use lib.Seq.{length-take-le}
use Rattle.leb128.specs.Got.{Got, got, bad}
use Rattle.leb128.specs.Write.{u64_bytes, i64_bytes}
use Rattle.leb128.proofs.Laws.{u64-short, i64-short, i64-one}
use Rattle.encoding.specs.Column.{Reading, absent, present, value, Spot, spot, repeated, literal_next, literals, run_of, run_at, trace_from, trace}
use Rattle.encoding.specs.Element.{Element}
use Rattle.encoding.specs.Head.{Head, amiss, head_at}
use Rattle.encoding.specs.Stretches.{Stretch, literal_of, join_none, join_some, stretches}
use Rattle.encoding.specs.Walk.{Run, Trace, onward, walk}
use Rattle.encoding.specs.Writer.{all_bytes, stretch_bytes, stretches_bytes, any_present, column_bytes}
use Rattle.encoding.proofs.Columns.{SaneHead, head-known}
use Rattle.encoding.proofs.Elements.{ElementLaws}
use Rattle.encoding.proofs.Lists.{cond-by, map-append, map-replicate}
use Rattle.salvage.specs.Kept.{Bytes}

-- ---- the bytes of stretches

module _ {A : Type 0} (E : Element A) where
  abbrev pub size : List (Stretch A) → ℕ
  size ss = length (stretches_bytes E ss)

  -- a value's, and those of values one after another
  abbrev wide : A → ℕ
  wide a = length (E.write a)

  abbrev all : List A → ℕ
  all l = length (all_bytes E l)

  none-size : size [] ≡ 0
  unfolding stretches_bytes
  none-size = refl

  absent-size : (n : ℕ) (r : List (Stretch A)) → (size r ≤ size (Stretch.absent n ∷ r)) × (size (Stretch.absent n ∷ r) ≤ 11 + size r)
  unfolding stretches_bytes stretch_bytes
  absent-size n r =
      let a = length-append (stretch_bytes E (Stretch.absent n)) (stretches_bytes E r) in
      let b = length-append (i64_bytes (pos 0)) (u64_bytes n) in
      (omega arith, omega (arith, i64-one 0 (omega arith), u64-short n))

  repeat-size : (n : ℕ) (a : A) (r : List (Stretch A))
      → (1 + wide a + size r ≤ size (Stretch.repeat n a ∷ r)) × (size (Stretch.repeat n a ∷ r) ≤ 10 + wide a + size r)
  unfolding stretches_bytes stretch_bytes
  repeat-size n a r =
      let x = length-append (stretch_bytes E (Stretch.repeat n a)) (stretches_bytes E r) in
      let y = length-append (i64_bytes (pos n)) (E.write a) in
      (omega (arith, i64-short (pos n)), omega (arith, i64-short (pos n)))

  two_size : (a : A) (r : List (Stretch A)) → size (Stretch.repeat 2 a ∷ r) ≤ 1 + wide a + size r
  unfolding stretches_bytes stretch_bytes
  two_size a r =
      omega (
        arith,
        length-append (stretch_bytes E (Stretch.repeat 2 a)) (stretches_bytes E r),
        length-append (i64_bytes (pos 2)) (E.write a),
        i64-one 2 (omega arith),
      )

  all_cons : (a : A) (l : List A) → all (a ∷ l) ≡ wide a + all l
  unfolding all_bytes
  all_cons a l = length-append (E.write a) (all_bytes E l)

  literal-size : (a : A) (more : List A) (r : List (Stretch A))
      → (1 + wide a + all more + size r ≤ size (Stretch.literal a more ∷ r)) × (size (Stretch.literal a more ∷ r) ≤ 10 + wide a + all more + size r)
  unfolding stretches_bytes stretch_bytes
  literal-size a more r =
      let x = length-append (stretch_bytes E (Stretch.literal a more)) (stretches_bytes E r) in
      let y = length-append (i64_bytes (negsuc (length more))) (all_bytes E (a ∷ more)) in
      (omega (arith, i64-short (negsuc (length more)), all_cons a more), omega (arith, i64-short (negsuc (length more)), all_cons a more))

  one_size : (a : A) (r : List (Stretch A)) → size (Stretch.literal a [] ∷ r) ≤ 1 + wide a + size r
  unfolding stretches_bytes stretch_bytes all_bytes
  one_size a r =
      omega (
        arith,
        length-append (stretch_bytes E (Stretch.literal a [])) (stretches_bytes E r),
        length-append (i64_bytes (negsuc 0)) (all_bytes E (a ∷ [])),
        length-append (E.write a) (all_bytes E []),
        i64-one 0 (omega arith),
      )

  behind-size : (bs : List A) (r : List (Stretch A)) → size (literal_of bs r) ≤ 10 + all bs + size r
  unfolding literal_of
  behind-size [] r = omega arith
  behind-size (b ∷ bs) r = omega (arith, literal-size b bs r, all_cons b bs)

  -- ---- a value in front

  joined : (a : A) (ss : List (Stretch A)) → size (join_some E.same a ss) ≤ 10 + wide a + size ss
  unfolding join_some
  joined a [] = omega (arith, one_size a [])
  joined a (Stretch.absent n ∷ r) = omega (arith, one_size a (Stretch.absent n ∷ r))
  joined a (Stretch.repeat n b ∷ r) =
      cond-by (λ (ss : List (Stretch A)). size ss ≤ 10 + wide a + size (Stretch.repeat n b ∷ r)) (E.same a b)
      (λ e. omega (arith, repeat-size (suc n) b r, repeat-size n b r)) (λ e. omega (arith, one_size a (Stretch.repeat n b ∷ r)))
  joined a (Stretch.literal b bs ∷ r) =
      cond-by (λ (ss : List (Stretch A)). size ss ≤ 10 + wide a + size (Stretch.literal b bs ∷ r)) (E.same a b)
      (λ e. omega (arith, two_size b (literal_of bs r), behind-size bs r, literal-size b bs r))
      (λ e. omega (arith, literal-size a (b ∷ bs) r, literal-size b bs r, all_cons b bs))

  -- ---- absent readings in front: the first stretch is of absent ones, whatever its count

  record Absents (k : ℕ) (ss : List (Stretch A)) : Type 0 where
    count : ℕ
    behind : List (Stretch A)
    is : ss ≡ Stretch.absent count ∷ behind
    most : 11 + size behind ≤ k

  absents-first : (ss : List (Stretch A)) → Absents (11 + size ss) (join_none ss)
  unfolding join_none
  absents-first [] = record { count = 1; behind = []; is = refl; most = omega arith }
  absents-first (Stretch.absent n ∷ r) = record { count = suc n; behind = r; is = refl; most = omega (arith, absent-size n r) }
  absents-first (Stretch.repeat n b ∷ r) = record { count = 1; behind = Stretch.repeat n b ∷ r; is = refl; most = omega arith }
  absents-first (Stretch.literal b bs ∷ r) = record { count = 1; behind = Stretch.literal b bs ∷ r; is = refl; most = omega arith }

  absents-more : (k : ℕ) (ss : List (Stretch A)) → Absents k ss → Absents k (join_none ss)
  unfolding join_none
  absents-more k ss h = rw h.is (record { count = suc h.count; behind = h.behind; is = refl; most = h.most })

  absents : (c : ℕ) (xs : List (Option A)) → Absents (11 + size (stretches E.same xs)) (stretches E.same (replicate (suc c) none ++ xs))
  unfolding stretches
  absents zero xs = absents-first (stretches E.same xs)
  absents (suc c) xs = absents-more _ (stretches E.same (replicate (suc c) none ++ xs)) (absents c xs)

  absent-front : (c : ℕ) (xs : List (Option A)) → size (stretches E.same (replicate c none ++ xs)) ≤ 11 + size (stretches E.same xs)
  absent-front zero xs = omega arith
  absent-front (suc c) xs =
      let h = absents c xs in
      rw h.is (omega (arith, absent-size h.count h.behind, h.most))

  -- ---- equal values in front: from the second on the first stretch is of them, whatever its count

  record Repeats (k : ℕ) (a : A) (ss : List (Stretch A)) : Type 0 where
    count : ℕ
    first : A
    behind : List (Stretch A)
    is : ss ≡ Stretch.repeat count first ∷ behind
    same : E.same a first ≡ true
    most : 10 + wide first + size behind ≤ k

  module _ (self : (a : A) → E.same a a ≡ true) where
    repeats-first : (a : A) (ss : List (Stretch A)) → Repeats (19 + wide a + size ss) a (join_some E.same a (join_some E.same a ss))
    unfolding join_some literal_of
    repeats-first a [] =
        rw (self a) (record { count = 2; first = a; behind = []; is = refl; same = self a; most = omega arith })
    repeats-first a (Stretch.absent n ∷ r) =
        rw (self a) (record { count = 2; first = a; behind = Stretch.absent n ∷ r; is = refl; same = self a; most = omega arith })
    repeats-first a (Stretch.repeat n b ∷ r) = go (E.same a b) refl
      where
        go : (t : Bool) → E.same a b ≡ t
            → Repeats (19 + wide a + size (Stretch.repeat n b ∷ r)) a
            (join_some E.same a (cond t (Stretch.repeat (suc n) b ∷ r) (Stretch.literal a [] ∷ Stretch.repeat n b ∷ r)))
        go true e =
            rw e (record { count = suc (suc n); first = b; behind = r; is = refl; same = e; most = omega (arith, repeat-size n b r) })
        go false e =
            rw (self a) (record { count = 2; first = a; behind = Stretch.repeat n b ∷ r; is = refl; same = self a; most = omega arith })
    repeats-first a (Stretch.literal b bs ∷ r) = go (E.same a b) refl
      where
        go : (t : Bool) → E.same a b ≡ t
            → Repeats (19 + wide a + size (Stretch.literal b bs ∷ r)) a
            (join_some E.same a (cond t (Stretch.repeat 2 b ∷ literal_of bs r) (Stretch.literal a (b ∷ bs) ∷ r)))
        go true e =
            rw e
            (record { count = 3; first = b; behind = literal_of bs r; is = refl; same = e; most = omega (arith, behind-size bs r, literal-size b bs r) })
        go false e =
            rw (self a) (record { count = 2; first = a; behind = Stretch.literal b bs ∷ r; is = refl; same = self a; most = omega arith })

    repeats-more : (k : ℕ) (a : A) (ss : List (Stretch A)) → Repeats k a ss → Repeats k a (join_some E.same a ss)
    unfolding join_some
    repeats-more k a ss h =
        rw (h.is, h.same) (record { count = suc h.count; first = h.first; behind = h.behind; is = refl; same = h.same; most = h.most })

    repeats : (c : ℕ) (a : A) (xs : List (Option A))
        → Repeats (19 + wide a + size (stretches E.same xs)) a (stretches E.same (replicate (suc (suc c)) (some a) ++ xs))
    unfolding stretches
    repeats zero a xs = repeats-first a (stretches E.same xs)
    repeats (suc c) a xs = repeats-more _ a (stretches E.same (replicate (suc (suc c)) (some a) ++ xs)) (repeats c a xs)

    repeat-front : (c : ℕ) (a : A) (xs : List (Option A))
        → size (stretches E.same (replicate c (some a) ++ xs)) ≤ 19 + wide a + size (stretches E.same xs)
    unfolding stretches
    repeat-front zero a xs = omega arith
    repeat-front (suc zero) a xs = omega (arith, joined a (stretches E.same xs))
    repeat-front (suc (suc c)) a xs =
        let h = repeats c a xs in
        rw h.is (omega (arith, repeat-size h.count h.first h.behind, h.most))

-- ---- the same of the first so many readings

-- copies and a list behind them, of which so many are taken: fewer copies, and what is taken of the list
front : {B : Type 0} (m c : ℕ) (x : B) (xs : List B) → (d : ℕ) × (take m (replicate c x ++ xs) ≡ replicate d x ++ take (m - c) xs)
front zero c x xs = let z : 0 - c ≡ 0 = omega arith in (0, rw z refl)
front (suc m) zero x xs = let z : suc m - 0 ≡ suc m = omega arith in (0, rw z refl)
front (suc m) (suc c) x xs =
    let z : suc m - suc c ≡ m - c = omega arith in
    let h = front m c x xs in
    (suc h.0, rw z (ap (λ (l : List _). x ∷ l) h.1))

module _ {A : Type 0} (E : Element A) (L : ElementLaws E) where
  -- so many of these readings as one likes are written in k bytes
  abbrev pub Within : ℕ → List (Option A) → Type 0
  Within k xs = (m : ℕ) → size E (stretches E.same (take m xs)) ≤ k

  none_within : (k : ℕ) → Within k []
  unfolding stretches
  none_within k zero = omega (arith, none-size E)
  none_within k (suc m) = omega (arith, none-size E)

  absent-within : (k c : ℕ) (xs : List (Option A)) → Within k xs → Within (11 + k) (replicate c none ++ xs)
  absent-within k c xs h m =
      let f = front m c none xs in
      rw f.1 (omega (arith, absent-front E f.0 (take (m - c) xs), h (m - c)))

  repeat-within : (k c : ℕ) (a : A) (xs : List (Option A)) → Within k xs → Within (19 + length (E.write a) + k) (replicate c (some a) ++ xs)
  repeat-within k c a xs h m =
      let f = front m c (some a) xs in
      rw f.1 (omega (arith, repeat-front E L.same_self f.0 a (take (m - c) xs), h (m - c)))

  value-within : (k : ℕ) (a : A) (xs : List (Option A)) → Within k xs → Within (10 + length (E.write a) + k) (some a ∷ xs)
  unfolding stretches
  value-within k a xs h zero = omega (arith, none-size E)
  value-within k a xs h (suc m) = omega (arith, joined E a (stretches E.same (take m xs)), h m)

  within_more : (j k : ℕ) (xs : List (Option A)) → j ≤ k → Within j xs → Within k xs
  within_more j k xs l h m = omega (arith, h m)

  -- ---- a column, from a position on

  module _ (s : List ℕ) (B : Bytes s) where
    abbrev Left : ℕ → List (Reading A) → Type 0
    Left p rs = Within (11 * (length s - p)) (map value rs)

    -- a value that is read stands there with the bytes that are written for it
    value-wide : (p q : ℕ) (a : A) → E.read s p ≡ got a q → length (E.write a) ≡ q - p
    value-wide p q a e =
        sym (ap length (L.exact s B p q a e).0) ∙ length-take-le (q - p) (drop p s) (omega (arith, length-drop p s, L.within s p q a e))

    -- what follows a run, at each state that it can lead to
    abbrev Onward : (Spot → Trace (Reading A)) → Type 0
    Onward k = (z : Spot) → Left z.at (k z).readings

    repeated-left : (p had c q : ℕ) (g : Got A) (k : Spot → Trace (Reading A)) → p < q → E.read s q ≡ g → Onward k
        → Left p (onward (repeated had c q g) k).readings
    unfolding repeated value
    repeated-left p had c q (got a z) k l e h =
        let n = value-wide q z a e in
        let rs = (k (spot z (had + c))).readings in
        rw (map-append value (replicate c (present a q)) rs, map-replicate value c (present a q))
        (within_more (19 + length (E.write a) + 11 * (length s - z)) (11 * (length s - p)) _ (omega (arith, L.ahead s q z a e, L.within s q z a e))
        (repeat-within (11 * (length s - z)) c a (map value rs) (h (spot z (had + c)))))
    repeated-left p had c q (bad number place) k l e h = none_within (11 * (length s - p))

    literals-left : (total c q : ℕ) (k : Spot → Trace (Reading A)) → Onward k → Left q (onward (literals E s total c q) k).readings
    unfolding literals literal_next value
    literals-left total zero q k h = h (spot q total)
    literals-left total (suc c) q k h = go (E.read s q) refl (λ z. literals-left total c z k h)
      where
        go : (g : Got A) → E.read s q ≡ g → ((z : ℕ) → Left z (onward (literals E s total c z) k).readings)
            → Left q (onward (literal_next q g (λ z. literals E s total c z)) k).readings
        go (got a z) e f =
            let n = value-wide q z a e in
            within_more (10 + length (E.write a) + 11 * (length s - z)) (11 * (length s - q)) _ (omega (arith, L.ahead s q z a e, L.within s q z a e))
            (value-within (11 * (length s - z)) a (map value (onward (literals E s total c z) k).readings) (f z))
        go (bad number place) e f = none_within (11 * (length s - q))

    opened-left : (p had : ℕ) (x : Head) (k : Spot → Trace (Reading A)) → SaneHead (length s) p had x → Onward k
        → Left p (onward (run_of E s had x) k).readings
    unfolding run_of value
    opened-left p had (Head.repeat c q) k l h = repeated-left p had c q (E.read s q) k l.0 refl h
    opened-left p had (Head.literal c q) k l h =
        within_more (11 * (length s - q)) (11 * (length s - p)) _ (omega (arith, l.0)) (literals-left (had + c) c q k h)
    opened-left p had (Head.absent c q) k l h =
        let rs = (k (spot q (had + c))).readings in
        rw (map-append value (replicate c absent) rs, map-replicate {A = Reading A} value c absent)
        (within_more (11 + 11 * (length s - q)) (11 * (length s - p)) _ (omega (arith, l.0, l.1))
        (absent-within (11 * (length s - q)) c (map value rs) (h (spot q (had + c)))))
    opened-left p had (amiss number place) k l h = none_within (11 * (length s - p))

    run-left : (st : Spot) (k : Spot → Trace (Reading A)) → Onward k → Left st.at (onward (run_at E s st) k).readings
    unfolding run_at
    run-left st k h =
        cond-by (λ (r : Run (Reading A) Spot). Left st.at (onward r k).readings) (ltb st.at (length s))
        (λ e. opened-left st.at st.had (head_at s st.at st.had) k (head-known s st.at st.had (head_at s st.at st.had) refl) h)
        (λ e. none_within (11 * (length s - st.at)))

    walk-left : (f : ℕ) (st : Spot) → Left st.at (walk (run_at E s) f st).readings
    unfolding walk
    walk-left zero st = run-left st _ (λ z. none_within (11 * (length s - z.at)))
    walk-left (suc f) st = run-left st _ (λ z. walk-left f z)

    trace-within : Within (11 * length s) (map value (trace E s).readings)
    unfolding trace trace_from
    trace-within = within_more (11 * (length s - 0)) (11 * length s) _ (omega arith) (walk-left (length s - 0) (spot 0 0))

    -- THE LAW of a run-length column
    pub eleven-times : (m : ℕ) → length (column_bytes E (take m (map value (trace E s).readings))) ≤ 11 * length s
    unfolding column_bytes
    eleven-times m =
        cond-by (λ (l : List ℕ). length l ≤ 11 * length s) (any_present (take m (map value (trace E s).readings))) (λ e. trace-within m) (λ e. omega arith)
