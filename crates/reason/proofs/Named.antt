-- The run that a reason names, over any machine: so many runs lead to it that all read without fault, and it has the fault, or holds the reading asked for. Assumes nothing.
use Prim.Native.Nat.{ℕ, zero, suc, ◌+◌, ◌-◌, ◌≤◌, ◌<◌}
use mathlib.Core.Path.{◌≡◌, refl, sym, ◌∙◌, ap}
use mathlib.Core.List.{List, [], ◌∷◌, ◌++◌}
use mathlib.Core.Option.{Option, some}
use native.Mathlib.Decide.{dec_lt}
use native.Mathlib.Omega.{arith}
use lib.ListN.{length, get_or, length-append, get_or-append}
use lib.Seq.{get_or-append-add}
use borrow.Author.Tests.{lt-ltb, le-ltb}
use Rattle.encoding.specs.Limit.{limit}
use Rattle.encoding.specs.Walk.{Next, over, on, off, Trace, sound, fault, walk, after}
use Rattle.encoding.proofs.Walking.{Machine}
use Rattle.reason.specs.Reason.{holding}
use Rattle.reason.specs.Runs.{Walked, walked, later, runs, Fallen}
use Rattle.reason.specs.True.{Passed}

module _ {R S : Type 0} (M : Machine R S) where
  -- the readings of the runs that were passed are counted, and stay within the limit
  pub passed-had : {k : ℕ} {st z : S} {xs : List R} → Passed M.run k st xs z → M.had z ≡ M.had st + length xs
  passed-had Passed.none = omega arith
  passed-had (Passed.one {st} {z} {xs} e p) = omega (arith, M.counts st z e, passed-had p, length-append (M.run st).readings xs)

  pub passed-capped : {k : ℕ} {st z : S} {xs : List R} → Passed M.run k st xs z → M.had st ≤ limit → M.had z ≤ limit
  passed-capped Passed.none l = l
  passed-capped (Passed.one {st} {z} e p) l = passed-capped p (M.capped st z e)

  -- of the runs ws from a state on, counted from i on, the one is named that has the reading n or the fault behind it; `Is` says what is true of its state
  pub record Names (Is : S → Type 0) (n i : ℕ) (st : S) (ws : List (Walked R S)) : Type 0 where
    pub before : ℕ
    pub state : S
    pub earlier : List R
    pub named : holding M.had n i ws ≡ some (record { index = i + before; at = walked state (M.run state) })
    pub passed : Passed M.run before st earlier state
    pub is : Is state

  module _ (Is : S → Type 0) (n i : ℕ) (st : S) (ws : List (Walked R S)) where
    here : Option (Fallen R S)
    here = some (record { index = i; at = walked st (M.run st) })

    this : holding M.had n i (walked st (M.run st) ∷ ws) ≡ here → Is st → Names Is n i st (walked st (M.run st) ∷ ws)
    unfolding here
    this h y =
        let c : i ≡ i + 0 = omega arith in
        record { before = 0; state = st; earlier = []; named = h ∙ ap (λ (j : ℕ). some (record { index = j; at = walked st (M.run st) })) c; passed = Passed.none; is = y }

    -- it has the reading
    this-has : n < M.had st + length (M.run st).readings → Is st → Names Is n i st (walked st (M.run st) ∷ ws)
    unfolding holding here
    this-has l y = this (rw (lt-ltb n (M.had st + length (M.run st).readings) l) refl) y

    -- it has the fault
    this-falls : (number place : ℕ) → (M.run st).next ≡ off number place → M.had st + length (M.run st).readings ≤ n → Is st → Names Is n i st (walked st (M.run st) ∷ ws)
    unfolding holding here
    this-falls number place e l y = this (rw (le-ltb n (M.had st + length (M.run st).readings) l, e) refl) y

    -- a later one
    other : (z : S) → (M.run st).next ≡ on z → M.had st + length (M.run st).readings ≤ n → Names Is n (suc i) z ws → Names Is n i st (walked st (M.run st) ∷ ws)
    unfolding holding here
    other z e l y =
        let c : suc i + y.before ≡ i + suc y.before = omega arith in
        record {
          before = suc y.before;
          state = y.state;
          earlier = (M.run st).readings ++ y.earlier;
          named = rw (le-ltb n (M.had st + length (M.run st).readings) l, e) (y.named ∙ ap (λ (j : ℕ). some (record { index = j; at = walked y.state (M.run y.state) })) c);
          passed = Passed.one e y.passed;
          is = y.is;
        }

  -- ---- the run at fault

  abbrev pub Faulty : ℕ → ℕ → ℕ → S → Type 0
  Faulty n number place st = ((M.run st).next ≡ off number place) × (n ≡ M.had st + length (M.run st).readings)

  -- the run at a state, with the fault itself or before those that come behind
  fault-on : (n number place i : ℕ) (st : S) (k : S → Trace R) (ws : Next S → List (Walked R S))
      → ((z : S) → (k z).ending ≡ fault number place → n ≡ M.had z + length (k z).readings → Names (Faulty n number place) n (suc i) z (ws (on z)))
      → (x : Next S) → (M.run st).next ≡ x → (after x k).ending ≡ fault number place → n ≡ M.had st + length ((M.run st).readings ++ (after x k).readings)
      → Names (Faulty n number place) n i st (walked st (M.run st) ∷ ws x)
  fault-on n number place i st k ws r over h e m = let z : ◌≡◌ {A = ℕ} 0 1 = cc in absurd (omega arith)
  fault-on n number place i st k ws r (off a b) h e m =
      let c : n ≡ M.had st + length (M.run st).readings = omega (arith, m, length-append (M.run st).readings []) in
      let o : ◌≡◌ {A = Next S} (off a b) (off number place) = cc in
      this-falls (Faulty n number place) n i st (ws (off a b)) a b h (omega arith) (h ∙ o, c)
  fault-on n number place i st k ws r (on z) h e m =
      let a = length-append (M.run st).readings (k z).readings in
      let c = M.counts st z h in
      other (Faulty n number place) n i st (ws (on z)) z h (omega (arith, a, m)) (r z e (omega (arith, a, m, c)))

  pub faulty : (n number place f i : ℕ) (st : S) → (walk M.run f st).ending ≡ fault number place → n ≡ M.had st + length (walk M.run f st).readings
      → Names (Faulty n number place) n i st (runs M.run f st)
  unfolding walk runs
  faulty n number place zero i st e m =
      fault-on n number place i st (λ z. record { readings = []; ending = sound }) (λ x. []) (λ z g l. let y : ◌≡◌ {A = ℕ} 0 1 = cc in absurd (omega arith)) (M.run st).next refl e m
  faulty n number place (suc f) i st e m =
      fault-on n number place i st (λ z. walk M.run f z) (λ x. later x (λ z. runs M.run f z)) (λ z. faulty n number place f (suc i) z) (M.run st).next refl e m

  -- ---- the run that has a reading

  -- v is the reading n, where x stands behind the end
  abbrev pub Having : R → R → ℕ → S → Type 0
  Having x v n st = (k : ℕ) × (n ≡ M.had st + k) × (get_or (M.run st).readings k x ≡ v)

  reading-on : (x v : R) (n m i : ℕ) (st : S) (k : S → Trace R) (ws : Next S → List (Walked R S)) → n ≡ M.had st + m
      → ((z : S) (j : ℕ) → n ≡ M.had z + j → j < length (k z).readings → get_or (k z).readings j x ≡ v → Names (Having x v n) n (suc i) z (ws (on z)))
      → (y : Next S) → (M.run st).next ≡ y → m < length ((M.run st).readings ++ (after y k).readings) → get_or ((M.run st).readings ++ (after y k).readings) m x ≡ v
      → Names (Having x v n) n i st (walked st (M.run st) ∷ ws y)
  reading-on x v n m i st k ws c r y h l e = elim (dec_lt m (length (M.run st).readings)) [
    | yes g ↦ this-has (Having x v n) n i st (ws y) (omega arith) (m, c, sym (get_or-append (M.run st).readings (after y k).readings x m g) ∙ e)
    | no g ↦ go y h l e (omega arith)
  ]
    where
      go : (y : Next S) → (M.run st).next ≡ y → m < length ((M.run st).readings ++ (after y k).readings) → get_or ((M.run st).readings ++ (after y k).readings) m x ≡ v
          → length (M.run st).readings ≤ m → Names (Having x v n) n i st (walked st (M.run st) ∷ ws y)
      go over h l e g = absurd (omega (arith, l, g, length-append (M.run st).readings []))
      go (off a b) h l e g = absurd (omega (arith, l, g, length-append (M.run st).readings []))
      go (on z) h l e g =
          let q : length (M.run st).readings + (m - length (M.run st).readings) ≡ m = omega arith in
          let a = length-append (M.run st).readings (k z).readings in
          let b = M.counts st z h in
          let d : get_or (k z).readings (m - length (M.run st).readings) x ≡ v =
          sym (get_or-append-add (M.run st).readings (k z).readings (m - length (M.run st).readings) x)
          ∙ ap (λ (j : ℕ). get_or ((M.run st).readings ++ (k z).readings) j x) q ∙ e in
          other (Having x v n) n i st (ws (on z)) z h (omega arith)
          (r z (m - length (M.run st).readings) (omega (arith, b)) (omega (arith, a, l)) d)

  pub having : (x v : R) (n m f i : ℕ) (st : S) → n ≡ M.had st + m → m < length (walk M.run f st).readings → get_or (walk M.run f st).readings m x ≡ v
      → Names (Having x v n) n i st (runs M.run f st)
  unfolding walk runs
  having x v n m zero i st c l e =
      reading-on x v n m i st (λ z. record { readings = []; ending = sound }) (λ y. []) c (λ z j g h d. absurd (omega (arith, h))) (M.run st).next refl l e
  having x v n m (suc f) i st c l e =
      reading-on x v n m i st (λ z. walk M.run f z) (λ y. later y (λ z. runs M.run f z)) c (λ z j. having x v n j f (suc i) z) (M.run st).next refl l e
