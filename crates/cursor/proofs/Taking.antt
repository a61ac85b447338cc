-- Laws of pieces that a host takes, over any state and any answers. A row of states, each behind the one before, is a piece (`row`). The pieces in
-- order have the readings that single calls give (`each-reading`), and lead where they lead (`leads-to`). So where single calls say a trace, the
-- pieces have all its readings, each once (`all-given`), and the piece behind the last one has its ending (`then-ending`). Where a weight falls from
-- piece to piece, no more pieces than it have readings (`few-pieces`). Assumes nothing.
use Prim.Native.Nat.{ℕ, zero, suc, ◌+◌, ◌≤◌, ◌<◌, min}
use mathlib.Core.Path.{◌≡◌, refl, sym, ◌∙◌, ap}
use mathlib.Core.Bool.{Bool, true, false}
use native.Mathlib.Omega.{arith}
use native.Mathlib.Nat.{zero-add}
use lib.ListN.{length}
use lib.Dec.{ltb}
use borrow.Author.Tests.{ltb-true, ltb-false}
use Rattle.encoding.specs.Walk.{Ending, Trace}
use Rattle.cursor.specs.Steps.{Said, reading, ended, nth}
use Rattle.cursor.specs.Kept.{after}
use Rattle.cursor.specs.Taking.{Stands, readings_in}
use Rattle.cursor.proofs.Saying.{nth-ending, nth-by}

-- ---- calls one after the other

module _ {K : Type 0} (call : K → K) where
  after-add : (m n : ℕ) (k : K) → after call (m + n) k ≡ after call n (after call m k)
  unfolding after
  after-add zero n k = ap (λ (j : ℕ). after call j k) (zero-add n)
  after-add (suc m) n k =
      let e : suc m + n ≡ suc (m + n) = omega arith in
      ap (λ (j : ℕ). after call j k) e ∙ after-add m n (call k)

  after_last : (n : ℕ) (k : K) → after call (suc n) k ≡ call (after call n k)
  unfolding after
  after_last zero k = refl
  after_last (suc n) k = after_last n (call k)

  after-row : (n : ℕ) (f : ℕ → K) → ((i : ℕ) → i < n → call (f i) ≡ f (suc i)) → after call n (f 0) ≡ f n
  unfolding after
  after-row zero f h = refl
  after-row (suc n) f h = ap (after call n) (h 0 (omega arith)) ∙ after-row n (λ i. f (suc i)) (λ i l. h (suc i) (omega arith))

-- a row of states, each behind the one before
pub row : {K B : Type 0} (call : K → K) (answer : K → B) (n : ℕ) (f : ℕ → K) (reads : ℕ → B)
    → ((i : ℕ) → i < n → call (f i) ≡ f (suc i)) → ((i : ℕ) → i < n → answer (f i) ≡ reads i) → Stands call answer (f 0) n reads (f n)
row call answer n f reads leads says =
    record {
      says = λ i l. ap answer (after-row call i f (λ j m. leads j (omega arith))) ∙ says i l;
      leads = after-row call n f leads;
    }

-- none stands there
pub none-stands : {K B : Type 0} (call : K → K) (answer : K → B) (k : K) (reads : ℕ → B) → Stands call answer k 0 reads k
none-stands call answer k reads = row call answer 0 (λ i. k) reads (λ i l. absurd (omega arith)) (λ i l. absurd (omega arith))

-- ---- piece after piece

module _ {K B : Type 0} (call : K → K) (answer : K → B) (times : K → ℕ) (reads : K → ℕ → B) (past : K → K)
    (stands : (k : K) → Stands call answer k (times k) (reads k) (past k)) (k : K) where
  abbrev had : ℕ → ℕ
  had n = readings_in times past n k

  pub leads-to : (n : ℕ) → after past n k ≡ after call (had n) k
  unfolding readings_in after
  leads-to zero = refl
  leads-to (suc n) =
      let c = after past n k in
      after_last past n k ∙ sym (stands c).leads ∙ ap (after call (times c)) (leads-to n) ∙ sym (after-add call (had n) (times c) k)

  -- the i-th reading of the piece with n pieces before it: the answer of the single call with as many calls before it as those have readings, and i
  pub each-reading : (n i : ℕ) → i < times (after past n k) → reads (after past n k) i ≡ answer (after call (had n + i) k)
  each-reading n i l =
      sym ((stands (after past n k)).says i l) ∙ ap (λ (c : K). answer (after call i c)) (leads-to n) ∙ sym (ap answer (after-add call (had n) i k))

  -- where single calls say a trace; `gives` tells a reading from an ending, and a piece has readings where the first answer is one
  module _ {R : Type 0} (t : Trace R) (told : Said R → B) (says : (n : ℕ) → answer (after call n k) ≡ told (nth t n)) (gives : B → Bool)
      (reading-gives : (r : R) → gives (told (reading r)) ≡ true) (ended-not : (e : Ending) → gives (told (ended e)) ≡ false)
      (some-given : (c : K) → gives (answer c) ≡ true → 0 < times c) (none-given : (c : K) → gives (answer c) ≡ false → times c ≡ 0)
      (all_give : (c : K) (i : ℕ) → i < times c → gives (reads c i) ≡ true) where
    abbrev most : ℕ
    most = length t.readings

    -- the reading that single calls give
    said-reading : (n i : ℕ) → i < times (after past n k) → reads (after past n k) i ≡ told (nth t (had n + i))
    said-reading n i l = each-reading n i l ∙ says (had n + i)

    beyond-not : (n : ℕ) → most ≤ n → gives (told (nth t n)) ≡ false
    beyond-not n l = ap (λ (x : Said R). gives (told x)) (nth-ending t n l) ∙ ended-not t.ending

    within-gives : (n : ℕ) → n < most → gives (told (nth t n)) ≡ true
    within-gives n l = nth-by t (λ (x : Said R). gives (told x) ≡ true) reading-gives n l

    -- a piece has no reading behind the last one
    piece-within : (n i : ℕ) → i < times (after past n k) → had n + i < most
    piece-within n i l = go (ltb (had n + i) most) refl
      where
        go : (b : Bool) → ltb (had n + i) most ≡ b → had n + i < most
        go true e = ltb-true (had n + i) most e
        go false e =
            let h : true ≡ false = sym (all_give (after past n k) i l) ∙ ap gives (said-reading n i l) ∙ beyond-not (had n + i) (ltb-false (had n + i) most e) in
            let z : ◌≡◌ {A = ℕ} 0 1 = cc in
            absurd (omega arith)

    had-most : (n : ℕ) → had n ≤ most
    unfolding readings_in
    had-most zero = omega arith
    had-most (suc n) = go (times (after past n k)) refl (had-most n)
      where
        go : (j : ℕ) → times (after past n k) ≡ j → had n ≤ most → had n + times (after past n k) ≤ most
        go zero e h = omega arith
        go (suc j) e h = let l = piece-within n j (omega arith) in omega arith

    -- while readings are left, a piece has one at least
    had-least : (n : ℕ) → min n most ≤ had n
    unfolding readings_in
    had-least zero = omega arith
    had-least (suc n) = go (ltb (had n) most) refl (had-least n)
      where
        go : (b : Bool) → ltb (had n) most ≡ b → min n most ≤ had n → min (suc n) most ≤ had n + times (after past n k)
        go true e h =
            let l = some-given (after past n k) (ap (λ (c : K). gives (answer c)) (leads-to n) ∙ ap gives (says (had n)) ∙ within-gives (had n) (ltb-true (had n) most e)) in
            omega arith
        go false e h = let l = ltb-false (had n) most e in omega arith

    -- as many pieces as there are readings have them all, and so have more
    pub all-given : (n : ℕ) → most ≤ n → had n ≡ most
    all-given n l = omega (arith, had-most n, had-least n)

    -- so have those before a piece that has none
    pub none_left : (n : ℕ) → gives (answer (after past n k)) ≡ false → had n ≡ most
    none_left n e = go (ltb (had n) most) refl
      where
        go : (b : Bool) → ltb (had n) most ≡ b → had n ≡ most
        go true l =
            let g : gives (answer (after past n k)) ≡ true =
            ap (λ (c : K). gives (answer c)) (leads-to n) ∙ ap gives (says (had n)) ∙ within-gives (had n) (ltb-true (had n) most l) in
            let h : true ≡ false = sym g ∙ e in
            let z : ◌≡◌ {A = ℕ} 0 1 = cc in
            absurd (omega arith)
        go false l = let h = ltb-false (had n) most l in omega (arith, had-most n)

    -- and where those before it have all the readings, a piece is the ending
    pub then-ending : (n : ℕ) → had n ≡ most → (answer (after past n k) ≡ told (ended t.ending)) × (times (after past n k) ≡ 0)
    then-ending n l =
        let e : answer (after past n k) ≡ told (ended t.ending) =
        ap answer (leads-to n) ∙ says (had n) ∙ ap told (nth-ending t (had n) (omega arith)) in
        (e, none-given (after past n k) (ap gives e ∙ ended-not t.ending))

-- ---- how many pieces have readings

module _ {K : Type 0} (past : K → K) (gives : K → Bool) (weight : K → ℕ) (stays : (k : K) → gives k ≡ false → past k ≡ k)
    (some-weight : (k : K) → gives k ≡ true → 0 < weight k)
    (falls : (k : K) → gives k ≡ true → gives (past k) ≡ true → weight (past k) < weight k) where
  -- behind an ending there is no reading
  gave-before : (n : ℕ) (k : K) → gives (after past (suc n) k) ≡ true → gives (after past n k) ≡ true
  gave-before n k h = go (gives (after past n k)) refl
    where
      go : (b : Bool) → gives (after past n k) ≡ b → gives (after past n k) ≡ true
      go true e = e
      go false e =
          let z : true ≡ false = sym h ∙ ap gives (after_last past n k ∙ stays (after past n k) e) ∙ e in
          let y : ◌≡◌ {A = ℕ} 0 1 = cc in
          absurd (omega arith)

  all-fall : (n : ℕ) (k : K) → gives (after past n k) ≡ true → n + weight (after past n k) ≤ weight k
  unfolding after
  all-fall zero k h = omega arith
  all-fall (suc n) k h =
      let g = gave-before n k h in
      let f = falls (after past n k) g (sym (ap gives (after_last past n k)) ∙ h) in
      omega (arith, f, ap weight (after_last past n k), all-fall n k g)

  pub few-pieces : (n : ℕ) (k : K) → gives (after past n k) ≡ true → n < weight k
  few-pieces n k h = omega (arith, all-fall n k h, some-weight (after past n k) h)
