-- The writer's cut made reading by reading comes to the writer's bytes: what is spent, what is open and what is held say together what the list so far
-- costs, whatever follows. Assumes nothing.
use Prim.Native.Nat.{ℕ, zero, suc, ◌+◌, ◌≤◌, ◌<◌}
use mathlib.Core.Path.{◌≡◌, refl, sym, ◌∙◌, ap, subst}
use mathlib.Core.List.{List, [], ◌∷◌, ◌++◌, map}
use mathlib.Core.Option.{Option, none, some}
use mathlib.Core.Bool.{Bool, true, false, cond, ◌||◌}
use native.Mathlib.Omega.{arith}
use native.Mathlib.Numerals.{add-one}
use lib.Dec.{eqb}
use lib.IntN.{pos}
use lib.ListN.{length, replicate, length-append}
use borrow.Author.Tests.{eqb-true, eqb-false}
use Rattle.leb128.specs.Answer.{Answer, done, within}
use Rattle.leb128.specs.Write.{i64_bytes}
use Rattle.encoding.specs.Element.{Element}
use Rattle.encoding.specs.Stretches.{Stretch, stretches}
use Rattle.encoding.specs.Writer.{all_bytes, stretches_bytes, any_present, column_bytes}
use Rattle.encoding.specs.Ahead.{alike, Off}
use Rattle.encoding.proofs.Fronts.{NoAbsent, NoValue, some_more}
use Rattle.encoding.proofs.Lists.{cond-by}
use Rattle.encoding.proofs.Looking.{off-none, off-some}
use Rattle.rewriting.specs.Cutter.{
  Cut,
  Shut,
  fresh,
  literal_head,
  absent_run,
  is_some,
  closing,
  closed_of,
  longer,
  turned,
  fed_of,
  fed_all,
  finished_of,
  spending,
}
use Rattle.rewriting.proofs.Costs.{Pending, cost, all_more, pending-more, absent-cost, single-cost, several-cost}
use Rattle.rewriting.proofs.Room.{spent-more, none-spent}

-- ---- readings in a row

module _ {A : Type 0} (E : Element A) (room : ℕ) where
  pub fed-append : (c : Cut A) (xs ys : List (Option A)) → fed_all E room c (xs ++ ys) ≡ fed_all E room (fed_all E room c xs) ys
  unfolding fed_all
  fed-append c [] ys = refl
  fed-append c (x ∷ xs) ys = fed-append (fed_of E room c x 1) xs ys

or-twice : (s t : Bool) → s || t ≡ s || t || t
or-twice true t = refl
or-twice false true = refl
or-twice false false = refl

module _ {A : Type 0} (E : Element A) (same_self : (a : A) → E.same a a ≡ true) (room : ℕ) where
  alike_self : (x : Option A) → alike E x x ≡ true
  unfolding alike
  alike_self none = refl
  alike_self (some a) = same_self a

  -- a reading that is held, some times more
  fed-held : (c : Cut A) (x : Option A) (m : ℕ) → alike E c.held x ≡ true → fed_of E room c x (suc m) ≡ longer E room c x (suc m)
  unfolding fed_of
  fed-held c x m e = ap (λ (t : Bool). cond t (longer E room c x (suc m)) (turned E room c x (suc m) (closed_of E room (is_some x) c))) e

  fed-split : (c : Cut A) (x : Option A) (n : ℕ) → fed_of E room c x (suc n) ≡ fed_of E room (fed_of E room c x 1) x n
  unfolding fed_of
  fed-split c x zero = refl
  fed-split c x (suc m) = go (alike E c.held x) refl
    where
      d : Shut
      d = closed_of E room (is_some x) c

      a : c.any || is_some x ≡ c.any || is_some x || is_some x
      a = or-twice c.any (is_some x)

      n : c.times + suc (suc m) ≡ c.times + 1 + suc m
      n = omega arith

      k : suc (suc m) ≡ 1 + suc m
      k = omega arith

      go : (t : Bool) → alike E c.held x ≡ t
          → cond t (longer E room c x (suc (suc m))) (turned E room c x (suc (suc m)) d)
          ≡ fed_of E room (cond t (longer E room c x 1) (turned E room c x 1 d)) x (suc m)
      go true e =
          (λ i. record { used = c.used; any = a i; literals = c.literals; held = c.held; times = n i })
          ∙ sym (fed-held (longer E room c x 1) x m e)
      go false e =
          (λ i. record { used = d.used; any = a i; literals = d.literals; held = x; times = k i })
          ∙ sym (fed-held (turned E room c x 1 d) x m (alike_self x))

  pub fed-times : (c : Cut A) (x : Option A) (n : ℕ) → fed_of E room c x n ≡ fed_all E room c (replicate n x)
  unfolding fed_of fed_all
  fed-times c x zero = refl
  fed-times c x (suc n) = fed-split c x n ∙ fed-times (fed_of E room c x 1) x n

-- ---- what is known of the list so far

module _ {A : Type 0} (E : Element A) where
  -- the values that are open before a reading that came n times
  abbrev Open : List A → Option A → ℕ → Type 0
  Open l none n = l ≡ []
  Open l (some a) n = (0 < n) × Pending E.same l (Stretch.literal a [] ∷ [])

  -- and before the readings that follow
  abbrev Before : List A → List (Option A) → Type 0
  Before l [] = l ≡ []
  Before l (y ∷ ys) = Open l y 1

  abbrev begins : List (Option A) → Bool
  begins [] = false
  begins (y ∷ ys) = is_some y

  before-none : (ys : List (Option A)) → Before [] ys
  before-none [] = refl
  before-none (none ∷ ys) = refl
  before-none (some b ∷ ys) = (omega arith, tt)

module _ {A : Type 0} (E : Element A) (room : ℕ) where
  -- the readings that follow do not begin with x
  abbrev Unlike : Option A → List (Option A) → Type 0
  Unlike x [] = Unit {0}
  Unlike x (y ∷ ys) = alike E x y ≡ false

  -- with ys behind it, the whole list costs `total`: what is spent, and what the open values, the held reading and ys cost but for the bytes of the
  -- open values, which are spent already
  record Sofar (total : ℕ) (used : Answer) (literals : ℕ) (held : Option A) (times : ℕ) (ys : List (Option A)) : Type 0 where
    pend : List A
    spent : ℕ
    paid : used ≡ within 10 room (done spent)
    count : literals ≡ length pend
    apart : Open E pend held times
    sum : total + length (all_bytes E pend) ≡ spent + cost E (map some pend ++ (replicate times held ++ ys))

  -- and where the held reading is closed
  record Closes (total : ℕ) (ys : List (Option A)) (d : Shut) : Type 0 where
    pend : List A
    spent : ℕ
    paid : d.used ≡ within 10 room (done spent)
    count : d.literals ≡ length pend
    apart : Before E pend ys
    sum : total + length (all_bytes E pend) ≡ spent + cost E (map some pend ++ ys)

  unlike-absent : (ys : List (Option A)) → Unlike none ys → NoAbsent E.same ys
  unfolding alike
  unlike-absent [] h = tt
  unlike-absent (none ∷ ys) h = let z : ◌≡◌ {A = ℕ} 0 1 = cc in absurd (omega arith)
  unlike-absent (some b ∷ ys) h = tt

  module _ (same-eq : (a b : A) → E.same a b ≡ true → a ≡ b) (same_self : (a : A) → E.same a a ≡ true) where
    alike-eq : (x y : Option A) → alike E x y ≡ true → x ≡ y
    unfolding alike
    alike-eq none none e = refl
    alike-eq none (some b) e = let z : ◌≡◌ {A = ℕ} 0 1 = cc in absurd (omega arith)
    alike-eq (some a) none e = let z : ◌≡◌ {A = ℕ} 0 1 = cc in absurd (omega arith)
    alike-eq (some a) (some b) e = ap some (same-eq a b e)

    unlike-off : (a : A) (ys : List (Option A)) → Unlike (some a) ys → Off E.same a (stretches E.same ys)
    unfolding alike stretches
    unlike-off a [] h = tt
    unlike-off a (none ∷ ys) h = off-none E.same a (stretches E.same ys)
    unlike-off a (some b ∷ ys) h = off-some E.same same-eq same_self a b (stretches E.same ys) h

    -- ---- the held reading closed

    closes-absent : (total : ℕ) (used : Answer) (n times : ℕ) (ys : List (Option A)) → Sofar total used n none times ys → Unlike none ys
        → Closes total ys (closing E room (begins E ys) used n none times)
    unfolding closing all_bytes
    closes-absent total used n times ys h u =
        let s : total + 0 ≡ h.spent + cost E (replicate times none ++ ys) =
        subst (λ (l : List A). total + length (all_bytes E l) ≡ h.spent + cost E (map some l ++ (replicate times none ++ ys))) h.apart h.sum in
        record {
          pend = [];
          spent = h.spent + absent_run times;
          paid = spent-more room h.spent (absent_run times) used h.paid;
          count = refl;
          apart = before-none E ys;
          sum = omega (arith, absent-cost E times ys (unlike-absent ys u));
        }

    module _ (total : ℕ) (used : Answer) (n : ℕ) (a : A) where
      -- a value that stands there once is one more that is open, where another value follows
      single-on : (b : A) (ys : List (Option A)) → Sofar total used n (some a) 1 (some b ∷ ys) → E.same a b ≡ false
          → Closes total (some b ∷ ys) (record { used = spending room (length (E.write a)) used; literals = suc n })
      single-on b ys h u =
          let s : total + length (all_bytes E h.pend) ≡ h.spent + cost E (map some (h.pend ++ (a ∷ [])) ++ (some b ∷ ys)) =
          h.sum ∙ ap (λ (l : List (Option A)). h.spent + cost E l) (some_more h.pend a (some b ∷ ys)) in
          record {
            pend = h.pend ++ (a ∷ []);
            spent = h.spent + length (E.write a);
            paid = spent-more room h.spent (length (E.write a)) used h.paid;
            count = omega (arith, h.count, length-append h.pend (a ∷ []));
            apart = (omega arith, pending-more E.same h.pend a (Stretch.literal b [] ∷ []) u h.apart.1);
            sum = omega (arith, all_more E h.pend a);
          }

      -- and ends them, where none does
      single-off : (ys : List (Option A)) → Sofar total used n (some a) 1 ys → NoValue E.same ys
          → Closes total ys (record { used = spending room (literal_head (suc n)) (spending room (length (E.write a)) used); literals = 0 })
      unfolding all_bytes
      single-off ys h v =
          let size = length (E.write a) in
          let head = literal_head (suc n) in
          let k : literal_head (suc n) ≡ literal_head (suc (length h.pend)) = ap (λ (k : ℕ). literal_head (suc k)) h.count in
          record {
            pend = [];
            spent = h.spent + size + head;
            paid = spent-more room (h.spent + size) head (spending room size used) (spent-more room h.spent size used h.paid);
            count = refl;
            apart = before-none E ys;
            sum = omega (arith, h.sum, single-cost E same-eq same_self h.pend a ys h.apart.1 v);
          }

      closes-single : (ys : List (Option A)) → Sofar total used n (some a) 1 ys → Unlike (some a) ys
          → Closes total ys (closing E room (begins E ys) used n (some a) 1)
      unfolding closing alike
      closes-single [] h u = single-off [] h tt
      closes-single (none ∷ ys) h u = single-off (none ∷ ys) h tt
      closes-single (some b ∷ ys) h u = single-on b ys h u

      closes-several : (times : ℕ) (ys : List (Option A)) → Sofar total used n (some a) times ys → Unlike (some a) ys → 2 ≤ times
          → Closes total ys (record {
            used = spending room (length (E.write a)) (spending room (length (i64_bytes (pos times))) (spending room (literal_head n) used));
            literals = 0;
          })
      unfolding all_bytes
      closes-several times ys h u l =
          let size = length (E.write a) in
          let number = length (i64_bytes (pos times)) in
          let head = literal_head n in
          let k : literal_head n ≡ literal_head (length h.pend) = ap literal_head h.count in
          let p = spent-more room h.spent head used h.paid in
          let q = spent-more room (h.spent + head) number (spending room head used) p in
          record {
            pend = [];
            spent = h.spent + head + number + size;
            paid = spent-more room (h.spent + head + number) size (spending room number (spending room head used)) q;
            count = refl;
            apart = before-none E ys;
            sum = omega (arith, h.sum, several-cost E same-eq same_self h.pend a times ys h.apart.1 l (unlike-off a ys u));
          }

    closes : (total : ℕ) (used : Answer) (n : ℕ) (held : Option A) (times : ℕ) (ys : List (Option A)) → Sofar total used n held times ys → Unlike held ys
        → Closes total ys (closing E room (begins E ys) used n held times)
    unfolding closing
    closes total used n none times ys h u = closes-absent total used n times ys h u
    closes total used n (some a) times ys h u =
        cond-by (Closes total ys) (eqb times 1)
        (λ e. let one : times ≡ 1 = eqb-true times 1 e in
        closes-single total used n a ys (subst (λ (k : ℕ). Sofar total used n (some a) k ys) one h) u)
        (λ e. let more : times ≡ 1 → ⊥ = eqb-false times 1 e in
        closes-several total used n a times ys h u (omega (arith, h.apart.0)))

    -- ---- a reading more

    held_more : (n : ℕ) (x : Option A) (ys : List (Option A)) → replicate (suc n) x ++ ys ≡ replicate n x ++ (x ∷ ys)
    held_more zero x ys = refl
    held_more (suc n) x ys = ap (λ (l : List (Option A)). x ∷ l) (held_more n x ys)

    open_more : (l : List A) (x : Option A) (n : ℕ) → Open E l x n → Open E l x (n + 1)
    open_more l none n h = h
    open_more l (some a) n h = (omega arith, h.1)

    sofar-same : (total : ℕ) (used : Answer) (n : ℕ) (held x : Option A) (times : ℕ) (ys : List (Option A)) → held ≡ x
        → Sofar total used n held times (x ∷ ys) → Sofar total used n held (times + 1) ys
    sofar-same total used n held x times ys e h =
        record {
          pend = h.pend;
          spent = h.spent;
          paid = h.paid;
          count = h.count;
          apart = open_more h.pend held times h.apart;
          sum = h.sum
              ∙ ap (λ (l : List (Option A)). h.spent + cost E (map some h.pend ++ l))
              (ap (λ (y : Option A). replicate times held ++ (y ∷ ys)) (sym e)
              ∙ sym (held_more times held ys)
              ∙ ap (λ (k : ℕ). replicate k held ++ ys) (sym (add-one times)));
        }

    sofar-other : (total : ℕ) (used : Answer) (n : ℕ) (held x : Option A) (times : ℕ) (ys : List (Option A)) → alike E held x ≡ false
        → Sofar total used n held times (x ∷ ys)
        → Sofar total (closing E room (is_some x) used n held times).used (closing E room (is_some x) used n held times).literals x 1 ys
    sofar-other total used n held x times ys e h =
        let d = closes total used n held times (x ∷ ys) h e in
        record { pend = d.pend; spent = d.spent; paid = d.paid; count = d.count; apart = d.apart; sum = d.sum }

    ended : (total : ℕ) (used : Answer) (n : ℕ) (held : Option A) (times : ℕ) → Sofar total used n held times []
        → (closing E room false used n held times).used ≡ within 10 room (done total)
    unfolding all_bytes stretches_bytes stretches
    ended total used n held times h =
        let d = closes total used n held times [] h tt in
        let s : total + 0 ≡ d.spent + 0 =
        subst (λ (l : List A). total + length (all_bytes E l) ≡ d.spent + cost E (map some l ++ [])) d.apart d.sum in
        let e : d.spent ≡ total = omega arith in
        d.paid ∙ ap (λ (k : ℕ). within 10 room (done k)) e

    -- ---- the whole list

    any-more : (t : Bool) (x : Option A) (xs : List (Option A)) → t || is_some x || any_present xs ≡ t || any_present (x ∷ xs)
    unfolding any_present
    any-more true x xs = refl
    any-more false none xs = refl
    any-more false (some a) xs = refl

    cut-rest : (total : ℕ) (xs : List (Option A)) (c : Cut A) → Sofar total c.used c.literals c.held c.times xs
        → finished_of E room (fed_all E room c xs) ≡ cond (c.any || any_present xs) (within 10 room (done total)) (done 0)
    unfolding finished_of fed_all fed_of any_present
    cut-rest total [] c h = go c.any
      where
        go : (t : Bool) → cond t (closing E room false c.used c.literals c.held c.times).used (done 0)
            ≡ cond (t || false) (within 10 room (done total)) (done 0)
        go true = ended total c.used c.literals c.held c.times h
        go false = refl
    cut-rest total (x ∷ xs) c h =
        let m = ap (λ (t : Bool). cond t (within 10 room (done total)) (done 0)) (any-more c.any x xs) in
        cond-by (λ (d : Cut A). finished_of E room (fed_all E room d xs) ≡ cond (c.any || any_present (x ∷ xs)) (within 10 room (done total)) (done 0))
        (alike E c.held x)
        (λ e. cut-rest total xs (longer E room c x 1)
        (sofar-same total c.used c.literals c.held x c.times xs (alike-eq c.held x e) h) ∙ m)
        (λ e. cut-rest total xs (turned E room c x 1 (closed_of E room (is_some x) c))
        (sofar-other total c.used c.literals c.held x c.times xs e h) ∙ m)

    -- THE CUT: a list fed from the beginning comes to the bytes of its column
    pub cut-whole : (xs : List (Option A)) → finished_of E room (fed_all E room fresh xs) ≡ within 10 room (done (length (column_bytes E xs)))
    unfolding column_bytes all_bytes
    cut-whole xs =
        cut-rest (cost E xs) xs fresh (record { pend = []; spent = 0; paid = none-spent room; count = refl; apart = refl; sum = omega arith })
        ∙ go (any_present xs)
      where
        go : (t : Bool) → cond t (within 10 room (done (cost E xs))) (done 0)
            ≡ within 10 room (done (length (cond t (stretches_bytes E (stretches E.same xs)) [])))
        go true = refl
        go false = none-spent room
