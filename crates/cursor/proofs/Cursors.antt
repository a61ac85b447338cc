-- Laws of a cursor in a run-length column, over the element: a step from any cursor gives the first of what is to come there (`draws-one`),
-- so from the fresh cursor the calls say the column's trace (`says-trace`). And the step as code takes it. Assumes nothing.
use Prim.Native.Nat.{ℕ, zero, suc, ◌+◌, ◌-◌, ◌≤◌, ◌<◌}
use mathlib.Core.Path.{◌≡◌, refl, ◌∙◌, ap, subst}
use mathlib.Core.List.{List}
use mathlib.Core.Bool.{Bool, true, false, cond}
use native.Mathlib.Omega.{arith}
use native.Mathlib.Nat.{zero-add}
use lib.ListN.{length, replicate}
use lib.Dec.{ltb}
use borrow.Author.Tests.{lt-ltb, le-ltb}
use Rattle.leb128.specs.Got.{Got, got, bad}
use Rattle.encoding.specs.Limit.{limit}
use Rattle.encoding.specs.Walk.{Trace, Run, Next, over, on, off, stop, cut, before, onward, after}
use Rattle.encoding.specs.Element.{Element}
use Rattle.encoding.specs.Head.{Head, amiss, head_at}
use Rattle.encoding.specs.Column.{Reading, present, Spot, spot, repeated, literal_next, literals, run_of, run_at, trace_from, trace}
use Rattle.encoding.proofs.Lists.{cond-by}
use Rattle.encoding.proofs.Elements.{ElementLaws}
use Rattle.encoding.proofs.Columns.{SaneHead, head-known, trace-on}
use Rattle.cursor.specs.Steps.{gives, calls, said, nth, onto}
use Rattle.cursor.specs.Cursor.{Sort, same, literal, Cursor, cursor, fresh, carried, entered, enter, one_literal, one_of, one, ready_at, step, left_of, coming}
use Rattle.cursor.proofs.Stepping.{follows, only, Draws, says, Entering, ready-some, ready-none, draws}

module _ {A : Type 0} (E : Element A) (s : List ℕ) where
  -- ---- the run that is entered is the column's

  abbrev as_run : Next (Cursor A) → Run (Reading A) Spot
  as_run over = stop
  as_run (on d) = left_of E s d d.sort
  as_run (off number place) = cut number place

  opened-is : (had : ℕ) (h : Head) → run_of E s had h ≡ as_run (entered E s had h)
  unfolding run_of entered left_of repeated carried
  opened-is had (Head.repeat c q) = go (E.read s q)
    where
      go : (g : Got A) → repeated had c q g ≡ as_run (carried had c q g)
      go (got a next) = refl
      go (bad number place) = refl
  opened-is had (Head.literal c q) = refl
  opened-is had (Head.absent c next) = refl
  opened-is had (amiss number place) = refl

  run_is : (at had : ℕ) → run_at E s (spot at had) ≡ as_run (enter E s at had)
  unfolding run_at enter
  run_is at had = go (ltb at (length s))
    where
      go : (b : Bool) → cond b (run_of E s had (head_at s at had)) stop ≡ as_run (cond b (entered E s had (head_at s at had)) over)
      go true = opened-is had (head_at s at had)
      go false = refl

  -- ---- what is to come where none of a run is left, and where some is

  coming-none : (at had : ℕ) (x : Sort A) → coming E s (cursor at had 0 x) ≡ trace_from E s (spot at had)
  unfolding coming left_of literals
  coming-none at had (same r) = refl
  coming-none at had literal = refl

  coming-into : (x : Next (Cursor A)) → onward (as_run x) (λ z. trace_from E s z) ≡ after x (coming E s)
  unfolding coming
  coming-into over = refl
  coming-into (on d) = refl
  coming-into (off number place) = refl

  -- k readings of a run in which all are the same, and the run behind them
  pub coming-take : (at had k left : ℕ) (r : Reading A)
      → coming E s (cursor at had (k + left) (same r)) ≡ before (replicate k r) (coming E s (cursor at had left (same r)))
  unfolding coming left_of
  coming-take at had zero left r = ap (λ (j : ℕ). coming E s (cursor at had j (same r))) (zero-add left)
  coming-take at had (suc k) left r =
      let e : suc k + left ≡ suc (k + left) = omega arith in
      ap (λ (j : ℕ). coming E s (cursor at had j (same r))) e ∙ ap (before (only r)) (coming-take at had k left r)

  pub coming-literal : (at had left : ℕ) → 0 < left
      → coming E s (cursor at had left literal) ≡ follows only (coming E s) (one_literal (cursor at had left literal) (E.read s at))
  unfolding coming left_of literals literal_next one_literal
  coming-literal at had zero l = absurd (omega arith)
  coming-literal at had (suc k) l = go (E.read s at)
    where
      go : (g : Got A)
          → onward (literal_next at g (λ z. literals E s had k z)) (λ z. trace_from E s z)
          ≡ follows only (coming E s) (one_literal (cursor at had (suc k) literal) g)
      go (got a z) =
          let e : k ≡ suc k - 1 = omega arith in
          ap (λ (j : ℕ). follows only (coming E s) (gives (present a at) (cursor z had j literal))) e
      go (bad number place) = refl

  coming-one : (at had left : ℕ) (x : Sort A) → 0 < left
      → coming E s (cursor at had left x) ≡ follows only (coming E s) (one_of E s (cursor at had left x) x)
  unfolding one_of
  coming-one at had left (same r) l =
      let e : left ≡ 1 + (left - 1) = omega arith in
      ap (λ (j : ℕ). coming E s (cursor at had j (same r))) e ∙ coming-take at had 1 (left - 1) r
  coming-one at had left literal l = coming-literal at had left l

-- ---- entering a run goes ahead, and stays within; and its count stays within the limit

abbrev Beyond : {A : Type 0} → ℕ → ℕ → Next (Cursor A) → Type 0
Beyond len p over = Unit {0}
Beyond len p (on d) = (p < d.at) × (d.at ≤ len) × (d.left ≤ limit)
Beyond len p (off number place) = Unit {0}

module _ {A : Type 0} (E : Element A) (L : ElementLaws E) (s : List ℕ) where
  entered-beyond : (p n : ℕ) (h : Head) → SaneHead (length s) p n h → Beyond (length s) p (entered E s n h)
  unfolding entered carried
  entered-beyond p n (Head.repeat c q) h = go (E.read s q) refl
    where
      go : (g : Got A) → E.read s q ≡ g → Beyond (length s) p (carried n c q g)
      go (got a z) e = let l = L.ahead s q z a e in (omega (arith, h.0), L.within s q z a e, omega (arith, h.2))
      go (bad number place) e = tt
  entered-beyond p n (Head.literal c q) h = (h.0, h.1, omega (arith, h.2))
  entered-beyond p n (Head.absent c q) h = (h.0, h.1, omega (arith, h.2))
  entered-beyond p n (amiss number place) h = tt

  pub enter-beyond : (at had : ℕ) (d : Cursor A) → enter E s at had ≡ on d → (at < d.at) × (d.at ≤ length s) × (d.left ≤ limit)
  unfolding enter
  enter-beyond at had d e =
      subst (Beyond (length s) at) e
      (cond-by (Beyond (length s) at) (ltb at (length s)) (λ t. entered-beyond at had (head_at s at had) (head-known s at had _ refl)) (λ t. tt))

  pub enter-falls : (at had : ℕ) (d : Cursor A) → enter E s at had ≡ on d → length s - d.at < length s - at
  enter-falls at had d e = let h = enter-beyond at had d e in omega (arith, h.0, h.1)

  abbrev pub entering : Entering (Cursor A)
  entering =
      record {
        left = λ c. c.left;
        enter = λ c. enter E s c.at c.had;
        size = λ c. length s - c.at;
        falls = λ c d e. enter-falls c.at c.had d e;
      }

  -- ---- the step draws what is to come

  pub coming-enters : (c : Cursor A) → c.left ≡ 0 → coming E s c ≡ after (enter E s c.at c.had) (coming E s)
  coming-enters c e =
      ap (λ (k : ℕ). coming E s (cursor c.at c.had k c.sort)) e ∙ coming-none E s c.at c.had c.sort
      ∙ trace-on E L s (spot c.at c.had) ∙ ap (λ (r : Run (Reading A) Spot). onward r (λ z. trace_from E s z)) (run_is E s c.at c.had)
      ∙ coming-into E s (enter E s c.at c.had)

  -- THE LAW OF A STEP: from any cursor it gives the first of what is to come there
  pub draws-one : Draws only (step E s) (coming E s)
  unfolding step ready_at
  draws-one c =
      draws entering (one E s) only (coming E s) coming-enters (λ d l. coming-one E s d.at d.had d.left d.sort l) c

  -- before the first run the whole column is to come
  pub coming-fresh : coming E s fresh ≡ trace E s
  unfolding trace
  coming-fresh = coming-none E s 0 0 _

  -- THE LAW OF THE CALLS: from the fresh cursor they say the readings of the trace in order, and then its ending, however often asked
  pub says-trace : (n : ℕ) → said (step E s (calls (step E s) n fresh)) ≡ nth (trace E s) n
  says-trace n = says (step E s) (coming E s) draws-one n fresh ∙ ap (λ (t : Trace (Reading A)). nth t n) coming-fresh

  -- ---- the step as code takes it: the present run, where some of it is left; else the next run, and what is ready from there

  pub enter-head : (at had : ℕ) (h : Head) → at < length s → head_at s at had ≡ h → enter E s at had ≡ entered E s had h
  unfolding enter
  enter-head at had h l e = simp (lt-ltb at (length s) l, e)

  pub enter-end : (at had : ℕ) → length s ≤ at → enter E s at had ≡ over
  unfolding enter
  enter-end at had l = simp (le-ltb at (length s) l)

  pub ready-left : (c : Cursor A) → 0 < c.left → ready_at E s c ≡ on c
  unfolding ready_at
  ready-left c l = ready-some entering c l

  pub ready-into : (c : Cursor A) (x : Next (Cursor A)) → c.left ≡ 0 → enter E s c.at c.had ≡ x → ready_at E s c ≡ onto x (ready_at E s)
  unfolding ready_at
  ready-into c x z e = ready-none entering c x z e
