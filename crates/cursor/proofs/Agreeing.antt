-- A step looks at the column from its position on, and at the column's length: two columns of one length that agree there give the same step,
-- over any element that reads so. Assumes nothing.
use Prim.Native.Nat.{ℕ, zero, suc, ◌-◌, ◌+◌, ◌≤◌, ◌<◌}
use mathlib.Core.Path.{◌≡◌, refl, sym, ◌∙◌, ap}
use mathlib.Core.List.{List}
use mathlib.Core.Bool.{Bool, true, false, cond}
use native.Mathlib.Omega.{arith}
use lib.ListN.{length, drop}
use lib.Seq.{drop-drop}
use lib.Dec.{eqb}
use lib.IntN.{ℤ, pos, negsuc}
use Rattle.leb128.specs.Got.{Got, got, bad}
use Rattle.leb128.specs.Read.{u64_at, i64_at}
use Rattle.leb128.proofs.Laws.{i64-next}
use Rattle.encoding.specs.Walk.{Next, over, on, off}
use Rattle.encoding.specs.Element.{Element}
use Rattle.encoding.specs.Head.{Head, amiss, judged, absent_head, begun, head_at}
use Rattle.encoding.proofs.Elements.{ElementLaws}
use Rattle.encoding.proofs.Columns.{SaneHead, head-known}
use Rattle.cursor.specs.Steps.{Stepped, onto, ready, drawn}
use Rattle.cursor.specs.Kept.{checked}
use Rattle.cursor.specs.Cursor.{Sort, same, literal, Cursor, carried, entered, enter, one_literal, one_of, one, ready_at, step}
use Rattle.cursor.proofs.Cursors.{enter-beyond}

-- two columns of one length that agree from a position on
pub record Agree (s t : List ℕ) (at : ℕ) : Type 0 where
  pub long : length s ≡ length t
  pub from : drop at s ≡ drop at t

pub agree_on : {s t : List ℕ} {at : ℕ} (q : ℕ) → at ≤ q → Agree s t at → Agree s t q
agree_on {s} {t} {at} q l h =
    let e : at + (q - at) ≡ q = omega arith in
    record {
      long = h.long;
      from =
          ap (λ (k : ℕ). drop k s) (sym e) ∙ sym (drop-drop (q - at) at s) ∙ ap (drop (q - at)) h.from ∙ drop-drop (q - at) at t ∙ ap (λ (k : ℕ). drop k t) e;
    }

-- what a reader sees: the bytes from its position on, and the length
abbrev pub Reads : {B : Type 0} → (List ℕ → ℕ → B) → Type 0
Reads read = (s t : List ℕ) (p : ℕ) → Agree s t p → read s p ≡ read t p

-- ---- numbers, and how a run begins

pub u64-reads : Reads u64_at
unfolding u64_at
u64-reads s t p h = rw (h.from, h.long)

pub i64-reads : Reads i64_at
unfolding i64_at
i64-reads s t p h = rw (h.from, h.long)

begun-reads : (s t : List ℕ) (p n : ℕ) (g : Got ℤ) → i64_at s p ≡ g → Agree s t p → begun s p n g ≡ begun t p n g
unfolding begun
begun-reads s t p n (got (pos c) q) e h =
    let l = i64-next s p q (pos c) e in
    ap (λ (g : Got ℕ). cond (eqb c 0) (absent_head n q g) (judged n c p (Head.repeat c q))) (u64-reads s t q (agree_on q (omega (arith, l.0)) h))
begun-reads s t p n (got (negsuc c) q) e h = refl
begun-reads s t p n (bad number place) e h = refl

pub head-reads : (n : ℕ) → Reads (λ s p. head_at s p n)
unfolding head_at
head-reads n s t p h = begun-reads s t p n (i64_at s p) refl h ∙ ap (begun t p n) (i64-reads s t p h)

-- ---- a step: two ways of entering that are alike where P holds, and P holds behind them

module _ {S R : Type 0} (left : S → ℕ) (enter enter' : S → Next S) (one one' : S → Stepped R S) (P : S → Type 0)
    (enters : (c : S) → P c → enter c ≡ enter' c)
    (stays : (c d : S) → P c → enter c ≡ on d → P d)
    (ones : (c : S) → P c → one c ≡ one' c) where
  pub drawn-alike : (f : ℕ) (c : S) → P c → drawn one (ready left enter f c) ≡ drawn one' (ready left enter' f c)
  unfolding ready
  drawn-alike zero c p = refl
  drawn-alike (suc f) c p = go (eqb (left c) 0) (λ d q. drawn-alike f d q)
    where
      into : (x : Next S) → enter c ≡ x → ((d : S) → P d → drawn one (ready left enter f d) ≡ drawn one' (ready left enter' f d))
          → drawn one (onto x (λ d. ready left enter f d)) ≡ drawn one' (onto x (λ d. ready left enter' f d))
      into over e ih = refl
      into (on d) e ih = ih d (stays c d p e)
      into (off number place) e ih = refl

      go : (b : Bool) → ((d : S) → P d → drawn one (ready left enter f d) ≡ drawn one' (ready left enter' f d))
          → drawn one (cond b (onto (enter c) (λ d. ready left enter f d)) (on c)) ≡ drawn one' (cond b (onto (enter' c) (λ d. ready left enter' f d)) (on c))
      go true ih = into (enter c) refl ih ∙ ap (λ (x : Next S). drawn one' (onto x (λ d. ready left enter' f d))) (enters c p)
      go false ih = ones c p

-- ---- over the element

module _ {A : Type 0} (E : Element A) (L : ElementLaws E) (reads : Reads E.read) (s t : List ℕ) where
  entered-agree : (p n : ℕ) (h : Head) → SaneHead (length s) p n h → Agree s t p → entered E s n h ≡ entered E t n h
  unfolding entered
  entered-agree p n (Head.repeat c q) k h = ap (carried n c q) (reads s t q (agree_on q (omega (arith, k.0)) h))
  entered-agree p n (Head.literal c q) k h = refl
  entered-agree p n (Head.absent c q) k h = refl
  entered-agree p n (amiss number place) k h = refl

  enter-agree : (p n : ℕ) → Agree s t p → enter E s p n ≡ enter E t p n
  unfolding enter
  enter-agree p n h =
      let e : entered E s n (head_at s p n) ≡ entered E t n (head_at t p n) =
      entered-agree p n (head_at s p n) (head-known s p n _ refl) h ∙ ap (entered E t n) (head-reads n s t p h) in
      rw (e, h.long)

  one-agree : (c : Cursor A) → Agree s t c.at → (x : Sort A) → one_of E s c x ≡ one_of E t c x
  unfolding one_of
  one-agree c h (same r) = refl
  one-agree c h literal = ap (one_literal c) (reads s t c.at h)

  -- THE LAW: two columns of one length that agree from the cursor's position on give the same step
  pub step-agrees : (c : Cursor A) → Agree s t c.at → step E s c ≡ step E t c
  unfolding step ready_at
  step-agrees c h =
      drawn-alike (λ d. d.left) (λ d. enter E s d.at d.had) (λ d. enter E t d.at d.had) (one E s) (one E t) (λ d. Agree s t d.at)
      (λ d p. enter-agree d.at d.had p)
      (λ c d p e. let l = enter-beyond E L s c.at c.had d e in agree_on d.at (omega (arith, l.0)) p) (λ d p. one-agree d p d.sort) (suc (length s - c.at)) c h
      ∙ ap (λ (k : ℕ). drawn (one E t) (ready (λ d. d.left) (λ d. enter E t d.at d.had) (suc (k - c.at)) c)) h.long

-- and so does the step of a state that is checked
pub checked-agrees : {R S : Type 0} (s t : List ℕ) (len at : ℕ) {x y : Stepped R S} → Agree s t at → x ≡ y → checked len at s x ≡ checked len at t y
unfolding checked
checked-agrees s t len at h e = rw (h.long, e) refl
