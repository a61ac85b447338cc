-- Laws of a cursor in a boolean column: a step from any cursor gives the first of what is to come there, so from the fresh cursor the calls say
-- the column's trace (`says-turns`). It goes ahead or stays, never past the end (`turn-within`), and looks at nothing before its position
-- (`turn-agrees`). And the step as code takes it. Assumes nothing.
use Prim.Native.Nat.{ℕ, zero, suc, ◌+◌, ◌-◌, ◌≤◌, ◌<◌}
use mathlib.Core.Path.{◌≡◌, refl, ◌∙◌, ap, subst}
use mathlib.Core.List.{List}
use mathlib.Core.Bool.{Bool, true, false, cond}
use native.Mathlib.Omega.{arith}
use lib.ListN.{length, replicate}
use lib.Dec.{ltb, leb}
use borrow.Author.Tests.{leb-true, lt-ltb, le-ltb, le-leb, lt-leb}
use Rattle.leb128.specs.Got.{Got, got, bad}
use Rattle.leb128.specs.Read.{u64_at}
use Rattle.encoding.specs.Limit.{limit}
use Rattle.encoding.specs.Walk.{Trace, Run, Next, over, on, off, whole, cut, stop, before, onward, after}
use Rattle.encoding.proofs.Lists.{cond-by}
use Rattle.encoding.proofs.Walking.{next-eq}
use Rattle.cursor.specs.Steps.{gives, calls, said, nth, onto, ready, drawn}
use Rattle.cursor.proofs.Stepping.{follows, only, Draws, says, Entering, Holds, keeps, ready-some, ready-none, draws, ready-has}
use Rattle.cursor.proofs.Pieces.{Gives, weight, some_one, some_left_lem}
use Rattle.cursor.proofs.Agreeing.{Agree, agree_on, u64-reads, drawn-alike}
use Rattle.boolean_decoder.specs.Turns.{Turn, turn, counted, turn_at, turns_from, bool_trace}
use Rattle.boolean_decoder.proofs.Turning.{turned, turns-on}
use Rattle.boolean_cursor.specs.TurnCursor.{TurnCursor, turning, byte_of, turn_fresh, counting, enter_turn, turn_ready, one_turn, turn_step, turn_coming}

-- ---- a count by how it reads

module _ (at had flag : ℕ) where
  pub counting-on : (n next f : ℕ) → had + n ≤ limit → f ≡ 1 - flag → counting at had flag (got n next) ≡ on (turning next (had + n) n f)
  unfolding counting
  counting-on n next f m e = simp (le-leb (had + n) limit m, e)

  pub counting-many : (n next : ℕ) → limit < had + n → counting at had flag (got n next) ≡ off 5 at
  unfolding counting
  counting-many n next m = simp (lt-leb (had + n) limit m)

  pub counting-bad : (number place : ℕ) → counting at had flag (bad number place) ≡ off number place
  unfolding counting
  counting-bad number place = refl

module _ (s : List ℕ) where
  -- ---- the count that is entered is the column's

  abbrev turn_of : TurnCursor → Turn
  turn_of c = turn c.at c.had (1 - c.flag)

  abbrev run_of : Next TurnCursor → Run ℕ Turn
  run_of over = stop
  run_of (on d) = whole (replicate d.left (byte_of d.flag)) (turn_of d)
  run_of (off number place) = cut number place

  run_is : (at had flag : ℕ) → turn_at s (turn at had (1 - flag)) ≡ run_of (enter_turn s at had flag)
  unfolding turn_at enter_turn counted counting
  run_is at had flag = go (ltb at (length s))
    where
      within : (n next : ℕ) (b : Bool)
          → cond b (whole (replicate n (1 - flag)) (turn next (had + n) (1 - (1 - flag)))) (cut 5 at)
          ≡ run_of (cond b (on (turning next (had + n) n (1 - flag))) (off 5 at))
      within n next true = let e : 1 - flag ≡ byte_of (1 - flag) = omega arith in ap (λ (b : ℕ). whole (replicate n b) (turn next (had + n) (1 - (1 - flag)))) e
      within n next false = refl

      read : (g : Got ℕ) → counted (turn at had (1 - flag)) g ≡ run_of (counting at had flag g)
      read (got n next) = within n next (leb (had + n) limit)
      read (bad number place) = refl

      go : (b : Bool) → cond b (counted (turn at had (1 - flag)) (u64_at s at)) stop ≡ run_of (cond b (counting at had flag (u64_at s at)) over)
      go true = read (u64_at s at)
      go false = refl

  -- where one is entered, the cursor goes ahead, and stays within
  enter-beyond : (at had flag : ℕ) (d : TurnCursor) → enter_turn s at had flag ≡ on d → (at < d.at) × (d.at ≤ length s)
  enter-beyond at had flag d e =
      let h = turned s (turn at had (1 - flag)) (turn_of d) (next-eq (run_is at had flag) ∙ ap (λ (x : Next TurnCursor). (run_of x).next) e) in
      (h.ahead, h.within)

  pub enter-falls : (at had flag : ℕ) (d : TurnCursor) → enter_turn s at had flag ≡ on d → length s - d.at < length s - at
  enter-falls at had flag d e = let h = enter-beyond at had flag d e in omega (arith, h.0, h.1)

  abbrev entering : Entering TurnCursor
  entering =
      record {
        left = λ c. c.left;
        enter = λ c. enter_turn s c.at c.had c.flag;
        size = λ c. length s - c.at;
        falls = λ c d e. enter-falls c.at c.had c.flag d e;
      }

  -- ---- the step draws what is to come

  coming-into : (x : Next TurnCursor) → onward (run_of x) (λ z. turns_from s z) ≡ after x (turn_coming s)
  unfolding turn_coming
  coming-into over = refl
  coming-into (on d) = refl
  coming-into (off number place) = refl

  coming-enters : (c : TurnCursor) → c.left ≡ 0 → turn_coming s c ≡ after (enter_turn s c.at c.had c.flag) (turn_coming s)
  unfolding turn_coming
  coming-enters c e =
      ap (λ (k : ℕ). before (replicate k (byte_of c.flag)) (turns_from s (turn_of c))) e ∙ turns-on s (turn_of c)
      ∙ ap (λ (r : Run ℕ Turn). onward r (λ z. turns_from s z)) (run_is c.at c.had c.flag) ∙ coming-into (enter_turn s c.at c.had c.flag)

  coming-one : (at had left flag : ℕ) → 0 < left → turn_coming s (turning at had left flag) ≡ follows only (turn_coming s) (one_turn (turning at had left flag))
  unfolding turn_coming one_turn
  coming-one at had zero flag l = absurd (omega arith)
  coming-one at had (suc k) flag l =
      let e : k ≡ suc k - 1 = omega arith in
      ap (λ (j : ℕ). follows only (turn_coming s) (gives (byte_of flag) (turning at had j flag))) e

  -- THE LAW OF A STEP: from any cursor it gives the first of what is to come there
  pub draws-turn : Draws only (turn_step s) (turn_coming s)
  unfolding turn_step turn_ready
  draws-turn c = draws entering one_turn only (turn_coming s) coming-enters (λ d l. coming-one d.at d.had d.left d.flag l) c

  -- before the first count the whole column is to come
  coming-fresh : turn_coming s turn_fresh ≡ bool_trace s
  unfolding turn_coming bool_trace
  coming-fresh = refl

  -- THE LAW OF THE CALLS: from the fresh cursor they say the readings of the trace in order, and then its ending, however often asked
  pub says-turns : (n : ℕ) → said (turn_step s (calls (turn_step s) n turn_fresh)) ≡ nth (bool_trace s) n
  says-turns n = says (turn_step s) (turn_coming s) draws-turn n turn_fresh ∙ ap (λ (t : Trace ℕ). nth t n) coming-fresh

  -- it stays within the column
  pub turn-within : (c : TurnCursor) → c.at ≤ length s → Holds (λ d. d.at ≤ length s) (turn_step s c)
  unfolding turn_step turn_ready one_turn
  turn-within c w =
      keeps entering one_turn (λ d. d.at ≤ length s) (λ d. d.at ≤ length s) (λ x y p h. (enter-beyond x.at x.had x.flag y h).1) (λ x p l. p) c w

  -- ---- the reading of a step and the count behind it

  -- a count that is entered stays within the limit
  abbrev Within : Next TurnCursor → Type 0
  Within over = Unit {0}
  Within (on d) = d.left ≤ limit
  Within (off number place) = Unit {0}

  enter-within : (at had flag : ℕ) (d : TurnCursor) → enter_turn s at had flag ≡ on d → d.left ≤ limit
  unfolding enter_turn counting
  enter-within at had flag d e = subst Within e (cond-by Within (ltb at (length s)) (λ t. read (u64_at s at)) (λ t. tt))
    where
      read : (g : Got ℕ) → Within (counting at had flag g)
      read (got n next) = cond-by Within (leb (had + n) limit) (λ t. let l = leb-true (had + n) limit t in omega arith) (λ t. tt)
      read (bad number place) = tt

  -- inside a count
  pub turn-same : (at had left flag : ℕ) → 0 < left → turn_step s (turning at had left flag) ≡ gives (byte_of flag) (turning at had (left - 1) flag)
  unfolding turn_step turn_ready one_turn
  turn-same at had left flag l = ap (drawn one_turn) (ready-some entering (turning at had left flag) l)

  -- behind a step from c that gives r: within the column; fewer than b are left, where no more were and no count has more; each is r; and where a
  -- piece takes them all the weight falls
  abbrev pub TurnGiven : ℕ → TurnCursor → ℕ → TurnCursor → Type 0
  TurnGiven b c r d =
      (d.at ≤ length s) × (d.left < b) × (byte_of d.flag ≡ r) × (length s - d.at < weight (length s) c.at c.left)

  pub turn-given : (b : ℕ) (c : TurnCursor) → limit ≤ b → c.at ≤ length s → c.left ≤ b → Gives (TurnGiven b c) (turn_step s c)
  unfolding turn_step turn_ready one_turn
  turn-given b c m w l = go (turn_ready s c) refl
    where
      P : TurnCursor → Type 0
      P x = (x.at ≤ length s) × (x.left ≤ b) × (weight (length s) x.at x.left ≤ weight (length s) c.at c.left)

      into : (x y : TurnCursor) → P x → enter_turn s x.at x.had x.flag ≡ on y → P y
      into x y p h =
          let k = enter-beyond x.at x.had x.flag y h in
          (k.1, omega (arith, enter-within x.at x.had x.flag y h), omega (arith, p.2, k.0, k.1, some_one y.left))

      go : (x : Next TurnCursor) → turn_ready s c ≡ x → Gives (TurnGiven b c) (drawn one_turn x)
      go over e = tt
      go (on d) e =
          let h = ready-has entering P into c d (w, l, omega arith) e in
          let p = h.0 in
          (p.0, omega (arith, p.1, h.1), refl, omega (arith, p.2, some_left_lem d.left h.1))
      go (off number place) e = tt

  -- ---- the step as code takes it: the present count, where some of it is left; else the next one, and what is ready from there

  pub enter-read : (at had flag : ℕ) (g : Got ℕ) → at < length s → u64_at s at ≡ g → enter_turn s at had flag ≡ counting at had flag g
  unfolding enter_turn
  enter-read at had flag g l e = simp (lt-ltb at (length s) l, e)

  pub enter-end : (at had flag : ℕ) → length s ≤ at → enter_turn s at had flag ≡ over
  unfolding enter_turn
  enter-end at had flag l = simp (le-ltb at (length s) l)

  pub ready-left : (c : TurnCursor) → 0 < c.left → turn_ready s c ≡ on c
  unfolding turn_ready
  ready-left c l = ready-some entering c l

  -- what is ready has a reading left
  pub ready-left-some : (c d : TurnCursor) → turn_ready s c ≡ on d → 0 < d.left
  unfolding turn_ready
  ready-left-some c d e = (ready-has entering (λ x. Unit {0}) (λ x y p h. tt) c d tt e).1

  pub ready-into : (c : TurnCursor) (x : Next TurnCursor) → c.left ≡ 0 → enter_turn s c.at c.had c.flag ≡ x → turn_ready s c ≡ onto x (turn_ready s)
  unfolding turn_ready
  ready-into c x z e = ready-none entering c x z e

-- ---- two columns of one length that agree from the cursor's position on give the same step

module _ (s t : List ℕ) where
  enter-agree : (at had flag : ℕ) → Agree s t at → enter_turn s at had flag ≡ enter_turn t at had flag
  unfolding enter_turn
  enter-agree at had flag h = rw (u64-reads s t at h, h.long)

  pub turn-agrees : (c : TurnCursor) → Agree s t c.at → turn_step s c ≡ turn_step t c
  unfolding turn_step turn_ready
  turn-agrees c h =
      drawn-alike (λ d. d.left) (λ d. enter_turn s d.at d.had d.flag) (λ d. enter_turn t d.at d.had d.flag) one_turn one_turn (λ d. Agree s t d.at)
      (λ d p. enter-agree d.at d.had d.flag p)
      (λ c d p e. let l = enter-beyond s c.at c.had c.flag d e in agree_on d.at (omega (arith, l.0)) p) (λ d p. refl) (suc (length s - c.at)) c h
      ∙ ap (λ (k : ℕ). drawn one_turn (ready (λ d. d.left) (λ d. enter_turn t d.at d.had d.flag) (suc (k - c.at)) c)) h.long
