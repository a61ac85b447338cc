-- What pieces need of a step, over the element: inside a run in which all are the same each step gives its reading (`step_same`); and what stands behind
-- a step from any cursor (`step_given`), where fewer bytes are to come, or the run ends with the piece, so that pieces are few (`proofs/Taking.antt`).
-- Assumes nothing.
use Prim.Native.Nat.{ℕ, zero, suc, ◌+◌, ◌-◌, ◌≤◌, ◌<◌}
use mathlib.Core.Path.{◌≡◌, refl, ap}
use mathlib.Core.List.{List}
use native.Mathlib.Omega.{arith}
use lib.ListN.{length}
use Rattle.leb128.specs.Got.{Got, got, bad}
use Rattle.encoding.specs.Element.{Element}
use Rattle.encoding.specs.Limit.{limit}
use Rattle.encoding.specs.Walk.{Next, over, on, off}
use Rattle.encoding.specs.Column.{Reading}
use Rattle.encoding.proofs.Elements.{ElementLaws}
use Rattle.cursor.specs.Steps.{Stepped, ends, gives, drawn}
use Rattle.cursor.specs.Cursor.{Sort, same, literal, Cursor, cursor, enter, one_literal, one_of, one, ready_at, step}
use Rattle.cursor.proofs.Stepping.{ready-has}
use Rattle.cursor.proofs.Cursors.{entering, enter-beyond, ready-left}

-- the bytes to come in a column of len, and one more inside a run
abbrev pub some_left : ℕ → ℕ
some_left zero = 0
some_left (suc k) = 1

abbrev pub weight : ℕ → ℕ → ℕ → ℕ
weight len at left = (len - at) + some_left left

pub some_one : (n : ℕ) → some_left n ≤ 1
some_one zero = omega arith
some_one (suc k) = omega arith

pub some_left_lem : (n : ℕ) → 0 < n → some_left n ≡ 1
some_left_lem zero l = absurd (omega arith)
some_left_lem (suc k) l = refl

-- behind a step from where the weight was w it is less: that of what a piece leaves, which takes all that are left where they are the same
abbrev pub Fallen : {A : Type 0} → ℕ → ℕ → ℕ → ℕ → Sort A → Type 0
Fallen len w at left (same r) = len - at < w
Fallen len w at left literal = weight len at left < w

-- it holds of the reading and of the state behind it, where a step gives
abbrev pub Gives : {R S : Type 0} → (R → S → Type 0) → Stepped R S → Type 0
Gives Q (ends e) = Unit {0}
Gives Q (gives r d) = Q r d

-- what is left of a run in which all are the same is the reading r
abbrev pub Again : {A : Type 0} → Reading A → Sort A → Type 0
Again r (same q) = q ≡ r
Again r literal = Unit {0}

module _ {A : Type 0} (E : Element A) (L : ElementLaws E) (s : List ℕ) where
  -- inside a run in which all are the same
  pub step_same : (at had left : ℕ) (r : Reading A) → 0 < left → step E s (cursor at had left (same r)) ≡ gives r (cursor at had (left - 1) (same r))
  unfolding step one_of
  step_same at had left r l = ap (drawn (one E s)) (ready-left E L s (cursor at had left (same r)) l)

  -- behind a step from c that gives r: within the column; fewer than b are left, where no more were and no run has more; where all that are left
  -- are the same, each is r; and the weight falls
  abbrev pub Given : ℕ → Cursor A → Reading A → Cursor A → Type 0
  Given b c r d =
      (d.at ≤ length s) × (d.left < b) × Again r d.sort × Fallen (length s) (weight (length s) c.at c.left) d.at d.left d.sort

  pub step_given : (b : ℕ) (c : Cursor A) → limit ≤ b → c.at ≤ length s → c.left ≤ b → Gives (Given b c) (step E s c)
  unfolding step ready_at one_of one_literal
  step_given b c m w l = go (ready_at E s c) refl
    where
      P : Cursor A → Type 0
      P x = (x.at ≤ length s) × (x.left ≤ b) × (weight (length s) x.at x.left ≤ weight (length s) c.at c.left)

      ones : (d : Cursor A) (x : Sort A) → P d → 0 < d.left → Gives (Given b c) (one_of E s d x)
      ones d (same r) p h = (p.0, omega (arith, p.1), refl, omega (arith, p.2, some_left_lem d.left h))
      ones d literal p h = read (E.read s d.at) refl
        where
          read : (g : Got A) → E.read s d.at ≡ g → Gives (Given b c) (one_literal d g)
          read (got a z) e =
              let m = L.within s d.at z a e in
              let k = L.ahead s d.at z a e in
              (m, omega (arith, p.1), tt, omega (arith, p.2, some_left_lem d.left h, some_one (d.left - 1)))
          read (bad number place) e = tt

      into : (x y : Cursor A) → P x → enter E s x.at x.had ≡ on y → P y
      into x y p h =
          let k = enter-beyond E L s x.at x.had y h in
          (k.1, omega (arith, k.2), omega (arith, p.2, k.0, k.1, some_one y.left))

      go : (x : Next (Cursor A)) → ready_at E s c ≡ x → Gives (Given b c) (drawn (one E s) x)
      go over e = tt
      go (on d) e =
          let h = ready-has (entering E L s) P into c d (w, l, omega arith) e in
          ones d d.sort h.0 h.1
      go (off number place) e = tt
