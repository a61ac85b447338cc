-- What the calls that write a list cite: a list that is judged good has bytes 0 and 1; the same answer for equal bytes, and the
-- answer for none. Assumes nothing.
use Prim.Native.Nat.{ℕ, zero, suc}
use mathlib.Core.Path.{◌≡◌, refl, sym, subst}
use mathlib.Core.List.{List, [], ◌∷◌}
use mathlib.Core.Option.{Option, none, some}
use mathlib.Core.Bool.{Bool, true, false, cond}
use native.Mathlib.Omega.{arith}
use lib.Dec.{eqb, leb}
use lib.ListN.{length}
use borrow.Author.Tests.{leb-true, le-leb}
use Rattle.leb128.specs.Answer.{Answer, done, refused, within, left}
use Rattle.encoding.specs.Given.{bad_flag, flags_judged, list_judged, sized, Encoded}
use Rattle.boolean_decoder.specs.Turns.{bool_trace}
use Rattle.boolean_decoder.proofs.Clean.{read-clean}
use Rattle.boolean_encoder.specs.Ahead.{Flags}

-- ---- a list that is judged good

flags-good : (i : ℕ) (xs : List ℕ) → bad_flag i xs ≡ none → Flags xs
unfolding bad_flag
flags-good i [] e k l = absurd (omega arith)
flags-good i (b ∷ xs) e k l = go (leb b 1) refl e (flags-good (suc i) xs) k l
  where
    go : (t : Bool) → leb b 1 ≡ t → cond t (bad_flag (suc i) xs) (some i) ≡ none → (bad_flag (suc i) xs ≡ none → Flags xs) → Flags (b ∷ xs)
    go true h z r zero l = leb-true b 1 h
    go true h z r (suc k) l = r z k (omega arith)
    go false h z r k l = let y : ◌≡◌ {A = ℕ} 0 1 = cc in absurd (omega arith)

-- what a column reads as is one
pub read_flags : (s : List ℕ) → Flags (bool_trace s).readings
read_flags s = flags-good 0 (bool_trace s).readings (read-clean s 0)

pub judged-flags : (n m : ℕ) (p : List ℕ) → list_judged n p ≡ done m → Flags p
unfolding list_judged flags_judged
judged-flags n m p e = go (eqb n (length p)) e
  where
    flags : (b : Option ℕ) → bad_flag 0 p ≡ b → flags_judged n b ≡ done m → Flags p
    flags none h z = flags-good 0 p h
    flags (some i) h z = let y : ◌≡◌ {A = ℕ} 0 1 = cc in absurd (omega arith)

    go : (t : Bool) → cond t (flags_judged n (bad_flag 0 p)) (refused 8 0) ≡ done m → Flags p
    go true z = flags (bad_flag 0 p) refl z
    go false z = let y : ◌≡◌ {A = ℕ} 0 1 = cc in absurd (omega arith)

-- ---- the two forms

pub sized-as : {w w' : List ℕ} (j : Answer) {o : Answer} → w ≡ w' → o ≡ sized w j → o ≡ sized w' j
sized-as j {o = o} e h = subst (λ (b : List ℕ). o ≡ sized b j) e h

pub encoded-as : {w w' : List ℕ} {j o : Answer} {out out' : List ℕ} → w ≡ w' → Encoded w j out out' o → Encoded w' j out out' o
encoded-as {j = j} {o = o} {out = out} {out' = out'} e h = subst (λ (b : List ℕ). Encoded b j out out' o) e h

-- no bytes fit into any output, and leave it unchanged
pub encoded-nothing : {j o : Answer} {out : List ℕ} → o ≡ sized [] j → Encoded [] j out out o
unfolding sized within left
encoded-nothing {j = j} {out = out} e = subst (λ (o : Answer). Encoded [] j out out o) (sym e) (go j)
  where
    go : (j : Answer) → Encoded [] j out out (sized [] j)
    go (done n) = record { answer = simp (le-leb 0 (length out) (omega arith)); output = refl }
    go (refused number place) = record { answer = refl; output = refl }
