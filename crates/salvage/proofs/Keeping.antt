-- What a walk keeps of its readings where its runs keep theirs, over any two ways of reading runs, the second with more bytes behind: the readings of the
-- first are those that the second begins with, whatever its ending; and where its fault is final the second walk is the first. Assumes nothing.
use Prim.Native.Nat.{ℕ, zero, suc, ◌≤◌}
use mathlib.Core.Path.{◌≡◌, refl, sym, ◌∙◌, ap}
use mathlib.Core.List.{List, [], ◌++◌, append_assoc, append-nil}
use native.Mathlib.Omega.{arith}
use Rattle.encoding.specs.Walk.{Ending, sound, fault, Trace, Next, over, on, off, Run, before, after, onward, walk}
use Rattle.salvage.specs.Kept.{Prefix, Final, Lasting}

-- ---- prefixes

pub prefix-nil : {R : Type 0} (ys : List R) → Prefix [] ys
prefix-nil ys = record { rest = ys; split = refl }

pub prefix-self : {R : Type 0} (xs : List R) → Prefix xs xs
prefix-self xs = record { rest = []; split = sym (append-nil xs) }

pub prefix-behind : {R : Type 0} (ws xs ys : List R) → Prefix xs ys → Prefix (ws ++ xs) (ws ++ ys)
prefix-behind ws xs ys h = record { rest = h.rest; split = ap (λ l. ws ++ l) h.split ∙ sym (append_assoc ws xs h.rest) }

pub prefix-left : {R : Type 0} (xs ys zs : List R) → Prefix xs ys → Prefix xs (ys ++ zs)
prefix-left xs ys zs h = record { rest = h.rest ++ zs; split = ap (λ l. l ++ zs) h.split ∙ append_assoc xs h.rest zs }

-- ---- of a trace, by its ending

abbrev pub Ends : {R : Type 0} → List R → Ending → Trace R → Type 0
Ends xs sound t = Prefix xs t.readings
Ends xs (fault number place) t = Prefix xs t.readings × (Final number → t ≡ record { readings = xs; ending = fault number place })

abbrev pub Keeps : {R : Type 0} → Trace R → Trace R → Type 0
Keeps t u = Ends t.readings t.ending u

ends-self : {R : Type 0} (xs : List R) (e : Ending) → Ends xs e (record { readings = xs; ending = e })
ends-self xs sound = prefix-self xs
ends-self xs (fault number place) = (prefix-self xs, λ f. refl)

pub keeps_self : {R : Type 0} (t : Trace R) → Keeps t t
keeps_self t = ends-self t.readings t.ending

ends-before : {R : Type 0} (ws xs : List R) (e : Ending) (u : Trace R) → Ends xs e u → Ends (ws ++ xs) e (before ws u)
ends-before ws xs sound u h = prefix-behind ws xs u.readings h
ends-before ws xs (fault number place) u h = (prefix-behind ws xs u.readings h.0, λ f. ap (before ws) (h.1 f))

pub keeps-before : {R : Type 0} (ws : List R) (t u : Trace R) → Keeps t u → Keeps (before ws t) (before ws u)
keeps-before ws t u h = ends-before ws t.readings t.ending u h

ends-prefix : {R : Type 0} (xs : List R) (e : Ending) (u : Trace R) → Ends xs e u → Prefix xs u.readings
ends-prefix xs sound u h = h
ends-prefix xs (fault number place) u h = h.0

keeps-prefix : {R : Type 0} (t u : Trace R) → Keeps t u → Prefix t.readings u.readings
keeps-prefix t u h = ends-prefix t.readings t.ending u h

keeps-final : {R : Type 0} (t u : Trace R) (number place : ℕ) → Keeps t u → t.ending ≡ fault number place → Final number → u ≡ t
keeps-final t u number place h e f = go t.ending e h
  where
    go : (x : Ending) → x ≡ fault number place → Ends t.readings x u → u ≡ record { readings = t.readings; ending = x }
    go sound e h = let z : ◌≡◌ {A = ℕ} 0 1 = cc in absurd (omega arith)
    go (fault m k) e h = let z : m ≡ number = cc in h.1 (rw z f)

-- what a column keeps of its traces lasts
pub keeps-lasting : {R : Type 0} (read : List ℕ → Trace R) → ((s u : List ℕ) → Keeps (read s) (read (s ++ u))) → Lasting read
keeps-lasting read h =
    record {
      prefix = λ s u. keeps-prefix (read s) (read (s ++ u)) (h s u);
      final = λ s u number place e f. keeps-final (read s) (read (s ++ u)) number place (h s u) e f;
    }

-- ---- of a run, by what follows it

abbrev pub Follows : {R S : Type 0} → List R → Next S → Run R S → Type 0
Follows xs over r = Prefix xs r.readings
Follows xs (on z) r = r ≡ record { readings = xs; next = on z }
Follows xs (off number place) r = Prefix xs r.readings × (Final number → r ≡ record { readings = xs; next = off number place })

abbrev pub KeepsRun : {R S : Type 0} → Run R S → Run R S → Type 0
KeepsRun q r = Follows q.readings q.next r

follows-self : {R S : Type 0} (xs : List R) (x : Next S) → Follows xs x (record { readings = xs; next = x })
follows-self xs over = prefix-self xs
follows-self xs (on z) = refl
follows-self xs (off number place) = (prefix-self xs, λ f. refl)

pub keeps-run : {R S : Type 0} (r : Run R S) → KeepsRun r r
keeps-run r = follows-self r.readings r.next

-- ---- run by run

module _ {R S : Type 0} where
  onward-follows : (xs : List R) (x : Next S) (r : Run R S) (k l : S → Trace R) → Follows xs x r → ((z : S) → Keeps (k z) (l z))
      → Keeps (before xs (after x k)) (onward r l)
  onward-follows xs over r k l h f =
      let p : Prefix (xs ++ []) r.readings = rw (append-nil xs) h in
      prefix-left (xs ++ []) r.readings (after r.next l).readings p
  onward-follows xs (on z) r k l h f = rw h (keeps-before xs (k z) (l z) (f z))
  onward-follows xs (off number place) r k l h f =
      let p : Prefix (xs ++ []) r.readings = rw (append-nil xs) h.0 in
      (prefix-left (xs ++ []) r.readings (after r.next l).readings p, λ g. ap (λ (r : Run R S). onward r l) (h.1 g))

  onward-keeps : (q r : Run R S) (k l : S → Trace R) → KeepsRun q r → ((z : S) → Keeps (k z) (l z)) → Keeps (onward q k) (onward r l)
  onward-keeps q r k l h f = onward-follows q.readings q.next r k l h f

  module _ (run more : S → Run R S) (keeps : (st : S) → KeepsRun (run st) (more st)) where
    pub walk-keeps : (f g : ℕ) → f ≤ g → (st : S) → Keeps (walk run f st) (walk more g st)
    unfolding walk
    walk-keeps zero zero l st = onward-keeps (run st) (more st) _ _ (keeps st) (λ z. prefix-nil [])
    walk-keeps zero (suc g) l st = onward-keeps (run st) (more st) _ _ (keeps st) (λ z. prefix-nil (walk more g z).readings)
    walk-keeps (suc f) zero l st = absurd (omega arith)
    walk-keeps (suc f) (suc g) l st = onward-keeps (run st) (more st) _ _ (keeps st) (λ z. walk-keeps f g (omega arith) z)
