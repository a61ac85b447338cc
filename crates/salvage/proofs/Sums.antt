-- What is kept of a delta column lasts, as do the differences that it reads as; its own fault, 6, is final. Assumes nothing.
use Prim.Native.Nat.{ℕ}
use mathlib.Core.Path.{◌≡◌, refl, sym, ◌∙◌, ap}
use mathlib.Core.List.{List, [], ◌∷◌, ◌++◌}
use mathlib.Core.Option.{Option, none, some}
use native.Mathlib.Omega.{arith}
use lib.IntN.{ℤ, pos}
use lib.ListN.{length, length-append}
use Rattle.encoding.specs.Walk.{Ending, sound, fault, Trace}
use Rattle.encoding.specs.Column.{Reading, absent, present, trace}
use Rattle.delta_decoder.specs.Difference.{i64_e}
use Rattle.delta_decoder.specs.Sums.{held_sum, added, add_up, delta_trace}
use Rattle.salvage.specs.Kept.{Lasting}
use Rattle.salvage.proofs.Staying.{i64-stays}
use Rattle.salvage.proofs.Keeping.{prefix-nil, Ends, Keeps, keeps_self, keeps-before, keeps-lasting}
use Rattle.salvage.proofs.Columns.{trace-keeps}

-- differences and an ending, and what stands there instead of the ending
abbrev Behind : Ending → Trace (Reading ℤ) → Type 0
Behind e t = Ends [] e t

abbrev sums : ℤ → Trace (Reading ℤ) → Trace (Reading ℤ)
sums z t = add_up z t.readings t.ending

none-keeps : (z : ℤ) (e : Ending) (t : Trace (Reading ℤ)) → Behind e t → Behind e (sums z t)
unfolding add_up
none-keeps z sound t h = prefix-nil (sums z t).readings
none-keeps z (fault number place) t h = (prefix-nil (sums z t).readings, λ f. ap (sums z) (h.1 f))

up-keeps : (z : ℤ) (xs : List (Reading ℤ)) (e : Ending) (t : Trace (Reading ℤ)) → Behind e t → Keeps (add_up z xs e) (add_up z (xs ++ t.readings) t.ending)
unfolding add_up added
up-keeps z [] e t h = none-keeps z e t h
up-keeps z (absent ∷ xs) e t h =
    keeps-before (absent ∷ []) (add_up z xs e) (add_up z (xs ++ t.readings) t.ending) (up-keeps z xs e t h)
up-keeps z (present d place ∷ xs) e t h = go (held_sum z d) (λ y. up-keeps y xs e t h)
  where
    go : (w : Option ℤ) → ((y : ℤ) → Keeps (add_up y xs e) (add_up y (xs ++ t.readings) t.ending))
        → Keeps (added place w (λ y. add_up y xs e)) (added place w (λ y. add_up y (xs ++ t.readings) t.ending))
    go none k = keeps_self (record { readings = []; ending = fault 6 place })
    go (some y) k = keeps-before (present y place ∷ []) (add_up y xs e) (add_up y (xs ++ t.readings) t.ending) (k y)

-- what a trace keeps, cut apart: it is followed by what its ending keeps
record Cut (xs : List (Reading ℤ)) (e : Ending) (u : Trace (Reading ℤ)) : Type 0 where
  tail : Trace (Reading ℤ)
  split : u ≡ record { readings = xs ++ tail.readings; ending = tail.ending }
  behind : Behind e tail

append-none : {R : Type 0} (xs ys : List R) → xs ++ ys ≡ xs → ys ≡ []
append-none xs [] e = refl
append-none xs (y ∷ ys) e = absurd (omega (arith, ap length e, length-append xs (y ∷ ys)))

cut_keeps : (xs : List (Reading ℤ)) (e : Ending) (u : Trace (Reading ℤ)) → Ends xs e u → Cut xs e u
cut_keeps xs sound u h =
    record {
      tail = record { readings = h.rest; ending = u.ending };
      split = ap (λ (l : List (Reading ℤ)). record { readings = l; ending = u.ending }) h.split;
      behind = prefix-nil h.rest;
    }
cut_keeps xs (fault number place) u h =
    record {
      tail = record { readings = h.0.rest; ending = u.ending };
      split = ap (λ (l : List (Reading ℤ)). record { readings = l; ending = u.ending }) h.0.split;
      behind = (
        prefix-nil h.0.rest,
        λ f.
            let e : u ≡ record { readings = xs; ending = fault number place } = h.1 f in
            ap (λ (l : List (Reading ℤ)). record { readings = l; ending = u.ending })
            (append-none xs h.0.rest (sym h.0.split ∙ ap (λ (t : Trace (Reading ℤ)). t.readings) e))
            ∙ ap (λ (x : Ending). record { readings = []; ending = x }) (ap (λ (t : Trace (Reading ℤ)). t.ending) e),
      );
    }

sums-keep : (z : ℤ) (t u : Trace (Reading ℤ)) → Keeps t u → Keeps (sums z t) (sums z u)
sums-keep z t u h =
    let c = cut_keeps t.readings t.ending u h in
    let e : sums z u ≡ add_up z (t.readings ++ c.tail.readings) c.tail.ending = ap (sums z) c.split in
    rw e (up-keeps z t.readings t.ending c.tail c.behind)

delta-keeps : (s u : List ℕ) → Keeps (delta_trace s) (delta_trace (s ++ u))
unfolding delta_trace
delta-keeps s u = sums-keep (pos 0) (trace i64_e s) (trace i64_e (s ++ u)) (trace-keeps i64_e i64-stays s u)

-- THE LAW of a delta column
pub delta-lasting : Lasting delta_trace
delta-lasting = keeps-lasting delta_trace delta-keeps
