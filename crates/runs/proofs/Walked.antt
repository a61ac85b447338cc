-- Laws of a column walked a piece at a time: into a run by how it begins, and through runs without a reading. Over any element; assumes nothing.
use Prim.Native.Nat.{ℕ, ◌+◌, ◌-◌, ◌≤◌, ◌<◌}
use mathlib.Core.Path.{◌≡◌, refl, sym, ◌∙◌, ap, subst}
use mathlib.Core.List.{List, [], ◌∷◌, ◌++◌, map}
use mathlib.Core.Option.{Option}
use native.Mathlib.Omega.{arith}
use lib.ListN.{length, replicate}
use Rattle.std.specs.Prelude.{Some, None}
use Rattle.leb128.specs.Got.{Got, got, bad}
use Rattle.encoding.specs.Column.{Reading, absent, present, value, Spot, spot, repeated, literals, run_of, run_at, trace_from}
use Rattle.encoding.specs.Element.{Element}
use Rattle.encoding.specs.Head.{Head, amiss, head_at}
use Rattle.encoding.specs.Walk.{Run, Trace, whole, cut}
use Rattle.encoding.proofs.Columns.{trace-on, run-head, run_end, repeated-got, repeated-bad, literals-none, literals-on, literals-off}
use Rattle.encoding.proofs.Elements.{ElementLaws}
use Rattle.encoding.proofs.Lists.{map-append, map-replicate}
use Rattle.runs.specs.Pieces.{Held, read_of, held_in, before_run, values_in, list_from, rest_of, list_of, Onto, Going}
use Rattle.runs.specs.declared.walk.Piece.{Piece}

abbrev pub piece : Held → ℕ → ℕ → ℕ → ℕ → Piece
piece h n at had left = record { held = h; times = n; at = at; had = had; left = left }

module _ {A : Type 0} (E : Element A) (L : ElementLaws E) (s : List ℕ) where
  -- the list from a position on is the run there, and what comes behind it; nothing at the column's end
  list-run : (at had : ℕ) → list_from E s at had ≡ values_in E s (run_at E s (spot at had))
  list-run at had = ap (λ (t : Trace (Reading A)). map value t.readings) (trace-on E L s (spot at had))

  pub list-end : (at had : ℕ) → length s ≤ at → list_from E s at had ≡ []
  list-end at had l = list-run at had ∙ ap (values_in E s) (run_end E s at had l)

  -- no reading is held
  pub bare : (at had : ℕ) → list_of E s (before_run at had) ≡ list_from E s at had
  unfolding literals
  bare at had = refl

  -- a run that has no reading before its fault: the walk goes to the column's end
  onto-end : (r : Run (Reading A) Spot) (had number place : ℕ) → r ≡ cut number place → Onto E s (values_in E s r) (before_run (length s) had)
  onto-end r had number place e =
      record {
        within = tt;
        list = bare (length s) had ∙ list-end (length s) had (omega arith) ∙ sym (ap (values_in E s) e);
        spare = λ z. refl;
      }

  -- one reading some times, and then the next run
  onto_same : (r : Run (Reading A) Spot) (x : Reading A) (h : Held) (n at had : ℕ) → r ≡ whole (replicate n x) (spot at had) → held_in E s h ≡ value x
      → values_in E s r ≡ list_of E s (piece h n at had 0)
  unfolding literals
  onto_same r x h n at had e f =
      ap (values_in E s) e
      ∙ map-append value (replicate n x) (trace_from E s (spot at had)).readings
      ∙ ap (λ (l : List (Option A)). l ++ list_from E s at had) (map-replicate value n x)
      ∙ ap (λ (y : Option A). replicate n y ++ list_from E s at had) (sym f)

  -- ---- literal values

  module _ (q total n : ℕ) where
    pub onto-none : n ≡ 0 → Onto E s (values_in E s (literals E s total n q)) (before_run q total)
    onto-none e =
        record {
          within = tt;
          list = bare q total ∙ sym (ap (values_in E s) (literals-none E s total n q (omega arith)));
          spare = λ z. refl;
        }

    pub onto-literal : (next : ℕ) (a : A) → 0 < n → E.read s q ≡ got a next
        → Onto E s (values_in E s (literals E s total n q)) (piece (Some (q, next)) 1 next total (n - 1))
    unfolding value
    onto-literal next a l e =
        record {
          within = (a, e);
          list = ap (λ (g : Got A). read_of g ∷ values_in E s (literals E s total (n - 1) next)) e
              ∙ sym (ap (values_in E s) (literals-on E s total n q next a l e));
          spare = λ z. absurd (omega arith);
        }

    pub onto-cut : (number place : ℕ) → 0 < n → E.read s q ≡ bad number place
        → Onto E s (values_in E s (literals E s total n q)) (before_run (length s) total)
    onto-cut number place l e = onto-end (literals E s total n q) total number place (literals-off E s total n q number place l e)

  -- ---- a value that repeats

  module _ (q had n : ℕ) where
    pub onto-repeat : (next : ℕ) (a : A) → E.read s q ≡ got a next
        → Onto E s (values_in E s (repeated had n q (E.read s q))) (piece (Some (q, next)) n next (had + n) 0)
    unfolding value
    onto-repeat next a e =
        record {
          within = (a, e);
          list = sym (onto_same _ (present a q) (Some (q, next)) n next (had + n) (repeated-got had n q next a (E.read s q) e) (ap read_of e));
          spare = λ z. refl;
        }

    pub onto-unread : (number place : ℕ) → E.read s q ≡ bad number place
        → Onto E s (values_in E s (repeated had n q (E.read s q))) (before_run (length s) had)
    onto-unread number place e = onto-end _ had number place (repeated-bad had n q number place (E.read s q) e)

  -- ---- the run at a position, by how it begins

  module _ (at had : ℕ) (l : at < length s) where
    pub into : (h : Head) (p : Piece) → head_at s at had ≡ h → Onto E s (values_in E s (run_of E s had h)) p → Onto E s (list_from E s at had) p
    into h p e o = subst (λ (xs : List (Option A)). Onto E s xs p) (sym (list-run at had ∙ ap (values_in E s) (run-head E s at had h l e))) o

    pub into-absent : (n next : ℕ) → head_at s at had ≡ Head.absent n next → Onto E s (list_from E s at had) (piece None n next (had + n) 0)
    unfolding run_of value
    into-absent n next e =
        into (Head.absent n next) _ e
        (record { within = tt; list = sym (onto_same _ absent None n next (had + n) refl refl); spare = λ z. refl })

    pub into-fault : (number place : ℕ) → head_at s at had ≡ amiss number place → Onto E s (list_from E s at had) (before_run (length s) had)
    unfolding run_of
    into-fault number place e = into (amiss number place) _ e (onto-end _ had number place refl)

  -- ---- through runs without a reading

  -- what comes behind a piece that has none is the next run
  spare-list : (xs : List (Option A)) (p : Piece) → Onto E s xs p → p.times ≡ 0 → list_from E s p.at p.had ≡ xs
  unfolding literals
  spare-list xs p o z =
      ap (λ (n : ℕ). values_in E s (literals E s p.had n p.at)) (sym (o.spare z))
      ∙ ap (λ (n : ℕ). replicate n (held_in E s p.held) ++ rest_of E s p) (sym z)
      ∙ o.list

  pub onto-start : (xs : List (Option A)) (p : Piece) → Onto E s xs p → Onto E s (list_of E s p) p
  onto-start xs p o = record { within = o.within; list = refl; spare = o.spare }

  pub onto-turn : (xs : List (Option A)) (p r : Piece) → Onto E s xs p → p.times ≡ 0 → Onto E s (list_from E s p.at p.had) r → Onto E s xs r
  onto-turn xs p r o z k = subst (λ (l : List (Option A)). Onto E s l r) (spare-list xs p o z) k

  pub onto-over : (xs : List (Option A)) (p : Piece) → Onto E s xs p → p.times ≡ 0 → length s ≤ p.at → Going E s p
  onto-over xs p o z l =
      record { within = o.within; ended = λ y. o.list ∙ sym (spare-list xs p o z) ∙ list-end p.at p.had l }

  pub onto-there : (xs : List (Option A)) (p : Piece) → Onto E s xs p → (p.times ≡ 0 → ⊥) → Going E s p
  onto-there xs p o f = record { within = o.within; ended = λ z. absurd (f z) }
