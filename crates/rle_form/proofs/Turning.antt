-- A sound column beside the stretches of the list that it reads as: laws for the start, a turn and the end; and what its ending and its values say of its form.
-- Over any element; assumes nothing.
use Prim.Native.Nat.{ℕ, ◌+◌, ◌^◌, ◌≤◌, ◌<◌}
use mathlib.Core.Path.{◌≡◌, refl, sym, ◌∙◌, ap, subst}
use mathlib.Core.List.{List, [], ◌∷◌, ◌++◌, map}
use mathlib.Core.Option.{Option, none, some}
use mathlib.Core.Bool.{Bool, true, false, cond}
use native.Mathlib.Omega.{arith}
use lib.ListN.{length, get_or, drop, replicate, drop_of_length-le, length-append, length-map, length-replicate}
use lib.Seq.{drop-cons, drop-drop}
use lib.IntN.{ℤ}
use lib.Signed.{mag}
use mir.Syntax.{w64}
use mir.Val.{to_z, of_z}
use mir.ValLaws.{to_z-of_z}
use Rattle.std.specs.Prelude.{Some, None, Result, Ok, Err}
use Rattle.std.specs.Prelude as code
use Rattle.std.specs.Option.{ok_or, option_flatten}
use Rattle.std.specs.Result.{result_ok}
use Rattle.refusal.specs.declared.Refusal.{Refusal}
use Rattle.leb128.specs.Write.{i64_bytes}
use Rattle.encoding.specs.Column.{Reading, value, Spot, spot, run_at, trace_from, trace}
use Rattle.encoding.specs.Element.{Element}
use Rattle.encoding.specs.Flags.{minus}
use Rattle.encoding.specs.Limit.{limit}
use Rattle.encoding.specs.Longest.{readings_in}
use Rattle.encoding.specs.Stretches.{Stretch, stretches}
use Rattle.encoding.specs.Walk.{Ending, sound, fault, Next, on, Trace, after}
use Rattle.encoding.specs.Writer.{stretch_bytes, stretches_bytes, any_present, column_bytes}
use Rattle.encoding.specs.declared.StretchEnd.{StretchEnd}
use Rattle.encoding.proofs.Columns.{columns, trace-on}
use Rattle.encoding.proofs.Elements.{ElementLaws, stands-within}
use Rattle.encoding.proofs.Limits.{rest-limit, run-limit}
use Rattle.encoding.proofs.Times.{piece-first, any-behind, any-first, any-over}
use Rattle.encoding.proofs.Walking.{rest}
use Rattle.count_place.specs.declared.Differs.{Differs}
use Rattle.count_place.specs.Place.{Place, behind, differs, standing}
use Rattle.count_place.proofs.Placing.{standing_on, standing-off, off-place}
use Rattle.own_form.specs.Difference.{differ_at}
use Rattle.own_form.specs.Form.{Form, ours, other, refused, compared, form_by, form_in}
use Rattle.own_form.specs.Heads.{head_bytes}
use Rattle.own_form.proofs.Deciding.{count-differs, count-agrees}
use Rattle.own_form.proofs.Following.{Follows}
use Rattle.rle_form.specs.Ahead.{sort_of, Found}
use Rattle.runs.specs.Cases.{next_of}
use Rattle.runs.specs.Pieces.{held_in, list_from, rest_of, list_of, Going}
use Rattle.rle_form.specs.Turns.{count_in, count_bytes, Sound, stretched_from, Turned}
use Rattle.runs.specs.declared.walk.Piece.{Piece}
use Rattle.runs.proofs.Held.{held_none, held-some}
use Rattle.runs.proofs.Walked.{list-end}

-- ---- a stretch by its sort and count

count_head : {A : Type 0} (x : Stretch A) → count_bytes (sort_of x) ≡ head_bytes x
unfolding head_bytes minus
count_head (Stretch.absent n) = refl
count_head (Stretch.repeat n a) = refl
count_head (Stretch.literal a more) = refl

count-readings : {A : Type 0} (x : Stretch A) → count_in (sort_of x) ≡ length (readings_in x)
unfolding readings_in
count-readings {A} (Stretch.absent n) = sym (length-replicate {A = Option A} n none)
count-readings (Stretch.repeat n a) = sym (length-replicate n (some a))
count-readings (Stretch.literal a more) = sym (length-map (a ∷ more) some)

-- its numbers beside the bytes at a position

module _ (s : List ℕ) (at : ℕ) where
  pub placed_on : (next : ℕ) (u v : List ℕ) → standing at (drop at s) u ≡ behind next → standing next (drop next s) v ≡ standing at (drop at s) (u ++ v)
  placed_on next u v e =
      let q = standing_on at next (drop at s) u v e in
      sym (q.2 ∙ ap (λ (r : List ℕ). standing next r v) (drop-drop (length u) at s ∙ ap (λ (k : ℕ). drop k s) (sym q.1)))

  pub placed_off : (place : ℕ) (u v : List ℕ) → standing at (drop at s) u ≡ differs place → differs place ≡ standing at (drop at s) (u ++ v)
  placed_off place u v e = sym (standing-off at place (drop at s) u v e)

  -- a signed count reaches a callee as its bits read back
  pub placed-signed : {v x : ℤ} {p : Place} → v ≡ x → mag v < 2 ^ 63 → p ≡ standing at (drop at s) (i64_bytes (to_z w64 (of_z w64 v)))
      → p ≡ standing at (drop at s) (i64_bytes x)
  placed-signed {v = v} e m k = k ∙ ap (λ (y : ℤ). standing at (drop at s) (i64_bytes y)) (to_z-of_z w64 v (record { sfits = m }) ∙ e)

  pub count-as : (x y : StretchEnd) {p : Place} → x ≡ y → p ≡ standing at (drop at s) (count_bytes y) → p ≡ standing at (drop at s) (count_bytes x)
  count-as x y e k = k ∙ ap (λ (z : StretchEnd). standing at (drop at s) (count_bytes z)) (sym e)

pub count-few : (x y : StretchEnd) → x ≡ y → count_in x ≤ limit → count_in y ≤ limit
count-few x y e l = subst (λ (z : StretchEnd). count_in z ≤ limit) e l

-- ---- nothing is left on one side

nothing-differs : (s : List ℕ) (at : ℕ) → at < length s → differ_at at (drop at s) [] ≡ some at
unfolding differ_at
nothing-differs s at l = ap (λ (r : List ℕ). differ_at at r []) (drop-cons s at 0 l)

module _ {A : Type 0} (E : Element A) (L : ElementLaws E) (s : List ℕ) where
  -- ---- how the column ends

  pub ending-next : (at had : ℕ) {x : Next Spot} → (run_at E s (spot at had)).next ≡ x → (trace_from E s (spot at had)).ending ≡ (after x (λ z. trace_from E s z)).ending
  ending-next at had e =
      ap (λ (t : Trace (Reading A)). t.ending) (trace-on E L s (spot at had)) ∙ ap (λ (x : Next Spot). (after x (λ z. trace_from E s z)).ending) e

  pub ending-start : (trace E s).ending ≡ (trace_from E s (spot 0 0)).ending
  unfolding trace
  ending-start = refl

  -- ---- is any reading present

  module _ (p : Piece) (g : Going E s p) where
    pub any_held : 0 < p.times → (p.held ≡ None → ⊥) → true ≡ any_present (list_of E s p)
    any_held l f =
        let v = held-some E L s p.held g.within f in
        any-first (piece-first p.times (some v.0) (held_in E s p.held) (rest_of E s p) l v.1)

    pub any-passed : p.held ≡ None → any_present (list_of E s p) ≡ any_present (rest_of E s p)
    any-passed e =
        ap (λ (x : Option A). any_present (replicate p.times x ++ rest_of E s p)) (held_none E L s p.held e)
        ∙ any-behind p.times (rest_of E s p)

    pub any-ended : p.times ≤ 0 → false ≡ any_present (list_of E s p)
    any-ended l = any-over (g.ended (omega arith))

  -- ---- at a run's beginning

  pub few : (at had : ℕ) → Sound E s at had → had + length (list_from E s at had) ≤ limit
  unfolding trace_from rest
  few at had h =
      let k = rest-limit (columns E L s) (run-limit E s) (length s) (spot at had) (omega arith) h.few in
      omega (arith, k, length-map (trace_from E s (spot at had)).readings value)

  pub sound-start : (trace E s).ending ≡ sound → Sound E s 0 0
  unfolding trace
  sound-start e = record { inside = omega arith; few = omega arith; ending = e }

  -- the column is over, and so is the list
  pub turn_end : (at had : ℕ) → length s ≤ at → differ_at at (drop at s) (stretched_from E s at had) ≡ none
  unfolding differ_at stretches stretches_bytes
  turn_end at had l =
      ap (λ (r : List ℕ). differ_at at r (stretched_from E s at had)) (drop_of_length-le s l)
      ∙ ap (λ (xs : List (Option A)). differ_at at [] (stretches_bytes E (stretches E.same xs))) (list-end E L s at had l)

  -- the list is over, and the column is not
  pub turn-none : (at had : ℕ) (p : Piece) → at < length s → Going E s p → list_of E s p ≡ list_from E s at had → p.times ≡ 0
      → differ_at at (drop at s) (stretched_from E s at had) ≡ some at
  unfolding stretches stretches_bytes
  turn-none at had p l g e z =
      ap (λ (xs : List (Option A)). differ_at at (drop at s) (stretches_bytes E (stretches E.same xs))) (sym e ∙ g.ended z)
      ∙ nothing-differs s at l

  module _ (at had : ℕ) (h : Sound E s at had) (xs : List (Option A)) (e : xs ≡ list_from E s at had) where
    pub turn-few : length xs ≤ limit
    turn-few = omega (arith, ap length e, few at had h)

    module _ (r : StretchEnd) (f : Found E xs r) where
      -- the bytes of the stretch begin what is written
      written : stretched_from E s at had ≡ stretches_bytes E (f.stretch ∷ stretches E.same f.behind)
      written = ap (λ (l : List (Option A)). stretches_bytes E (stretches E.same l)) (sym e) ∙ ap (stretches_bytes E) f.cuts

      heads : count_bytes r ≡ head_bytes f.stretch
      heads = ap count_bytes f.sort ∙ count_head f.stretch

      total : length xs ≡ length (readings_in f.stretch) + length f.behind
      total = ap length f.split ∙ length-append (readings_in f.stretch) f.behind

      pub turn-count : count_in r ≤ limit
      turn-count = omega (arith, ap count_in f.sort, count-readings f.stretch, total, turn-few)

      pub turn-off : (place : ℕ) → standing at (drop at s) (count_bytes r) ≡ differs place → differ_at at (drop at s) (stretched_from E s at had) ≡ some place
      turn-off place k =
          let o = off-place at place (drop at s) (head_bytes f.stretch) (sym (ap (standing at (drop at s)) heads) ∙ k) in
          ap (differ_at at (drop at s)) written
          ∙ count-differs E s at f.stretch (stretches E.same f.behind) o.0
          ∙ o.1

      module _ (B : (i : ℕ) → get_or s i 0 < 256) (k : ℕ) (t : standing at (drop at s) (count_bytes r) ≡ behind k) where
        agrees : Follows E L s B at had (stretch_bytes E f.stretch) (length (readings_in f.stretch)) f.behind
            × (differ_at at (drop at s) (stretches_bytes E (f.stretch ∷ stretches E.same f.behind))
            ≡ differ_at (at + length (stretch_bytes E f.stretch)) (drop (at + length (stretch_bytes E f.stretch)) s) (stretches_bytes E (stretches E.same f.behind)))
        agrees =
            let o = standing_on at k (drop at s) (head_bytes f.stretch) [] (sym (ap (standing at (drop at s)) heads) ∙ t) in
            count-agrees E s at f.stretch (stretches E.same f.behind) L B had f.behind o.0 h.inside f.some
            (omega (arith, few at had h, ap length e, total)) h.ending (sym e ∙ f.split)

        -- the run goes on: it has no fault, and the column is not over before it
        goes_on : (run_at E s (spot at had)).next ≡ on (spot (at + length (stretch_bytes E f.stretch)) (had + length (readings_in f.stretch)))
        goes_on = agrees.0.next

        on-is : (next n : ℕ) → on (spot next n) ≡ (run_at E s (spot at had)).next → Turned E s at had (Ok (next, n))
        on-is next n q =
            let y = agrees.0 in
            let w : ℕ = at + length (stretch_bytes E f.stretch) in
            let m : ℕ = had + length (readings_in f.stretch) in
            let z : on (spot next n) ≡ on (spot w m) = q ∙ goes_on in
            let v : spot w m ≡ spot next n = cc in
            let a : w ≡ next = ap (λ (x : Spot). x.at) v in
            let b : m ≡ n = ap (λ (x : Spot). x.had) v in
            let i : w ≤ length s = stands-within s at (stretch_bytes E f.stretch) y.stands in
            let c : m ≤ limit = omega (arith, few at had h, ap length e, total) in
            let o : Sound E s w m = record { inside = i; few = c; ending = y.sound } in
            let d : differ_at at (drop at s) (stretched_from E s at had) ≡ differ_at w (drop w s) (stretched_from E s w m) =
            ap (differ_at at (drop at s)) written ∙ agrees.1
            ∙ ap (λ (l : List (Option A)). differ_at w (drop w s) (stretches_bytes E (stretches E.same l))) (sym y.rest) in (
              subst (λ (j : ℕ). Sound E s next j) b (subst (λ (j : ℕ). Sound E s j m) a o),
              (columns E L s).falls (spot at had) (spot next n) (sym q),
              d ∙ ap (λ (j : ℕ). differ_at j (drop j s) (stretched_from E s j m)) a ∙ ap (λ (j : ℕ). differ_at next (drop next s) (stretched_from E s next j)) b,
            )

        pub turn_on : (d : Differs) (r : Result (code.Option (ℕ × ℕ)) Refusal) → next_of r ≡ (run_at E s (spot at had)).next
            → Turned E s at had (ok_or (option_flatten (result_ok r)) d)
        turn_on d (Ok None) q = let z = q ∙ goes_on in let y : ◌≡◌ {A = ℕ} 0 1 = cc in absurd (omega arith)
        turn_on d (Ok (Some (next, n))) q = on-is next n q
        turn_on d (Err e) q = let z = q ∙ goes_on in let y : ◌≡◌ {A = ℕ} 0 1 = cc in absurd (omega arith)

  -- ---- what is written

  pub written-some : any_present (map value (trace E s).readings) ≡ true → stretched_from E s 0 0 ≡ column_bytes E (map value (trace E s).readings)
  unfolding column_bytes trace
  written-some e = sym (ap (λ (t : Bool). cond t (stretched_from E s 0 0) []) e)

  written-nothing : any_present (map value (trace E s).readings) ≡ false → [] ≡ column_bytes E (map value (trace E s).readings)
  unfolding column_bytes
  written-nothing e = sym (ap (λ (t : Bool). cond t (stretches_bytes E (stretches E.same (map value (trace E s).readings))) []) e)

  pub bare-differs : any_present (map value (trace E s).readings) ≡ false → 0 < length s
      → other 0 ≡ compared (differ_at 0 s (column_bytes E (map value (trace E s).readings)))
  bare-differs e l = ap compared (sym (nothing-differs s 0 l)) ∙ ap (λ (w : List ℕ). compared (differ_at 0 s w)) (written-nothing e)

  pub bare-same : any_present (map value (trace E s).readings) ≡ false → length s ≤ 0
      → ours ≡ compared (differ_at 0 s (column_bytes E (map value (trace E s).readings)))
  unfolding differ_at
  bare-same e l =
      sym (ap (λ (r : List ℕ). compared (differ_at 0 r [])) (drop_of_length-le s l)) ∙ ap (λ (w : List ℕ). compared (differ_at 0 s w)) (written-nothing e)

-- ---- the form, by how the column ends

module _ {R : Type 0} (read : List ℕ → Trace R) (write : List R → List ℕ) (s : List ℕ) where
  pub form-refused : (number place : ℕ) → fault number place ≡ (read s).ending → refused number place ≡ form_in read write s
  unfolding form_in form_by
  form-refused number place e = ap (λ (x : Ending). form_by x s (write (read s).readings)) e

  pub form-compared : {f : Form} → sound ≡ (read s).ending → f ≡ compared (differ_at 0 s (write (read s).readings)) → f ≡ form_in read write s
  unfolding form_in form_by
  form-compared e k = k ∙ ap (λ (x : Ending). form_by x s (write (read s).readings)) e
