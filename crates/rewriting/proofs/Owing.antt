-- What a column's first readings still owe behind each run and each literal value, over any element, as bytes that a cut is fed with: what the branches
-- of the walk cite. Assumes nothing.
use Prim.Native.Nat.{ℕ, zero, suc, ◌+◌, ◌-◌, ◌≤◌, ◌<◌}
use mathlib.Core.Path.{◌≡◌, refl, sym, ◌∙◌, ap}
use mathlib.Core.List.{List, [], ◌∷◌, ◌++◌, map}
use mathlib.Core.Option.{Option, none, some}
use native.Mathlib.Omega.{arith}
use lib.ListN.{length, get_or, take, drop, replicate, length-replicate, length-map}
use lib.Seq.{take_all, take-nil}
use Rattle.leb128.specs.Answer.{done, within}
use Rattle.leb128.specs.Got.{got, bad}
use Rattle.encoding.specs.Element.{Element}
use Rattle.encoding.specs.Head.{Head, amiss, head_at}
use Rattle.encoding.specs.Walk.{Run, Trace, whole, cut, stop, onward}
use Rattle.encoding.specs.Column.{Reading, absent, present, Spot, spot, literals, run_of, run_at, trace_from, trace}
use Rattle.encoding.specs.Writer.{column_bytes}
use Rattle.encoding.proofs.Lists.{map-append, map-replicate}
use Rattle.encoding.proofs.Elements.{ElementLaws}
use Rattle.encoding.proofs.Columns.{trace-on, run-head, run_end, repeated-got, repeated-bad, literals-none, literals-on, literals-off}
use Rattle.text.proofs.TextLaws.{text-laws}
use Rattle.rewriting.specs.Cutter.{Cut, fresh, fed_of, fed_all, finished_of}
use Rattle.rewriting.specs.Rewritten.{rewritten, rewritten_as}
use Rattle.rewriting.specs.Values.{plain_e, bytes_in, bytes_of, owed_from, owed_repeat, owed_literals}
use Rattle.runs.specs.declared.Values.{Values}
use Rattle.runs.specs.declared.Values.TheVariants as values
use Rattle.runs.specs.Values.{element_of}
use Rattle.runs.proofs.Ends.{element_laws}
use Rattle.rewriting.proofs.Cutting.{fed-append, fed-times, cut-whole}
use Rattle.rewriting.proofs.Plain.{rewritten-plain}

-- ---- the first of a list

take-append : {X : Type 0} (k : ℕ) (xs ys : List X) → take k (xs ++ ys) ≡ take k xs ++ take (k - length xs) ys
take-append zero xs ys = let e : 0 - length xs ≡ 0 = omega arith in sym (ap (λ (n : ℕ). take n ys) e)
take-append (suc k) [] ys = let e : suc k ≡ suc k - 0 = omega arith in ap (λ (n : ℕ). take n ys) e
take-append (suc k) (x ∷ xs) ys =
    let e : k - length xs ≡ suc k - suc (length xs) = omega arith in
    ap (λ (l : List _). x ∷ l) (take-append k xs ys ∙ ap (λ (n : ℕ). take k xs ++ take n ys) e)

take-cons : {X : Type 0} (k : ℕ) (x : X) (xs : List X) → 0 < k → take k (x ∷ xs) ≡ x ∷ take (k - 1) xs
take-cons zero x xs l = absurd (omega arith)
take-cons (suc k) x xs l = let e : k ≡ suc k - 1 = omega arith in ap (λ (n : ℕ). x ∷ take n xs) e

take_none : {X : Type 0} (k : ℕ) (xs : List X) → k ≤ 0 → take k xs ≡ []
take_none zero xs l = refl
take_none (suc k) xs l = absurd (omega arith)

take-equals : {X : Type 0} (k n : ℕ) (x : X) → k ≤ n → take k (replicate n x) ≡ replicate k x
take-equals zero n x l = refl
take-equals (suc k) zero x l = absurd (omega arith)
take-equals (suc k) (suc n) x l = ap (λ (r : List _). x ∷ r) (take-equals k n x (omega arith))

-- a reading fed n times, but no more than k: all n of them, or k
module _ (room : ℕ) (c : Cut (List ℕ)) (x : Option (List ℕ)) (k n : ℕ) where
  pub fed-some : k < n → fed_of plain_e room c x k ≡ fed_all plain_e room c (take k (replicate n x))
  fed-some l = fed-times plain_e text-laws.same_self room c x k ∙ sym (ap (fed_all plain_e room c) (take-equals k n x (omega arith)))

  pub fed-every : n ≤ k → fed_of plain_e room c x n ≡ fed_all plain_e room c (take k (replicate n x))
  fed-every l =
      let e : take k (replicate n x) ≡ replicate n x = take_all k (replicate n x) (omega (arith, length-replicate n x)) in
      fed-times plain_e text-laws.same_self room c x n ∙ sym (ap (fed_all plain_e room c) e)

-- ---- what is owed

module _ {A : Type 0} (E : Element A) (s : List ℕ) (most : ℕ) where
  -- behind the last reading that is wanted
  pub owed_none : (at had : ℕ) → most ≤ had → owed_from E s most at had ≡ []
  unfolding owed_from
  owed_none at had l = take_none (most - had) _ (omega arith)

  whole_owed : (k : ℕ) (xs : List (Reading A)) (st : Spot) → bytes_of E k (onward (whole xs st) (λ z. trace_from E s z))
      ≡ take k (map (bytes_in E) xs) ++ bytes_of E (k - length xs) (trace_from E s st)
  whole_owed k xs st =
      ap (take k) (map-append (bytes_in E) xs (trace_from E s st).readings)
      ∙ take-append k (map (bytes_in E) xs) (map (bytes_in E) (trace_from E s st).readings)
      ∙ ap (λ (n : ℕ). take k (map (bytes_in E) xs) ++ take (k - n) (map (bytes_in E) (trace_from E s st).readings)) (length-map xs (bytes_in E))

  -- a run of n times the same reading
  equals-owed : (had n : ℕ) (x : Reading A) (z : ℕ) (r : Run (Reading A) Spot) → r ≡ whole (replicate n x) (spot z (had + n))
      → bytes_of E (most - had) (onward r (λ z. trace_from E s z)) ≡ take (most - had) (replicate n (bytes_in E x)) ++ owed_from E s most z (had + n)
  unfolding owed_from
  equals-owed had n x z r e =
      let k : most - had - length (replicate n x) ≡ most - (had + n) = omega (arith, length-replicate n x) in
      ap (λ (r : Run (Reading A) Spot). bytes_of E (most - had) (onward r (λ z. trace_from E s z))) e
      ∙ whole_owed (most - had) (replicate n x) (spot z (had + n))
      ∙ ap (λ (m : ℕ). take (most - had) (map (bytes_in E) (replicate n x)) ++ bytes_of E m (trace_from E s (spot z (had + n)))) k
      ∙ ap (λ (l : List (Option (List ℕ))). take (most - had) l ++ bytes_of E (most - (had + n)) (trace_from E s (spot z (had + n)))) (map-replicate (bytes_in E) n x)

  module _ (L : ElementLaws E) where
    run-owed : (at had : ℕ) (r : Run (Reading A) Spot) → run_at E s (spot at had) ≡ r
        → owed_from E s most at had ≡ bytes_of E (most - had) (onward r (λ z. trace_from E s z))
    unfolding owed_from
    run-owed at had r e =
        ap (bytes_of E (most - had)) (trace-on E L s (spot at had))
        ∙ ap (λ (r : Run (Reading A) Spot). bytes_of E (most - had) (onward r (λ z. trace_from E s z))) e

    -- at the column's end
    pub owed-end : (at had : ℕ) → length s ≤ at → owed_from E s most at had ≡ []
    owed-end at had l = run-owed at had stop (run_end E s at had l) ∙ take-nil (most - had)

    -- where a run cannot be read nothing is owed, as at the end
    cut-owed : (had number place : ℕ) (r : Run (Reading A) Spot) → r ≡ cut number place
        → bytes_of E (most - had) (onward r (λ z. trace_from E s z)) ≡ owed_from E s most (length s) had
    cut-owed had number place r e =
        ap (λ (r : Run (Reading A) Spot). bytes_of E (most - had) (onward r (λ z. trace_from E s z))) e
        ∙ take-nil (most - had) ∙ sym (owed-end (length s) had (omega arith))

    -- a run by how it begins
    module _ (at had : ℕ) (l : at < length s) where
      pub owed-repeat : (n q : ℕ) → head_at s at had ≡ Head.repeat n q → owed_from E s most at had ≡ owed_repeat E s most n had q
      unfolding owed_repeat run_of
      owed-repeat n q e = run-owed at had _ (run-head E s at had (Head.repeat n q) l e)

      pub owed-literal : (n q : ℕ) → head_at s at had ≡ Head.literal n q → owed_from E s most at had ≡ owed_literals E s most (had + n) had q
      unfolding owed_literals run_of
      owed-literal n q e =
          let k : n ≡ had + n - had = omega arith in
          run-owed at had _ (run-head E s at had (Head.literal n q) l e)
          ∙ ap (λ (m : ℕ). bytes_of E (most - had) (onward (literals E s (had + n) m q) (λ z. trace_from E s z))) k

      owed-absent : (n z : ℕ) → head_at s at had ≡ Head.absent n z
          → owed_from E s most at had ≡ take (most - had) (replicate n none) ++ owed_from E s most z (had + n)
      unfolding run_of
      owed-absent n z e =
          let r = run-head E s at had (Head.absent n z) l e in
          run-owed at had _ refl ∙ equals-owed had n absent z _ r

      pub owed-amiss : (number place : ℕ) → head_at s at had ≡ amiss number place → owed_from E s most at had ≡ owed_from E s most (length s) had
      unfolding run_of
      owed-amiss number place e =
          let r = run-head E s at had (amiss number place) l e in
          run-owed at had _ refl ∙ cut-owed had number place _ r

    -- a repeated value that cannot be read
    pub repeat-bad : (n had q number place : ℕ) → E.read s q ≡ bad number place → owed_repeat E s most n had q ≡ owed_from E s most (length s) had
    unfolding owed_repeat
    repeat-bad n had q number place e = cut-owed had number place _ (repeated-bad had n q number place (E.read s q) e)

    -- literal values: no more are wanted; one cannot be read; all were read
    module _ (total i q : ℕ) where
      pub literal-none : (at : ℕ) → most ≤ i → owed_literals E s most total i q ≡ owed_from E s most at i
      unfolding owed_literals
      literal-none at l = take_none (most - i) _ (omega arith) ∙ sym (owed_none at i l)

      pub literal-bad : (number place : ℕ) → i < total → E.read s q ≡ bad number place → owed_literals E s most total i q ≡ owed_from E s most (length s) i
      unfolding owed_literals
      literal-bad number place l e = cut-owed i number place _ (literals-off E s total (total - i) q number place (omega arith) e)

      pub literal-end : i ≤ total → total ≤ i → owed_literals E s most total i q ≡ owed_from E s most q i
      unfolding owed_literals owed_from
      literal-end h l =
          let k : total ≡ i = omega arith in
          ap (λ (r : Run (Reading A) Spot). bytes_of E (most - i) (onward r (λ z. trace_from E s z))) (literals-none E s total (total - i) q (omega arith))
          ∙ ap (λ (n : ℕ). bytes_of E (most - i) (trace_from E s (spot q n))) k

  -- a value that is read stands there as it is written
  module _ (L : ElementLaws E) (B : (i : ℕ) → get_or s i 0 < 256) (q z : ℕ) (a : A) (e : E.read s q ≡ got a z) where
    standing : some (E.write a) ≡ some (take (z - q) (drop q s))
    standing = ap some (sym (L.exact s B q z a e).0)

    repeat-got : (n had : ℕ)
        → owed_repeat E s most n had q ≡ take (most - had) (replicate n (some (take (z - q) (drop q s)))) ++ owed_from E s most z (had + n)
    unfolding owed_repeat
    repeat-got n had =
        equals-owed had n (present a q) z _ (repeated-got had n q z a (E.read s q) e)
        ∙ ap (λ (x : Option (List ℕ)). take (most - had) (replicate n x) ++ owed_from E s most z (had + n)) standing

    literal-got : (total i : ℕ) → i < total → i < most
        → owed_literals E s most total i q ≡ some (take (z - q) (drop q s)) ∷ owed_literals E s most total (i + 1) z
    unfolding owed_literals
    literal-got total i l m =
        let k : total - i - 1 ≡ total - (i + 1) = omega arith in
        let j : most - i - 1 ≡ most - (i + 1) = omega arith in
        let rest : Trace (Reading A) = onward (literals E s total (total - i - 1) z) (λ z. trace_from E s z) in
        ap (λ (r : Run (Reading A) Spot). bytes_of E (most - i) (onward r (λ z. trace_from E s z))) (literals-on E s total (total - i) q z a (omega arith) e)
        ∙ take-cons (most - i) (some (E.write a)) (map (bytes_in E) rest.readings) (omega arith)
        ∙ ap (λ (x : Option (List ℕ)). x ∷ bytes_of E (most - i - 1) rest) standing
        ∙ ap (λ (n : ℕ). some (take (z - q) (drop q s)) ∷ bytes_of E n rest) j
        ∙ ap (λ (n : ℕ). some (take (z - q) (drop q s)) ∷ bytes_of E (most - (i + 1)) (onward (literals E s total n z) (λ z. trace_from E s z))) k

-- ---- a cut that is fed with it: c before, d behind

module _ {A : Type 0} (E : Element A) (L : ElementLaws E) (s : List ℕ) (most room : ℕ) (c d : Cut (List ℕ)) where
  fed-front : (xs ys zs : List (Option (List ℕ))) → zs ≡ xs ++ ys → d ≡ fed_all plain_e room c xs → fed_all plain_e room c zs ≡ fed_all plain_e room d ys
  fed-front xs ys zs e h =
      ap (fed_all plain_e room c) e ∙ fed-append plain_e room c xs ys ∙ sym (ap (λ (d : Cut (List ℕ)). fed_all plain_e room d ys) h)

  -- absent readings
  pub fed-absent : (at had n z : ℕ) → at < length s → head_at s at had ≡ Head.absent n z
      → d ≡ fed_all plain_e room c (take (most - had) (replicate n none))
      → fed_all plain_e room c (owed_from E s most at had) ≡ fed_all plain_e room d (owed_from E s most z (had + n))
  fed-absent at had n z l e h = fed-front _ _ _ (owed-absent E s most L at had l n z e) h

  module _ (B : (i : ℕ) → get_or s i 0 < 256) (q z : ℕ) (a : A) (e : E.read s q ≡ got a z) where
    -- a value, repeated
    pub fed-repeated : (n had : ℕ) → d ≡ fed_all plain_e room c (take (most - had) (replicate n (some (take (z - q) (drop q s)))))
        → fed_all plain_e room c (owed_repeat E s most n had q) ≡ fed_all plain_e room d (owed_from E s most z (had + n))
    fed-repeated n had h = fed-front _ _ _ (repeat-got E s most L B q z a e n had) h

    -- a literal value
    pub fed-literal : (total i : ℕ) → i < total → i < most → d ≡ fed_of plain_e room c (some (take (z - q) (drop q s))) 1
        → fed_all plain_e room c (owed_literals E s most total i q) ≡ fed_all plain_e room d (owed_literals E s most total (i + 1) z)
    unfolding fed_all
    fed-literal total i l m h =
        ap (fed_all plain_e room c) (literal-got E s most L B q z a e total i l m)
        ∙ sym (ap (λ (d : Cut (List ℕ)). fed_all plain_e room d (owed_literals E s most total (i + 1) z)) h)

-- ---- a cut that was fed with all that the column's first readings owe is finished at the size of what our writer makes of them

rewritten-as : (v : Values) (s : List ℕ) (most : ℕ) → rewritten_as v s most ≡ rewritten (element_of v).E s most
unfolding rewritten_as
rewritten-as values.Words s most = refl
rewritten-as values.Differences s most = refl
rewritten-as values.Names s most = refl

whole_is : {A : Type 0} (E : Element A) (s : List ℕ) (most : ℕ) → take most (map (bytes_in E) (trace E s).readings) ≡ owed_from E s most 0 0
unfolding owed_from trace
whole_is E s most = let e : most ≡ most - 0 = omega arith in ap (λ (n : ℕ). bytes_of E n (trace_from E s (spot 0 0))) e

size_is : (v : Values) (s : List ℕ) → ((i : ℕ) → get_or s i 0 < 256) → (most : ℕ)
    → length (column_bytes plain_e (owed_from (element_of v).E s most 0 0)) ≡ length (rewritten_as v s most)
size_is v s B most =
    ap (λ (l : List (Option (List ℕ))). length (column_bytes plain_e l)) (sym (whole_is (element_of v).E s most))
    ∙ sym (ap length (rewritten-as v s most ∙ rewritten-plain (element_of v).E (element_laws v) s B most))

pub fed-whole : (v : Values) (s : List ℕ) → ((i : ℕ) → get_or s i 0 < 256) → (most room : ℕ) (c : Cut (List ℕ)) (ys : List (Option (List ℕ))) → ys ≡ []
    → fed_all plain_e room fresh (owed_from (element_of v).E s most 0 0) ≡ fed_all plain_e room c ys
    → finished_of plain_e room c ≡ within 10 room (done (length (rewritten_as v s most)))
unfolding fed_all
fed-whole v s B most room c ys n h =
    ap (finished_of plain_e room) (sym (h ∙ ap (fed_all plain_e room c) n))
    ∙ cut-whole plain_e room text-laws.same-eq text-laws.same_self (owed_from (element_of v).E s most 0 0)
    ∙ ap (λ (n : ℕ). within 10 room (done n)) (size_is v s B most)
