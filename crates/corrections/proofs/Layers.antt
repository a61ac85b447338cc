-- Which of two blocks shows a column: the answer of what each lookup finds, one law for each way out, that a part lies within the block that it
-- is of, that a column begins behind its table, and what the answer depends on. Assumes nothing.
use mathlib.Core.Path.{◌≡◌, refl, sym, ap, subst, ◌∙◌}
use mathlib.Core.List.{List, []}
use mathlib.Core.Bool.{Bool, true, false, cond, not}
use Prim.Native.Nat.{ℕ, zero, suc, ◌+◌, ◌-◌, ◌≤◌, ◌<◌, zero-le}
use native.Mathlib.Omega.{arith}
use lib.ListN.{length}
use lib.Dec.{ltb}
use Rattle.std.specs.Prelude.{Option, Some, None, Result, Ok, Err, IsErrAnd, IsSomeAnd, MatchResult, MatchOption}
use Rattle.leb128.specs.Read.{u64_at, u32_at}
use Rattle.leb128.proofs.Laws.{u64-next}
use Rattle.leb128.proofs.Refusals.{u64-fault, u32-fault}
use Rattle.encoding.proofs.Lists.{cond-by}
use Rattle.refusal.specs.declared.Refusal.{Refusal}
use Rattle.raw_column.specs.Table.{Tab, tab, faulty, with_row, rows_at, in_order, plain, sum, judged, parse}
use Rattle.raw_column.proofs.Opening.{number_by}
use Rattle.column_part.specs.Part.{no_part, row_part, row_of, spec_part_in, part_for, bytes_of, taken, Part, Sought, there, nowhere, refused, sought_in, sought, sought_of}
use Rattle.column_part.specs.declared.Part as code
use Rattle.column_part.proofs.Parts.{spec-within}
use Rattle.corrections.specs.Cases.{layered_of}
use Rattle.corrections.specs.Over.{Over, corrected, scanned, neither, has_row, over_in, over, part_of, part_over, bytes_over}
use Rattle.corrections.specs.declared.Layered.{Layered}
use Rattle.corrections.specs.declared.Layered.TheVariants.{Corrections, First}

abbrev row_in : ℕ → List ℕ → List ℕ → ℕ → Part
row_in spec specs lens next = row_part specs lens next (row_of spec specs)

-- ---- the answer, of what each lookup finds
abbrev layered : Sought → Sought → Over
layered (refused number place) z = corrected (no_part number place)
layered (there p) (refused number place) = scanned (no_part number place)
layered nowhere (refused number place) = scanned (no_part number place)
layered (there p) (there q) = corrected p
layered (there p) nowhere = corrected p
layered nowhere (there q) = scanned q
layered nowhere nowhere = neither

-- by whether each has the row, whose parts are p and q
rows-layered : (b d : Bool) (p q : Part)
    → layered (cond b (there p) nowhere) (cond d (there q) nowhere) ≡ cond b (corrected p) (cond d (scanned q) neither)
rows-layered true true p q = refl
rows-layered true false p q = refl
rows-layered false true p q = refl
rows-layered false false p q = refl

fault-layered : (b : Bool) (p : Part) (number place : ℕ) → layered (cond b (there p) nowhere) (refused number place) ≡ scanned (no_part number place)
fault-layered true p number place = refl
fault-layered false p number place = refl

layered-case : (spec : ℕ) (t u : Tab) → layered (sought_in spec t) (sought_in spec u) ≡ over_in spec t u
layered-case spec (faulty number place) u = refl
layered-case spec (tab specs lens next) (faulty number place) = fault-layered (has_row spec specs) (row_in spec specs lens next) number place
layered-case spec (tab specs lens next) (tab specs₀ lens₀ next₀) =
    rows-layered (has_row spec specs) (has_row spec specs₀) (row_in spec specs lens next) (row_in spec specs₀ lens₀ next₀)

over-is : (s s₀ : List ℕ) (spec : ℕ) {a b : Sought} → a ≡ sought s spec → b ≡ sought s₀ spec → layered a b ≡ over s s₀ spec
unfolding sought over
over-is s s₀ spec e g = rw (e, g) (layered-case spec (parse s) (parse s₀))

-- ---- a lookup's answer r, and the same with the block that a refusal is of
abbrev Told : (Refusal → Layered Refusal) → Result (Option code.Part) Refusal → Result (Option code.Part) (Layered Refusal) → Type 0
Told k r m = MatchResult r (λ x. m ≡ Ok x) (λ e. IsErrAnd m (λ d. d ≡ k e))

was-ok : (k : Refusal → Layered Refusal) (r : Result (Option code.Part) Refusal) {m : Result (Option code.Part) (Layered Refusal)} {x : Option code.Part}
    → Told k r m → m ≡ Ok x → r ≡ Ok x
was-ok k (Ok y) {m} {x} t e = let z : ◌≡◌ {A = Result (Option code.Part) (Layered Refusal)} (Ok y) (Ok x) = sym t ∙ e in ap Ok (grind arith)
was-ok k (Err z) t e = absurd (subst (λ m. IsErrAnd m (λ d. d ≡ k z)) e t)

was-err : (k : Refusal → Layered Refusal) (r : Result (Option code.Part) Refusal) {m : Result (Option code.Part) (Layered Refusal)} {d : Layered Refusal}
    → Told k r m → m ≡ Err d → (e : Refusal) × (r ≡ Err e) × (d ≡ k e)
was-err k (Ok y) t e = let z : Ok y ≡ Err _ = sym t ∙ e in absurd (grind arith)
was-err k (Err z) t e = (z, refl, subst (λ m. IsErrAnd m (λ d. d ≡ k z)) e t)

-- ---- locate
first-refused : (c : Option code.Part) (number place : ℕ) → layered (sought_of (Ok c)) (refused number place) ≡ scanned (no_part number place)
first-refused (Some p) number place = refl
first-refused None number place = refl

in-corrections : (p : Part) (f : Option code.Part) → layered (there p) (sought_of (Ok f)) ≡ corrected p
in-corrections p (Some q) = refl
in-corrections p None = refl

in_first : (f : Option code.Part) (x : Option (Layered code.Part)) → MatchOption f (x ≡ None) (λ q. IsSomeAnd x (λ y. y ≡ First q))
    → layered_of (Ok x) ≡ layered nowhere (sought_of (Ok f))
in_first (Some q) (Some y) h = ap (λ y. layered_of (Ok (Some y))) h
in_first (Some q) None h = absurd h
in_first None x h = ap (λ x. layered_of (Ok x)) h

module _ (s s₀ : List ℕ) (spec : ℕ) (r : Result (Option code.Part) Refusal) (m : Result (Option code.Part) (Layered Refusal))
    (e : sought_of r ≡ sought s spec) (t : Told Corrections r m) where
  pub over-refused : {d : Layered Refusal} → m ≡ Err d → layered_of (Err d) ≡ over s s₀ spec
  over-refused z =
      let w = was-err Corrections r t z in
      ap (λ d. layered_of (Err d)) w.2 ∙ over-is s s₀ spec (ap sought_of (sym w.1) ∙ e) refl

  module _ (r₀ : Result (Option code.Part) Refusal) (m₀ : Result (Option code.Part) (Layered Refusal))
      (e₀ : sought_of r₀ ≡ sought s₀ spec) (t₀ : Told First r₀ m₀) {c : Option code.Part} (z : m ≡ Ok c) where
    looked : sought_of (Ok c) ≡ sought s spec
    looked = ap sought_of (sym (was-ok Corrections r t z)) ∙ e

    pub over-refused-first : {d : Layered Refusal} → m₀ ≡ Err d → layered_of (Err d) ≡ over s s₀ spec
    over-refused-first y =
        let w = was-err First r₀ t₀ y in
        ap (λ d. layered_of (Err d)) w.2 ∙ sym (first-refused c _ _) ∙ over-is s s₀ spec looked (ap sought_of (sym w.1) ∙ e₀)

    module _ {f : Option code.Part} (y : m₀ ≡ Ok f) where
      looked₀ : sought_of (Ok f) ≡ sought s₀ spec
      looked₀ = ap sought_of (sym (was-ok First r₀ t₀ y)) ∙ e₀

      pub over-corrected : {p : code.Part} → c ≡ Some p → corrected (taken p) ≡ over s s₀ spec
      over-corrected {p} h = sym (in-corrections (taken p) f) ∙ over-is s s₀ spec (ap (λ x. sought_of (Ok x)) (sym h) ∙ looked) looked₀

      pub over-first : c ≡ None → (x : Option (Layered code.Part)) → MatchOption f (x ≡ None) (λ q. IsSomeAnd x (λ y. y ≡ First q))
          → layered_of (Ok x) ≡ over s s₀ spec
      over-first h x k = in_first f x k ∙ over-is s s₀ spec (ap (λ x. sought_of (Ok x)) (sym h) ∙ looked) looked₀

-- ---- a part lies within the block that it is of, whatever the bytes
abbrev Within : ℕ → Part → Type 0
Within size p = p.start + p.len ≤ size

abbrev WithinOver : ℕ → ℕ → Over → Type 0
WithinOver size size₀ (corrected p) = Within size p
WithinOver size size₀ (scanned p) = Within size₀ p
WithinOver size size₀ neither = 0 ≤ size

of_row : (size : ℕ) (x : Part) (b : Bool) → Within size (cond b x (no_part 0 0)) → b ≡ true → Within size x
of_row size x true h e = h
of_row size x false h e = let z : ◌≡◌ {A = ℕ} 0 1 = ap (λ (b : Bool). cond b 1 0) e in absurd (omega arith)

within-case : (spec size size₀ : ℕ) (t u : Tab) → Within size (spec_part_in spec t) → Within size₀ (spec_part_in spec u)
    → WithinOver size size₀ (over_in spec t u)
within-case spec size size₀ (faulty number place) u h k = h
within-case spec size size₀ (tab specs lens next) (faulty number place) h k = k
within-case spec size size₀ (tab specs lens next) (tab specs₀ lens₀ next₀) h k =
    cond-by (WithinOver size size₀) (has_row spec specs) (λ e. of_row size (row_in spec specs lens next) (has_row spec specs) h e)
    (λ e. cond-by (WithinOver size size₀) (has_row spec specs₀) (λ g. of_row size₀ (row_in spec specs₀ lens₀ next₀) (has_row spec specs₀) k g) (λ g. zero-le))

pub over-within : (s s₀ : List ℕ) (spec : ℕ) → WithinOver (length s) (length s₀) (over s s₀ spec)
unfolding part_for over
over-within s s₀ spec = within-case spec (length s) (length s₀) (parse s) (parse s₀) (spec-within s spec) (spec-within s₀ spec)

-- ---- the columns of a block begin behind its table, which has a byte at least; and no refusal has the number 0
abbrev Begun : Tab → Type 0
Begun (tab specs lens next) = 0 < next
Begun (faulty number place) = 0 < number

row-begun : (spec len : ℕ) (t : Tab) → Begun t → Begun (with_row spec len t)
row-begun spec len (tab specs lens next) h = h
row-begun spec len (faulty number place) h = h

rows-begun : (n : ℕ) (s : List ℕ) (p : ℕ) → 0 < p → Begun (rows_at n s p)
unfolding rows_at
rows-begun zero s p h = h
rows-begun (suc n) s p h =
    number_by Begun (u32_at s p) _
    (λ spec q e. number_by Begun (u64_at s q) _
    (λ len r f. row-begun spec len (rows_at n s r) (rows-begun n s r (let w = u64-next s q len r f in omega (arith, w.0))))
    (λ r place f. u64-fault s q r place f))
    (λ r place e. u32-fault s p r place e)

judged-begun : (size : ℕ) (t : Tab) → Begun t → Begun (judged size t)
judged-begun size (faulty number place) h = h
judged-begun size (tab specs lens next) h =
    cond-by Begun (not (in_order 0 specs)) (λ e. omega arith)
    (λ e. cond-by Begun (not (plain specs)) (λ f. omega arith)
    (λ f. cond-by Begun (ltb (size - next) (sum lens)) (λ g. omega arith)
    (λ g. cond-by Begun (ltb (sum lens) (size - next)) (λ k. omega arith) (λ k. h))))

parse-begun : (s : List ℕ) → Begun (parse s)
unfolding parse
parse-begun s =
    number_by Begun (u64_at s 0) _
    (λ n q e. cond-by Begun (ltb 64 n) (λ h. omega arith) (λ h. judged-begun (length s) (rows_at n s q) (rows-begun n s q (u64-next s 0 n q e).0)))
    (λ r place e. u64-fault s 0 r place e)

-- ---- what the answer depends on
-- the answer is what a lookup in the first scan alone gives, and never names the corrections
pub record FirstAlone (s s₀ : List ℕ) (o : Over) (p : Part) : Type 0 where
  pub part-is : part_of o ≡ p
  pub bytes-are : part_over s s₀ o ≡ bytes_of s₀ p
  pub never-named : (q : Part) → o ≡ corrected q → ⊥

abbrev named : Over → ℕ
named (corrected p) = 1
named (scanned p) = 0
named neither = 0

module _ (s s₀ : List ℕ) (x : Part) where
  alone-scanned : FirstAlone s s₀ (scanned x) x
  alone-scanned = record { part-is = refl; bytes-are = refl; never-named = λ q e. let w = ap named e in omega (arith, w) }

  alone-neither : FirstAlone s s₀ neither (no_part 0 0)
  alone-neither = record { part-is = refl; bytes-are = refl; never-named = λ q e. let w = ap named e in omega (arith, w) }

  alone-if : (b : Bool) → FirstAlone s s₀ (cond b (scanned x) neither) (cond b x (no_part 0 0))
  alone-if true = alone-scanned
  alone-if false = alone-neither

alone-case : (s s₀ : List ℕ) (spec next : ℕ) (u : Tab) → FirstAlone s s₀ (over_in spec (tab [] [] next) u) (spec_part_in spec u)
unfolding row_of
alone-case s s₀ spec next (faulty number place) = alone-scanned s s₀ (no_part number place)
alone-case s s₀ spec next (tab specs lens next₀) = alone-if s s₀ (row_in spec specs lens next₀) (has_row spec specs)

-- CORRECTIONS OF NO ROWS: the lookup is that of the first scan
pub first_alone : (s s₀ : List ℕ) (spec : ℕ) {next : ℕ} → parse s ≡ tab [] [] next → FirstAlone s s₀ (over s s₀ spec) (part_for s₀ spec)
unfolding part_for over
first_alone s s₀ spec {next} e = rw e (alone-case s s₀ spec next (parse s₀))

-- CORRECTIONS THAT HAVE THE ROW: the part is theirs, whatever the first scan holds, where its table has no fault
pub corrected-shown : (s s₀ : List ℕ) (spec : ℕ) {specs lens specs₀ lens₀ : List ℕ} {next next₀ : ℕ} → parse s ≡ tab specs lens next
    → has_row spec specs ≡ true → parse s₀ ≡ tab specs₀ lens₀ next₀
    → (over s s₀ spec ≡ corrected (part_for s spec)) × (bytes_over s s₀ spec ≡ bytes_of s (part_for s spec))
unfolding part_for over
corrected-shown s s₀ spec e h g = (rw (e, g, h), rw (e, g, h))

-- ONE TABLE, ONE ANSWER: nothing inside the first scan's columns is asked for where the part lies
pub one_answer : (s s₀ s₁ : List ℕ) (spec : ℕ) → parse s₀ ≡ parse s₁ → over s s₀ spec ≡ over s s₁ spec
unfolding over
one_answer s s₀ s₁ spec e = ap (over_in spec (parse s)) e
