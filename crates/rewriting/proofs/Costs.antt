-- What the writer's stretches cost in bytes, where the first of a list are known: absent readings, values of which each is unlike the next, and a value
-- that stands there some times. Assumes nothing.
use Prim.Native.Nat.{ℕ, zero, suc, ◌+◌, ◌≤◌}
use mathlib.Core.Path.{◌≡◌, ◌∙◌, ap}
use mathlib.Core.List.{List, [], ◌∷◌, ◌++◌, map}
use mathlib.Core.Option.{Option, none, some}
use mathlib.Core.Bool.{Bool, true}
use native.Mathlib.Omega.{arith}
use lib.IntN.{pos, negsuc}
use lib.ListN.{length, replicate, length-append}
use Rattle.leb128.specs.Write.{u64_bytes, i64_bytes}
use Rattle.encoding.specs.Element.{Element}
use Rattle.encoding.specs.Stretches.{Stretch, stretches}
use Rattle.encoding.specs.Writer.{all_bytes, stretch_bytes, stretches_bytes}
use Rattle.encoding.specs.Ahead.{join_all, Off, Closed, Apart}
use Rattle.encoding.proofs.Fronts.{NoAbsent, NoValue, absent-cut, repeats-cut, joined, off-ended, closed-ended, some_more}
use Rattle.encoding.proofs.Looking.{repeats-end, literal-end}
use Rattle.rewriting.specs.Cutter.{literal_head, absent_run}

-- values l in front of stretches: each is unlike the next one, the last unlike what the stretches begin with
abbrev pub Pending : {A : Type 0} → (A → A → Bool) → List A → List (Stretch A) → Type 0
Pending same [] r = Unit {0}
Pending same (b ∷ l) r = Apart same b l r

-- ---- the stretches of a list whose first readings are known

module _ {A : Type 0} (same : A → A → Bool) where
  -- a value behind those that are pending becomes one of them
  apart_more : (b : A) (l : List A) (a : A) (r : List (Stretch A)) → Off same a r → Apart same b l (Stretch.literal a [] ∷ []) → Apart same b (l ++ (a ∷ [])) r
  apart_more b [] a r o h = (h, o)
  apart_more b (x ∷ l) a r o h = (h.0, apart_more x l a r o h.1)

  pub pending-more : (l : List A) (a : A) (r : List (Stretch A)) → Off same a r → Pending same l (Stretch.literal a [] ∷ []) → Pending same (l ++ (a ∷ [])) r
  pending-more [] a r o h = o
  pending-more (b ∷ l) a r o h = apart_more b l a r o h

  -- and what is pending before a value is so before a run of it
  apart-run : (b : A) (l : List A) (a : A) (n : ℕ) (r : List (Stretch A)) → Apart same b l (Stretch.literal a [] ∷ []) → Apart same b l (Stretch.repeat n a ∷ r)
  apart-run b [] a n r h = h
  apart-run b (x ∷ l) a n r h = (h.0, apart-run x l a n r h.1)

  pending-run : (l : List A) (a : A) (n : ℕ) (r : List (Stretch A)) → Pending same l (Stretch.literal a [] ∷ []) → Pending same l (Stretch.repeat n a ∷ r)
  pending-run [] a n r h = tt
  pending-run (b ∷ l) a n r h = apart-run b l a n r h

-- ---- and their bytes

module _ {A : Type 0} (E : Element A) where
  -- the bytes of a list's stretches
  abbrev pub cost : List (Option A) → ℕ
  cost ys = length (stretches_bytes E (stretches E.same ys))

  pub all_more : (l : List A) (a : A) → length (all_bytes E (l ++ (a ∷ []))) ≡ length (all_bytes E l) + length (E.write a)
  unfolding all_bytes
  all_more [] a = omega (arith, length-append (E.write a) [])
  all_more (b ∷ l) a =
      omega (arith, length-append (E.write b) (all_bytes E (l ++ (a ∷ []))), length-append (E.write b) (all_bytes E l), all_more l a)

  pub absent-cost : (n : ℕ) (ys : List (Option A)) → NoAbsent E.same ys → cost (replicate n none ++ ys) ≡ absent_run n + cost ys
  unfolding stretches_bytes stretch_bytes
  absent-cost zero ys h = omega arith
  absent-cost (suc n) ys h =
      let r = stretches E.same ys in
      ap (λ (z : List (Stretch A)). length (stretches_bytes E z)) (absent-cut E.same n ys h)
      ∙ omega (arith, length-append (i64_bytes (pos 0) ++ u64_bytes (suc n)) (stretches_bytes E r), length-append (i64_bytes (pos 0)) (u64_bytes (suc n)))

  module _ (same-eq : (a b : A) → E.same a b ≡ true → a ≡ b) (same_self : (a : A) → E.same a a ≡ true) where
    literal-cost : (l : List A) (r : List (Stretch A)) → Pending E.same l r → Closed r
        → length (stretches_bytes E (join_all E.same l r)) ≡ literal_head (length l) + length (all_bytes E l) + length (stretches_bytes E r)
    unfolding stretches_bytes stretch_bytes all_bytes join_all
    literal-cost [] r h c = omega arith
    literal-cost (b ∷ l) r h c =
        ap (λ (z : List (Stretch A)). length (stretches_bytes E z)) (literal-end E.same same-eq same_self b l r h c)
        ∙ omega (
          arith,
          length-append (i64_bytes (negsuc (length l)) ++ (E.write b ++ all_bytes E l)) (stretches_bytes E r),
          length-append (i64_bytes (negsuc (length l))) (E.write b ++ all_bytes E l),
        )

    -- a value alone ends the literal stretch, where no value follows
    pub single-cost : (l : List A) (a : A) (ys : List (Option A)) → Pending E.same l (Stretch.literal a [] ∷ []) → NoValue E.same ys
        → cost (map some l ++ (some a ∷ ys)) ≡ length (E.write a) + literal_head (suc (length l)) + length (all_bytes E l) + cost ys
    single-cost l a ys h n =
        let r = stretches E.same ys in
        let m : length (l ++ (a ∷ [])) ≡ suc (length l) = length-append l (a ∷ []) ∙ omega arith in
        let p = pending-more E.same l a r (off-ended E.same a ys n) h in
        let w : cost (map some l ++ (some a ∷ ys)) ≡ literal_head (suc (length l)) + length (all_bytes E (l ++ (a ∷ []))) + cost ys =
        ap cost (some_more l a ys)
        ∙ ap (λ (z : List (Stretch A)). length (stretches_bytes E z)) (joined E.same (l ++ (a ∷ [])) ys)
        ∙ literal-cost (l ++ (a ∷ [])) r p (closed-ended E.same ys n)
        ∙ ap (λ (k : ℕ). literal_head k + length (all_bytes E (l ++ (a ∷ []))) + cost ys) m in
        omega (arith, all_more l a)

    -- a value that stands there more than once is a run of its own
    pub several-cost : (l : List A) (a : A) (n : ℕ) (ys : List (Option A)) → Pending E.same l (Stretch.literal a [] ∷ []) → 2 ≤ n
        → Off E.same a (stretches E.same ys)
        → cost (map some l ++ (replicate n (some a) ++ ys))
        ≡ literal_head (length l) + length (i64_bytes (pos n)) + length (E.write a) + length (all_bytes E l) + cost ys
    unfolding stretches_bytes stretch_bytes
    several-cost l a n ys h m o =
        let r = stretches E.same ys in
        let w : cost (map some l ++ (replicate n (some a) ++ ys))
        ≡ literal_head (length l) + length (all_bytes E l) + length ((i64_bytes (pos n) ++ E.write a) ++ stretches_bytes E r) =
        ap (λ (z : List (Stretch A)). length (stretches_bytes E z))
        (joined E.same l (replicate n (some a) ++ ys)
        ∙ ap (join_all E.same l) (repeats-cut E.same n a ys ∙ repeats-end E.same same-eq same_self n a r m o))
        ∙ literal-cost l (Stretch.repeat n a ∷ r) (pending-run E.same l a n r h) tt in
        omega (arith, length-append (i64_bytes (pos n) ++ E.write a) (stretches_bytes E r), length-append (i64_bytes (pos n)) (E.write a))
