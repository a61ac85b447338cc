-- Names that were written, as they read back: what the slots then hold. Assumes nothing.
use Prim.Native.Nat.{ℕ, zero, suc, ◌+◌, ◌-◌, ◌≤◌, max}
use mathlib.Core.Path.{◌≡◌, refl, sym, ◌∙◌, ap}
use mathlib.Core.List.{List, [], ◌∷◌, ◌++◌, map, append_assoc, append-nil}
use mathlib.Core.Option.{Option, none, some}
use mathlib.Core.Bool.{Bool, true, false}
use native.Mathlib.Omega.{arith}
use lib.ListN.{length, take, drop, replicate, length-map, length-append, length-replicate, replicate-append-replicate}
use Rattle.leb128.specs.Answer.{done}
use Rattle.encoding.specs.Column.{Reading, absent, present, value, trace}
use Rattle.encoding.specs.Limit.{limit}
use Rattle.encoding.specs.Slots.{flag_of}
use Rattle.encoding.specs.Walk.{Ending, outcome_of, outcome}
use Rattle.encoding.specs.Writer.{any_present, column_bytes}
use Rattle.encoding.proofs.Back.{ListFits}
use Rattle.text.specs.Text.{text_e}
use Rattle.text.specs.Name.{length_of}
use Rattle.text.proofs.Texts.{text-trip}
use Rattle.slots.specs.Splice.{in_slots}
use Rattle.splice.specs.Contract.{flag_in, length_in}
use Rattle.text_encoder.specs.Edits.{refilled}
use Rattle.text_encoder.proofs.Plain.{nothing-sound, nothing_read}
use Rattle.encoding.proofs.Written.{column-none}

-- ---- lists that can be written, in parts
abbrev Fits : List (Option (List ℕ)) → Type 0
Fits xs = ListFits text_e xs

pub fits-append : (xs ys : List (Option (List ℕ))) → Fits xs → Fits ys → Fits (xs ++ ys)
fits-append [] ys h k = k
fits-append (none ∷ xs) ys h k = fits-append xs ys h k
fits-append (some a ∷ xs) ys h k = (h.0, fits-append xs ys h.1 k)

pub fits-take : (n : ℕ) (xs : List (Option (List ℕ))) → Fits xs → Fits (take n xs)
fits-take zero xs h = tt
fits-take (suc n) [] h = tt
fits-take (suc n) (none ∷ xs) h = fits-take n xs h
fits-take (suc n) (some a ∷ xs) h = (h.0, fits-take n xs h.1)

pub fits-drop : (n : ℕ) (xs : List (Option (List ℕ))) → Fits xs → Fits (drop n xs)
fits-drop zero xs h = h
fits-drop (suc n) [] h = tt
fits-drop (suc n) (none ∷ xs) h = fits-drop n xs h
fits-drop (suc n) (some a ∷ xs) h = fits-drop n xs h.1

-- ---- a reading's slots, by its value
pub length-same : (r : Reading (List ℕ)) → length_of r ≡ length_in (value r)
unfolding length_of value
length-same absent = refl
length-same (present v place) = refl

pub flag_same : (r : Reading (List ℕ)) → flag_of r ≡ flag_in (value r)
unfolding value
flag_same absent = refl
flag_same (present v place) = refl

map_same : {R X : Type 0} (f : R → ℕ) (v : R → X) (g : X → ℕ) → ((r : R) → f r ≡ g (v r)) → (rs : List R) → map f rs ≡ map g (map v rs)
map_same f v g h [] = refl
map_same f v g h (r ∷ rs) = ap (λ (x : ℕ). x ∷ map f rs) (h r) ∙ ap (λ (l : List ℕ). g (v r) ∷ l) (map_same f v g h rs)

map-none : {A : Type 0} (g : Option A → ℕ) → g none ≡ 0 → (xs : List (Option A)) → any_present xs ≡ false → replicate (length xs) 0 ≡ map g xs
unfolding any_present
map-none g z [] h = refl
map-none g z (none ∷ xs) h = ap (λ (x : ℕ). x ∷ replicate (length xs) 0) (sym z) ∙ ap (λ (l : List ℕ). g none ∷ l) (map-none g z xs h)
map-none g z (some a ∷ xs) h = let y : true ≡ false = h in cc

-- ---- what is written reads soundly, has no more readings than the list, and its readings, padded, are the list
abbrev pub read_back : List (Option (List ℕ)) → List (Reading (List ℕ))
read_back xs = (trace text_e (column_bytes text_e xs)).readings

-- as slots hold them: f of each reading, padded to n
abbrev padded : ℕ → List ℕ → List ℕ
padded n ys = ys ++ replicate (n - length ys) 0

pub record Written (xs : List (Option (List ℕ))) : Type 0 where
  pub sound : outcome (trace text_e (column_bytes text_e xs)) ≡ done (length (read_back xs))
  pub few : length (read_back xs) ≤ length xs
  pub all : (f : Reading (List ℕ) → ℕ) (g : Option (List ℕ) → ℕ) → ((r : Reading (List ℕ)) → f r ≡ g (value r)) → g none ≡ 0
      → padded (length xs) (map f (read_back xs)) ≡ map g xs

outcome-sound : (n : ℕ) → outcome_of n Ending.sound ≡ done n
unfolding outcome_of
outcome-sound n = refl

full : (xs : List (Option (List ℕ))) → Fits xs → length xs ≤ limit → any_present xs ≡ true → Written xs
unfolding outcome
full xs h k e =
    let t = text-trip xs e h k in
    let n : length (read_back xs) ≡ length xs = sym (length-map (read_back xs) value) ∙ ap length t.0 in
    record {
      sound = ap (outcome_of (length (read_back xs))) t.1 ∙ outcome-sound (length (read_back xs));
      few = omega arith;
      all = λ f g s z.
          let m : length xs - length (map f (read_back xs)) ≡ 0 = omega (arith, length-map (read_back xs) f) in
          ap (λ (j : ℕ). map f (read_back xs) ++ replicate j 0) m ∙ append-nil (map f (read_back xs)) ∙ map_same f value g s (read_back xs) ∙ ap (map g) t.0;
    }

none-there : (xs : List (Option (List ℕ))) → any_present xs ≡ false → Written xs
none-there xs e =
    let w = column-none text_e xs e in
    let r : read_back xs ≡ [] = ap (λ (s : List ℕ). (trace text_e s).readings) w ∙ nothing_read in
    record {
      sound = ap (λ (s : List ℕ). outcome (trace text_e s)) w ∙ nothing-sound ∙ ap (λ (l : List (Reading (List ℕ))). done (length l)) (nothing_read ∙ sym r);
      few = let n = ap length r in omega arith;
      all = λ f g s z.
          let m : length xs - 0 ≡ length xs = omega arith in
          ap (λ (l : List (Reading (List ℕ))). padded (length xs) (map f l)) r ∙ ap (λ (j : ℕ). replicate j 0) m ∙ map-none g z xs e;
    }

pub written : (xs : List (Option (List ℕ))) → Fits xs → length xs ≤ limit → Written xs
written xs h k = go (any_present xs) refl
  where
    go : (b : Bool) → any_present xs ≡ b → Written xs
    go true e = full xs h k e
    go false e = none-there xs e

joined : (ys : List ℕ) (i j : ℕ) (zs : List ℕ) → ys ++ (replicate (i + j) 0 ++ zs) ≡ (ys ++ replicate i 0) ++ (replicate j 0 ++ zs)
joined ys i j zs =
    ap (λ (x : List ℕ). ys ++ (x ++ zs)) (sym (replicate-append-replicate {A = ℕ} i j 0))
    ∙ ap (λ (x : List ℕ). ys ++ x) (append_assoc (replicate i 0) (replicate j 0) zs)
    ∙ sym (append_assoc ys (replicate i 0) (replicate j 0 ++ zs))

-- ---- slots that were filled and cleared hold the list in place of the old one
pub held : (m old n : ℕ) (ys slots : List ℕ) → m ≡ max old n → length ys ≤ n
    → refilled m ys slots ≡ in_slots 0 slots old (padded n ys)
held m old n ys slots e h =
    let i = n - length ys in
    let j = old - n in
    let d : m - length ys ≡ i + j = omega arith in
    let c : length (padded n ys) ≡ n = length-append ys (replicate i 0) ∙ omega (arith, length-replicate {A = ℕ} i 0) in
    ap (λ (k : ℕ). ys ++ (replicate k 0 ++ drop m slots)) d ∙ joined ys i j (drop m slots)
    ∙ sym (ap (λ (k : ℕ). padded n ys ++ (replicate (old - k) 0 ++ drop (max old k) slots)) c ∙ ap (λ (k : ℕ). padded n ys ++ (replicate j 0 ++ drop k slots)) (sym e))
