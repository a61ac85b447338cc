-- 1 is not as 21: of these columns, cut within a number or a name, nothing is kept, and yet every sound column that begins with them begins with the same
-- value, or there is none. A cut number is at least 128 or the one number that is left, since a shorter encoding is the only one of a smaller; a cut name
-- can be one that no bytes make UTF-8. Assumes nothing.
use Prim.Native.Nat.{ℕ, zero, suc, ◌+◌, ◌*◌, ◌^◌, ◌≤◌, ◌<◌, min}
use mathlib.Core.Path.{◌≡◌, refl, sym, ◌∙◌, ap}
use mathlib.Core.List.{List, [], ◌∷◌, ◌++◌, map}
use mathlib.Core.Option.{Option, none, some}
use mathlib.Core.Bool.{Bool, true, false, cond, ◌&&◌}
use native.Mathlib.Nat.{mul-le-mul_left}
use native.Mathlib.Omega.{arith}
use lib.Dec.{ltb, leb, eqb}
use lib.ListN.{length, replicate, length-append}
use borrow.Author.Tests.{lt-ltb, eqb-false, ltb-false}
use Rattle.leb128.specs.Got.{Got, got, bad}
use Rattle.leb128.specs.Digits.{Digits, whole, broken, more, digits}
use Rattle.leb128.specs.Read.{u_large, u_long, unsigned, u64_at, i64_at}
use Rattle.leb128.proofs.Sound.{SoundDigits, sound}
use Rattle.encoding.specs.Limit.{limit}
use Rattle.encoding.specs.Walk.{fault, Trace, Next, over, on, off, Run, onward, after, walk}
use Rattle.encoding.specs.Walk as Walk
use Rattle.encoding.specs.Element.{Element}
use Rattle.encoding.specs.Head.{Head, absent_head, begun, head_at}
use Rattle.encoding.specs.Column.{absent, value, spot, literal_next, literals, run_of, run_at, trace_from, trace}
use Rattle.encoding.proofs.Lists.{cond-by, map-append, map-replicate}
use Rattle.encoding.proofs.Elements.{ElementLaws}
use Rattle.encoding.proofs.Columns.{trace-on, run-head}
use Rattle.rle_decoder.specs.Word.{u64_e}
use Rattle.rle_decoder.proofs.WordLaws.{u64-laws}
use Rattle.utf8.specs.Utf8.{follow, goes_on, is_utf8}
use Rattle.text.specs.Text.{text_at, text_e}
use Rattle.text.proofs.TextLaws.{text-laws}
use Rattle.boolean_decoder.specs.Turns.{turn, counted, turn_at, turns_from, bool_trace}
use Rattle.boolean_decoder.proofs.Turning.{turn-read, turns-on}
use Rattle.salvage.specs.Kept.{Prefix, Bytes, Certain}
use Rattle.salvage.proofs.Keeping.{prefix-left, prefix-self}

abbrev cut_at : {R : Type 0} → ℕ → Trace R
cut_at place = record { readings = []; ending = fault 1 place }

-- nothing is kept of them
pub record Cut : Type 0 where
  pub count : bool_trace (0x80 ∷ []) ≡ cut_at 0
  pub absences : trace u64_e (0x00 ∷ 0x80 ∷ []) ≡ cut_at 1
  pub largest : trace u64_e (0x7f ∷ replicate 9 0x80) ≡ cut_at 1
  pub name : trace text_e (0x7f ∷ 0x02 ∷ 0xff ∷ []) ≡ cut_at 1

pub cuts : Cut
unfolding bool_trace turns_from turn_at counted trace trace_from walk run_at head_at begun absent_head run_of literals literal_next text_at u64_at i64_at
cuts = record { count = refl; absences = refl; largest = refl; name = refl }

-- ---- what the first run says of the list, unless it is at fault

abbrev ShowsBefore : {R S B : Type 0} → (R → B) → List B → List R → Next S → Type 0
ShowsBefore f xs rs over = Prefix xs (map f rs)
ShowsBefore f xs rs (on z) = Prefix xs (map f rs)
ShowsBefore f xs rs (off number place) = Unit {0}

abbrev Shows : {R S B : Type 0} → (R → B) → List B → Run R S → Type 0
Shows f xs r = ShowsBefore f xs r.readings r.next

shows : {R S B : Type 0} (f : R → B) (xs : List B) (r : Run R S) (k : S → Trace R) (t : Trace R) → t ≡ onward r k → Shows f xs r → t.ending ≡ Walk.sound
    → Prefix xs (map f t.readings)
shows {R} {S} {B} f xs r k t e h o = rw e (go r.next h (ap (λ (t : Trace R). t.ending) (sym e) ∙ o))
  where
    first : (x : Next S) → Prefix xs (map f r.readings) → Prefix xs (map f (r.readings ++ (after x k).readings))
    first x p =
        let z : map f (r.readings ++ (after x k).readings) ≡ map f r.readings ++ map f (after x k).readings =
        map-append f r.readings (after x k).readings in
        rw z (prefix-left xs (map f r.readings) (map f (after x k).readings) p)

    go : (x : Next S) → ShowsBefore f xs r.readings x → (after x k).ending ≡ Walk.sound → Prefix xs (map f (r.readings ++ (after x k).readings))
    go over h o = first over h
    go (on z) h o = first (on z) h
    go (off number place) h o = let x : ◌≡◌ {A = ℕ} 0 1 = cc in absurd (omega arith)

bool-first : (s : List ℕ) → bool_trace s ≡ onward (turn_at s (turn 0 0 0)) (λ z. turns_from s z)
unfolding bool_trace
bool-first s = turns-on s (turn 0 0 0)

trace-first : {A : Type 0} (E : Element A) (L : ElementLaws E) (s : List ℕ) → trace E s ≡ onward (run_at E s (spot 0 0)) (λ z. trace_from E s z)
unfolding trace
trace-first E L s = trace-on E L s (spot 0 0)

-- ---- a number that begins with 80 is none of 0 .. 127

and_right : (a b : Bool) → a ≡ true → (a && b) ≡ false → b ≡ false
and_right true b e h = h
and_right false b e h = let z : false ≡ true = e in cc

large : (p place q c : ℕ) (u : List ℕ) → Bytes u → unsigned p place (digits 0 0 (0x80 ∷ u)) ≡ got c q → 128 ≤ c
large p place q c u b e = go (digits 1 128 u) (sound 1 128 u (omega arith) b) e
  where
    sum : (low scale prev last count : ℕ) → SoundDigits 1 (length u) (whole low scale prev last count) → (a b : Bool) → u_long last (count + 1) ≡ b
        → cond a (bad 2 place) (cond b (bad 3 place) (got (0 + 128 * low + 128 * scale * last) (p + (count + 1)))) ≡ got c q → 128 ≤ c
    sum low scale prev last count h true b f e = let x : ◌≡◌ {A = ℕ} 0 1 = cc in absurd (omega arith)
    sum low scale prev last count h false true f e = let x : ◌≡◌ {A = ℕ} 0 1 = cc in absurd (omega arith)
    sum low scale prev last count h false false f e =
        let x : 0 + 128 * low + 128 * scale * last ≡ c = cc in
        let l : ltb 1 (count + 1) ≡ true = lt-ltb 1 (count + 1) (omega (arith, h.0.some)) in
        let z = eqb-false last 0 (and_right (ltb 1 (count + 1)) (eqb last 0) l f) in
        let m : 128 * scale * 1 ≤ 128 * scale * last = mul-le-mul_left {m = 1} {n = last} (128 * scale) (omega (arith, z)) in
        omega (arith, h.0.below)

    go : (d : Digits) → SoundDigits 1 (length u) d → unsigned p place (more 0 d) ≡ got c q → 128 ≤ c
    go (broken r) h e = let x : ◌≡◌ {A = ℕ} 0 1 = cc in absurd (omega arith)
    go (whole low scale prev last count) h e = sum low scale prev last count h (u_large last (count + 1)) (u_long last (count + 1)) refl e

first_of : {B : Type 0} (c : ℕ) (x : B) → 0 < c → Prefix (x ∷ []) (replicate c x)
first_of zero x l = absurd (omega arith)
first_of (suc c) x l = record { rest = replicate c x; split = refl }

-- ---- the four

-- a boolean column that begins with 80 begins with a false
count-shows : (u : List ℕ) → Bytes u → (g : Got ℕ) → u64_at (0x80 ∷ u) 0 ≡ g → Shows (λ b. b) (0 ∷ []) (counted (turn 0 0 0) g)
unfolding counted u64_at
count-shows u b (bad n k) e = tt
count-shows u b (got c q) e =
    cond-by (Shows (λ b. b) (0 ∷ [])) (leb (0 + c) limit)
    (λ t.
    let h : 128 ≤ c = large 0 (min 0 (length (0x80 ∷ u))) q c u b e in
    rw (map-replicate {A = ℕ} {B = ℕ} (λ b. b) c 0) (first_of c 0 (omega arith)))
    (λ t. tt)

turn-shows : (u : List ℕ) → Bytes u → Shows (λ b. b) (0 ∷ []) (turn_at (0x80 ∷ u) (turn 0 0 0))
turn-shows u b =
    let e = turn-read (0x80 ∷ u) (turn 0 0 0) (u64_at (0x80 ∷ u) 0) (omega arith) refl in
    rw e (count-shows u b (u64_at (0x80 ∷ u) 0) refl)

pub count-certain : Certain bool_trace (λ b. b) (0x80 ∷ []) (0 ∷ [])
count-certain u b o = shows (λ b. b) (0 ∷ []) (turn_at (0x80 ∷ u) (turn 0 0 0)) _ (bool_trace (0x80 ∷ u)) (bool-first (0x80 ∷ u)) (turn-shows u b) o

-- an integer column that begins with 00 80 begins with an absent reading
absent-shows : (u : List ℕ) → Bytes u → (g : Got ℕ) → u64_at (0x00 ∷ 0x80 ∷ u) 1 ≡ g
    → Shows value (none ∷ []) (run_of u64_e (0x00 ∷ 0x80 ∷ u) 0 (absent_head 0 1 g))
unfolding absent_head run_of u64_at value
absent-shows u b (bad n k) e = tt
absent-shows u b (got c q) e =
    cond-by (λ (h : Head). Shows value (none ∷ []) (run_of u64_e (0x00 ∷ 0x80 ∷ u) 0 h)) (leb (0 + c) limit)
    (λ t.
    let h : 128 ≤ c = large 1 (min 1 (length (0x00 ∷ 0x80 ∷ u))) q c u b e in
    rw (map-replicate value c absent) (first_of c none (omega arith)))
    (λ t. tt)

absences-show : (u : List ℕ) → Bytes u → Shows value (none ∷ []) (run_at u64_e (0x00 ∷ 0x80 ∷ u) (spot 0 0))
unfolding head_at begun i64_at
absences-show u b =
    let s : List ℕ = 0x00 ∷ 0x80 ∷ u in
    let e : head_at s 0 0 ≡ absent_head 0 1 (u64_at s 1) = refl in
    let r = run-head u64_e s 0 0 (absent_head 0 1 (u64_at s 1)) (omega arith) e in
    rw r (absent-shows u b (u64_at s 1) refl)

pub absences-certain : Certain (trace u64_e) value (0x00 ∷ 0x80 ∷ []) (none ∷ [])
absences-certain u b o =
    let s : List ℕ = 0x00 ∷ 0x80 ∷ u in
    shows value (none ∷ []) (run_at u64_e s (spot 0 0)) _ (trace u64_e s) (trace-first u64_e u64-laws s) (absences-show u b) o

-- an integer column that begins with 7f and nine times 80 begins with 2^63: the tenth byte of a number is 0 or 1, and a final 0 is overlong
abbrev mores : ℕ → Digits → Digits
mores zero d = d
mores (suc k) d = more 0 (mores k d)

tenth : (p place q c : ℕ) (u : List ℕ) → unsigned p place (digits 0 0 (replicate 9 0x80 ++ u)) ≡ got c q → c ≡ 2 ^ 63
tenth p place q c [] e = let x : ◌≡◌ {A = ℕ} 0 1 = cc in absurd (omega arith)
tenth p place q c (b ∷ u) e = go (ltb b 128) e
  where
    sum : (l z : Bool) → ltb 1 b ≡ l → eqb b 0 ≡ z → cond l (bad 2 place) (cond z (bad 3 place) (got (0 + 2 ^ 63 * b) (p + 10))) ≡ got c q → c ≡ 2 ^ 63
    sum true z f g e = let x : ◌≡◌ {A = ℕ} 0 1 = cc in absurd (omega arith)
    sum false true f g e = let x : ◌≡◌ {A = ℕ} 0 1 = cc in absurd (omega arith)
    sum false false f g e =
        let x : 0 + 2 ^ 63 * b ≡ c = cc in
        let y : b ≡ 1 = omega (arith, ltb-false 1 b f, eqb-false b 0 g) in
        omega arith

    go : (t : Bool) → unsigned p place (mores 9 (cond t (whole 0 1 128 b 1) (broken 2))) ≡ got c q → c ≡ 2 ^ 63
    go true e = sum (ltb 1 b) (eqb b 0) refl refl e
    go false e = let x : ◌≡◌ {A = ℕ} 0 1 = cc in absurd (omega arith)

abbrev nine : List ℕ → List ℕ
nine u = 0x7f ∷ (replicate 9 0x80 ++ u)

value-shows : (u : List ℕ) (g : Got ℕ) → u64_at (nine u) 1 ≡ g → Shows value (some (2 ^ 63) ∷ []) (literal_next 1 g (λ z. literals u64_e (nine u) 1 0 z))
unfolding literal_next literals u64_at value
value-shows u (bad n k) e = tt
value-shows u (got c q) e =
    let h : c ≡ 2 ^ 63 = tenth 1 (min 1 (length (nine u))) q c u e in
    rw h (prefix-self (some (2 ^ 63) ∷ []))

largest-show : (u : List ℕ) → Shows value (some (2 ^ 63) ∷ []) (run_at u64_e (nine u) (spot 0 0))
unfolding head_at begun i64_at run_of literals
largest-show u =
    let e : head_at (nine u) 0 0 ≡ Head.literal 1 1 = refl in
    let r = run-head u64_e (nine u) 0 0 (Head.literal 1 1) (omega arith) e in
    rw r (value-shows u (u64_at (nine u) 1) refl)

pub largest-certain : Certain (trace u64_e) value (0x7f ∷ replicate 9 0x80) (some (2 ^ 63) ∷ [])
largest-certain u b o =
    shows value (some (2 ^ 63) ∷ []) (run_at u64_e (nine u) (spot 0 0)) _ (trace u64_e (nine u)) (trace-first u64_e u64-laws (nine u)) (largest-show u) o

-- no text column that begins with 7f 02 ff is sound
abbrev bad-name : List ℕ → List ℕ
bad-name u = 0x7f ∷ 0x02 ∷ 0xff ∷ u

name-shows : (xs : List (Option (List ℕ))) (u : List ℕ) → Shows value xs (literal_next 1 (text_at (bad-name u) 1) (λ z. literals text_e (bad-name u) 1 0 z))
unfolding literal_next text_at u64_at is_utf8 goes_on follow
name-shows xs u = go (leb 4 (length (bad-name u)))
  where
    go : (t : Bool) → Shows value xs (literal_next 1 (cond t (bad 20 1) (bad 1 1)) (λ z. literals text_e (bad-name u) 1 0 z))
    go true = tt
    go false = tt

name-show : (xs : List (Option (List ℕ))) (u : List ℕ) → Shows value xs (run_at text_e (bad-name u) (spot 0 0))
unfolding head_at begun i64_at run_of literals
name-show xs u =
    let e : head_at (bad-name u) 0 0 ≡ Head.literal 1 1 = refl in
    let r = run-head text_e (bad-name u) 0 0 (Head.literal 1 1) (omega arith) e in
    rw r (name-shows xs u)

pub none-sound : (u : List ℕ) → (trace text_e (0x7f ∷ 0x02 ∷ 0xff ∷ u)).ending ≡ Walk.sound → ⊥
none-sound u o =
    let l : List (Option (List ℕ)) = map value (trace text_e (bad-name u)).readings in
    let h : Prefix (none ∷ l) l =
    shows value (none ∷ l) (run_at text_e (bad-name u) (spot 0 0)) _ (trace text_e (bad-name u)) (trace-first text_e text-laws (bad-name u))
    (name-show (none ∷ l) u) o in
    omega (arith, ap length h.split, length-append (none ∷ l) h.rest)
