-- Bytes appended behind others: what is read at a position stays as it was, a value always and a refusal where it is final. Of numbers, of names and of
-- how a run begins. Assumes nothing.
use Prim.Native.Nat.{ℕ, suc, ◌+◌, ◌-◌, ◌≤◌, min}
use mathlib.Core.Path.{◌≡◌, refl, sym, ◌∙◌, ap}
use mathlib.Core.List.{List, [], ◌∷◌, ◌++◌}
use mathlib.Core.Bool.{Bool, true, false, cond}
use native.Mathlib.Decide.{dec_lt}
use native.Mathlib.Omega.{arith}
use lib.Dec.{ltb, leb, eqb}
use lib.IntN.{ℤ, pos, negsuc}
use lib.ListN.{length, take, drop, length-append, length-drop}
use lib.Seq.{drop-append-le, take-append-le}
use borrow.Author.Tests.{leb-true, le-leb}
use Rattle.leb128.specs.Got.{Got, got, bad}
use Rattle.leb128.specs.Digits.{Digits, whole, broken, more, ended, digits}
use Rattle.leb128.specs.Read.{unsigned, signed, narrow, u32_at, u64_at, i64_at}
use Rattle.leb128.proofs.Refusals.{u64-none, i64-none}
use Rattle.encoding.specs.Head.{Head, amiss, judged, absent_head, begun, head_at}
use Rattle.utf8.specs.Utf8.{is_utf8}
use Rattle.text.specs.Text.{bytes_at, valued, text_at}
use Rattle.salvage.specs.Kept.{Final}

-- what is read at first (g), and with more bytes behind (h)
abbrev pub Stays : {A : Type 0} → Got A → Got A → Type 0
Stays (got a q) h = h ≡ got a q
Stays (bad number place) h = Final number → h ≡ bad number place

-- of a reader, at all positions
abbrev pub Staying : {A : Type 0} → (List ℕ → ℕ → Got A) → Type 0
Staying read = (s u : List ℕ) (p : ℕ) → Stays (read s p) (read (s ++ u) p)

pub stays-self : {A : Type 0} (g : Got A) → Stays g g
stays-self (got a q) = refl
stays-self (bad number place) = λ f. refl

-- ---- numbers

abbrev StaysDigits : Digits → Digits → Type 0
StaysDigits (whole low scale prev last count) d = d ≡ whole low scale prev last count
StaysDigits (broken r) d = Final r → d ≡ broken r

stays-more : (b : ℕ) (c d : Digits) → StaysDigits c d → StaysDigits (more b c) (more b d)
stays-more b (whole low scale prev last count) d h = ap (more b) h
stays-more b (broken r) d h = λ f. ap (more b) (h f)

stays-ended : (n : ℕ) (d : Digits) → StaysDigits (broken (ended n)) d
stays-ended n d = go (eqb n 0)
  where
    go : (t : Bool) → Final (cond t 21 1) → d ≡ broken (cond t 21 1)
    go true f = absurd (f.1 refl)
    go false f = absurd (f.0 refl)

digits-stay : (n p : ℕ) (bs u : List ℕ) → StaysDigits (digits n p bs) (digits n p (bs ++ u))
digits-stay n p [] u = stays-ended n (digits n p u)
digits-stay n p (b ∷ bs) u = go (ltb b 128) (eqb n 9) (digits-stay (n + 1) b bs u)
  where
    go : (t l : Bool) → StaysDigits (digits (n + 1) b bs) (digits (n + 1) b (bs ++ u))
        → StaysDigits (cond t (whole 0 1 p b 1) (cond l (broken 2) (more (b - 128) (digits (n + 1) b bs))))
        (cond t (whole 0 1 p b 1) (cond l (broken 2) (more (b - 128) (digits (n + 1) b (bs ++ u)))))
    go true l h = refl
    go false true h = λ f. refl
    go false false h = stays-more (b - 128) (digits (n + 1) b bs) (digits (n + 1) b (bs ++ u)) h

unsigned-stays : (at place : ℕ) (c d : Digits) → StaysDigits c d → Stays (unsigned at place c) (unsigned at place d)
unsigned-stays at place (whole low scale prev last count) d h =
    let z : unsigned at place (whole low scale prev last count) ≡ unsigned at place d = ap (unsigned at place) (sym h) in
    rw z (stays-self (unsigned at place d))
unsigned-stays at place (broken r) d h = λ f. ap (unsigned at place) (h f)

signed-stays : (at place : ℕ) (c d : Digits) → StaysDigits c d → Stays (signed at place c) (signed at place d)
signed-stays at place (whole low scale prev last count) d h =
    let z : signed at place (whole low scale prev last count) ≡ signed at place d = ap (signed at place) (sym h) in
    rw z (stays-self (signed at place d))
signed-stays at place (broken r) d h = λ f. ap (signed at place) (h f)

-- where no byte stands
stays-none : {A : Type 0} (g h : Got A) (place : ℕ) → g ≡ bad 21 place → Stays g h
stays-none g h place e = rw e (λ f. absurd (f.1 refl))

min-here : (p : ℕ) (s : List ℕ) → p ≤ length s → min p (length s) ≡ p
min-here p s l = omega arith

min-there : (p : ℕ) (s u : List ℕ) → p ≤ length s → min p (length (s ++ u)) ≡ p
min-there p s u l = omega (arith, length-append s u)

u64-within : (s u : List ℕ) (p : ℕ) → p ≤ length s → Stays (u64_at s p) (u64_at (s ++ u) p)
unfolding u64_at
u64-within s u p l =
    rw (min-here p s l, min-there p s u l, drop-append-le p s u l)
    (unsigned-stays p p (digits 0 0 (drop p s)) (digits 0 0 (drop p s ++ u)) (digits-stay 0 0 (drop p s) u))

pub u64-stays : Staying u64_at
u64-stays s u p = elim (dec_lt (length s) p) [
  | yes l ↦ stays-none (u64_at s p) (u64_at (s ++ u) p) (length s) (u64-none s p (omega arith))
  | no l ↦ u64-within s u p (omega arith)
]

i64-within : (s u : List ℕ) (p : ℕ) → p ≤ length s → Stays (i64_at s p) (i64_at (s ++ u) p)
unfolding i64_at
i64-within s u p l =
    rw (min-here p s l, min-there p s u l, drop-append-le p s u l)
    (signed-stays p p (digits 0 0 (drop p s)) (digits 0 0 (drop p s ++ u)) (digits-stay 0 0 (drop p s) u))

pub i64-stays : Staying i64_at
i64-stays s u p = elim (dec_lt (length s) p) [
  | yes l ↦ stays-none (i64_at s p) (i64_at (s ++ u) p) (length s) (i64-none s p (omega arith))
  | no l ↦ i64-within s u p (omega arith)
]

-- a number of 32 bits, which is judged for 2 behind all else
pub u32-stays : Staying u32_at
unfolding u32_at
u32-stays s u p = go (u64_at s p) (u64-stays s u p)
  where
    go : (g : Got ℕ) → Stays g (u64_at (s ++ u) p) → Stays (narrow p g) (narrow p (u64_at (s ++ u) p))
    go (got v q) h = rw h (stays-self (narrow p (got v q)))
    go (bad number place) h = λ f. ap (narrow p) (h f)

-- ---- names: a name that was cut is 1, and 20 is judged of whole names

bytes-stay : (s u : List ℕ) (q n : ℕ) → q + n ≤ length s → bytes_at (s ++ u) q n ≡ bytes_at s q n
bytes-stay s u q n l =
    ap (take n) (drop-append-le q s u (omega arith)) ∙ take-append-le n (drop q s) u (omega (arith, length-drop q s))

valued-stays : (s u : List ℕ) (p : ℕ) (g h : Got ℕ) → Stays g h → Stays (valued s p g) (valued (s ++ u) p h)
valued-stays s u p (bad number place) h k = λ f. ap (valued (s ++ u) p) (k f)
valued-stays s u p (got n q) h k =
    let z : valued (s ++ u) p h ≡ valued (s ++ u) p (got n q) = ap (valued (s ++ u) p) k in
    rw z (go (leb (q + n) (length s)) refl)
  where
    go : (t : Bool) → leb (q + n) (length s) ≡ t
        → Stays (cond t (cond (is_utf8 (bytes_at s q n)) (got (bytes_at s q n) (q + n)) (bad 20 p)) (bad 1 p)) (valued (s ++ u) p (got n q))
    go false e = λ f. absurd (f.0 refl)
    go true e =
        let l : q + n ≤ length s = leb-true (q + n) (length s) e in
        let m : leb (q + n) (length (s ++ u)) ≡ true = le-leb (q + n) (length (s ++ u)) (omega (arith, length-append s u)) in
        rw (m, bytes-stay s u q n l) (stays-self (cond (is_utf8 (bytes_at s q n)) (got (bytes_at s q n) (q + n)) (bad 20 p)))

pub text-stays : Staying text_at
unfolding text_at
text-stays s u p = valued-stays s u p (u64_at s p) (u64_at (s ++ u) p) (u64-stays s u p)

-- ---- how a run begins

abbrev pub StaysHead : Head → Head → Type 0
StaysHead (Head.repeat c q) h = h ≡ Head.repeat c q
StaysHead (Head.literal c q) h = h ≡ Head.literal c q
StaysHead (Head.absent c q) h = h ≡ Head.absent c q
StaysHead (amiss number place) h = Final number → h ≡ amiss number place

stays-head : (h : Head) → StaysHead h h
stays-head (Head.repeat c q) = refl
stays-head (Head.literal c q) = refl
stays-head (Head.absent c q) = refl
stays-head (amiss number place) = λ f. refl

absent-stays : (had q : ℕ) (g h : Got ℕ) → Stays g h → StaysHead (absent_head had q g) (absent_head had q h)
unfolding absent_head
absent-stays had q (got c next) h k = rw k (stays-head (judged had c q (Head.absent c next)))
absent-stays had q (bad number place) h k = λ f. ap (absent_head had q) (k f)

begun-stays : (s u : List ℕ) (at had : ℕ) (g h : Got ℤ) → Stays g h → StaysHead (begun s at had g) (begun (s ++ u) at had h)
unfolding begun
begun-stays s u at had (bad number place) h k = λ f. ap (begun (s ++ u) at had) (k f)
begun-stays s u at had (got (negsuc c) q) h k = rw k (stays-head (judged had (suc c) at (Head.literal (suc c) q)))
begun-stays s u at had (got (pos c) q) h k = rw k (go (eqb c 0))
  where
    go : (t : Bool) → StaysHead (cond t (absent_head had q (u64_at s q)) (judged had c at (Head.repeat c q)))
        (cond t (absent_head had q (u64_at (s ++ u) q)) (judged had c at (Head.repeat c q)))
    go true = absent-stays had q (u64_at s q) (u64_at (s ++ u) q) (u64-stays s u q)
    go false = stays-head (judged had c at (Head.repeat c q))

pub head-stays : (s u : List ℕ) (at had : ℕ) → StaysHead (head_at s at had) (head_at (s ++ u) at had)
unfolding head_at
head-stays s u at had = begun-stays s u at had (i64_at s at) (i64_at (s ++ u) at) (i64-stays s u at)
