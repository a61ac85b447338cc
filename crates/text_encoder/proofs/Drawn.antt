-- Laws of a piece of a sound column of names: a reading some times, and what is to come behind it; and of passing so many readings piece by
-- piece. Assumes nothing.
use Prim.Native.Nat.{ℕ, zero, suc, ◌+◌, ◌-◌, ◌≤◌, ◌<◌}
use mathlib.Core.Path.{◌≡◌, refl, sym, ◌∙◌, ap, subst}
use mathlib.Core.List.{List, [], ◌++◌, map}
use mathlib.Core.Option.{Option}
use native.Mathlib.Omega.{arith}
use lib.ListN.{length, drop, replicate, length-append, length-replicate}
use lib.Seq.{drop-append-add}
use Rattle.leb128.specs.Got.{Got, got, bad}
use Rattle.leb128.specs.Read.{u64_at}
use Rattle.encoding.specs.Walk.{Trace, before}
use Rattle.encoding.specs.Column.{Reading, absent, present, value}
use Rattle.encoding.proofs.Lists.{map-append, map-replicate}
use Rattle.cursor.specs.Cursor.{same, literal, cursor, one_literal, coming}
use Rattle.cursor.proofs.Stepping.{follows, only}
use Rattle.cursor.proofs.Cursors.{coming-take, coming-literal}
use Rattle.text.specs.Text.{bytes_at, text_at, text_e}
use Rattle.text_encoder.specs.declared.walk.Held.{Held}
use Rattle.text_encoder.specs.declared.walk.Held.TheVariants as held
use Rattle.text_encoder.specs.declared.walk.TextSort.{TextSort}
use Rattle.text_encoder.specs.declared.walk.TextSort.TheVariants as sorts
use Rattle.text_encoder.specs.declared.walk.TextCursor.{TextCursor}
use Rattle.text_encoder.specs.declared.walk.OldPiece.{OldPiece}
use Rattle.text_encoder.specs.Walks.{held_in, Within, sort_in, coming_at, old_from, Carries, HeldBy, Sound, Onward, DrawnFrom}
use Rattle.text_encoder.proofs.Entered.{text_cursor, Named, named, unnamed, no-fault, ends-here}

abbrev old_piece : Held → ℕ → TextCursor → OldPiece
old_piece h times c = record { held = h; times = times; cursor = c }

-- the reading r, k times, before what is to come at d
drawn-by : (s : List ℕ) (c d : TextCursor) (h : Held) (most k : ℕ) (r : Reading (List ℕ)) → Sound s c → d.at ≤ length s → Carries s d.sort
    → 0 < k → k ≤ most → ((bytes : List ℕ) → Within s bytes h) → ((bytes : List ℕ) → value r ≡ held_in s bytes h)
    → coming_at s c ≡ before (replicate k r) (coming_at s d) → DrawnFrom s c most (old_piece h k d)
drawn-by s c d h most k r w i y l m t v e =
    record {
      sound = record { inside = i; carries = y; ending = sym (ap (λ (x : Trace (Reading (List ℕ))). x.ending) e) ∙ w.ending };
      within = t;
      few = m;
      readings = λ bytes.
          ap (λ (x : Trace (Reading (List ℕ))). map value x.readings) e
          ∙ map-append value (replicate k r) (coming_at s d).readings
          ∙ ap (λ (x : List (Option (List ℕ))). x ++ old_from s d) (map-replicate value k r)
          ∙ ap (λ (x : Option (List ℕ)). replicate k x ++ old_from s d) (v bytes);
      nothing = λ z. absurd (omega arith);
    }

-- ---- of a run in which all are the same

pub held-absent : {x : TextSort} → x ≡ sorts.Absent → HeldBy x held.Absent
held-absent e = subst (λ (x : TextSort). HeldBy x held.Absent) (sym e) refl

pub held-repeat : {x : TextSort} {start len place : ℕ} → x ≡ sorts.Repeat start len place → HeldBy x (held.Old start len)
held-repeat {start = start} {len = len} e = subst (λ (x : TextSort). HeldBy x (held.Old start len)) (sym e) refl

pub drawn-same : (s : List ℕ) (c : TextCursor) (h : Held) (most k rest : ℕ) → Sound s c → HeldBy c.sort h → 0 < k → k ≤ most
    → c.left ≡ k + rest → DrawnFrom s c most (old_piece h k (text_cursor c.at c.had rest c.sort))
unfolding value
drawn-same s c h most k rest w b l m e = go c.sort refl b
  where
    lefts : (x : TextSort) (r : Reading (List ℕ)) → c.sort ≡ x → sort_in s x ≡ same r
        → coming_at s c ≡ before (replicate k r) (coming_at s (text_cursor c.at c.had rest c.sort))
    lefts x r f g =
        let sorted : sort_in s c.sort ≡ same r = ap (sort_in s) f ∙ g in
        ap (λ (j : ℕ). coming text_e s (cursor c.at c.had j (sort_in s c.sort))) e
        ∙ ap (λ y. coming text_e s (cursor c.at c.had (k + rest) y)) sorted
        ∙ coming-take text_e s c.at c.had k rest r
        ∙ ap (λ y. before (replicate k r) (coming text_e s (cursor c.at c.had rest y))) (sym sorted)

    go : (x : TextSort) → c.sort ≡ x → HeldBy x h → DrawnFrom s c most (old_piece h k (text_cursor c.at c.had rest c.sort))
    go sorts.Absent f b =
        let within : (bytes : List ℕ) → Within s bytes h = λ bytes. subst (Within s bytes) (sym b) tt in
        drawn-by s c _ h most k absent w w.inside w.carries l m within (λ bytes. sym (ap (held_in s bytes) b)) (lefts sorts.Absent absent f refl)
    go (sorts.Repeat start len place) f b =
        let room : start + len ≤ length s = subst (Carries s) f w.carries in
        let within : (bytes : List ℕ) → Within s bytes h = λ bytes. subst (Within s bytes) (sym b) room in
        let r : Reading (List ℕ) = present (bytes_at s start len) place in
        drawn-by s c _ h most k r w w.inside w.carries l m within (λ bytes. sym (ap (held_in s bytes) b))
        (lefts (sorts.Repeat start len place) r f refl)
    go sorts.Literal f b = absurd b

-- ---- a literal name

module _ (s : List ℕ) (c : TextCursor) (w : Sound s c) (l : 0 < c.left) (f : c.sort ≡ sorts.Literal) where
  literal-got : (g : Got (List ℕ)) → text_at s c.at ≡ g
      → coming_at s c ≡ follows only (coming text_e s) (one_literal (cursor c.at c.had c.left literal) g)
  literal-got g e =
      ap (λ y. coming text_e s (cursor c.at c.had c.left y)) (ap (sort_in s) f)
      ∙ coming-literal text_e s c.at c.had c.left l
      ∙ ap (λ (x : Got (List ℕ)). follows only (coming text_e s) (one_literal (cursor c.at c.had c.left literal) x)) e

  literal-by : {P : Type 0} → ((v : List ℕ) (z : ℕ) → text_at s c.at ≡ got v z → P) → P
  unfolding one_literal
  literal-by {P} k = go (text_at s c.at) refl
    where
      go : (g : Got (List ℕ)) → text_at s c.at ≡ g → P
      go (got v z) d = k v z d
      go (bad number place) d = absurd (no-fault (coming_at s c) number place (literal-got (bad number place) d) w.ending)

  pub literal-named : (n start : ℕ) → u64_at s c.at ≡ got n start → Named s c.at n start
  literal-named n start e = literal-by (λ v z d. named s c.at z n start v d e)

  pub literal-there : (number place : ℕ) → u64_at s c.at ≡ bad number place → ⊥
  literal-there number place e = literal-by (λ v z d. unnamed s c.at z number place v d e)

  pub drawn-literal : (most n start : ℕ) → 0 < most → u64_at s c.at ≡ got n start
      → DrawnFrom s c most (old_piece (held.Old start n) 1 (text_cursor (start + n) c.had (c.left - 1) sorts.Literal))
  unfolding one_literal value
  drawn-literal most n start m e =
      let r = literal-named n start e in
      drawn-by s c _ (held.Old start n) most 1 (present (bytes_at s start n) c.at) w r.room tt (omega arith) m (λ bytes. r.room) (λ bytes. refl)
      (literal-got (got (bytes_at s start n) (start + n)) r.read)

-- ---- from any cursor

-- nothing is to come
pub drawn-nothing : (s : List ℕ) (c d : TextCursor) (most : ℕ) → Onward s c d → d.left ≡ 0 → length s ≤ d.at
    → DrawnFrom s c most (old_piece held.Absent 0 d)
drawn-nothing s c d most o z l =
    let e : old_from s c ≡ old_from s d = sym (ap (λ (t : Trace (Reading (List ℕ))). map value t.readings) o.coming) in
    record {
      sound = o.sound;
      within = λ bytes. tt;
      few = omega arith;
      readings = λ bytes. e;
      nothing = λ x. e ∙ ap (map value) (ends-here s d z l);
    }

-- what is drawn further on is drawn from here
pub drawn-onward : (s : List ℕ) (c d : TextCursor) (most : ℕ) (r : OldPiece) → Onward s c d → DrawnFrom s d most r → DrawnFrom s c most r
drawn-onward s c d most r o h =
    let e : old_from s c ≡ old_from s d = sym (ap (λ (t : Trace (Reading (List ℕ))). map value t.readings) o.coming) in
    record {
      sound = h.sound;
      within = h.within;
      few = h.few;
      readings = λ bytes. e ∙ h.readings bytes;
      nothing = λ x. e ∙ h.nothing x;
    }

-- ---- passing n readings: so many are left to pass at c

pub record Passing (s : List ℕ) (first : TextCursor) (n : ℕ) (c : TextCursor) (left : ℕ) : Type 0 where
  pub sound : Sound s c
  pub enough : left ≤ length (old_from s c)
  pub passed : drop left (old_from s c) ≡ drop n (old_from s first)

pub passing-start : (s : List ℕ) (c : TextCursor) (n : ℕ) → Sound s c → n ≤ length (old_from s c) → Passing s c n c n
passing-start s c n w l = record { sound = w; enough = l; passed = refl }

-- how long a list is, by its first piece
pub piece-length : (s : List ℕ) (c : TextCursor) (most : ℕ) (r : OldPiece) → DrawnFrom s c most r
    → length (old_from s c) ≡ r.times + length (old_from s r.cursor)
piece-length s c most r h =
    let x : List (Option (List ℕ)) = replicate r.times (held_in s [] r.held) in
    let y : List (Option (List ℕ)) = old_from s r.cursor in
    let e : length (old_from s c) ≡ length (x ++ y) = ap length (h.readings []) in
    omega (arith, length-append x y, length-replicate r.times (held_in s [] r.held))

-- where readings are to come, a piece has some
pub piece-some : (s : List ℕ) (c : TextCursor) (most : ℕ) (r : OldPiece) → DrawnFrom s c most r → 0 < length (old_from s c) → 0 < r.times
piece-some s c most r h l = go r.times refl
  where
    go : (k : ℕ) → r.times ≡ k → 0 < k
    go zero e = let z : length (old_from s c) ≡ 0 = ap length (h.nothing e) in absurd (omega arith)
    go (suc k) e = omega arith

pub passing-on : (s : List ℕ) (first c : TextCursor) (n left : ℕ) (r : OldPiece) → Passing s first n c left → DrawnFrom s c left r
    → Passing s first n r.cursor (left - r.times)
passing-on s first c n left r p h =
    let x : List (Option (List ℕ)) = replicate r.times (held_in s [] r.held) in
    let y : List (Option (List ℕ)) = old_from s r.cursor in
    let k : length x ≡ r.times = length-replicate r.times (held_in s [] r.held) in
    let e : left ≡ length x + (left - r.times) = omega (arith, h.few) in
    record {
      sound = h.sound;
      enough = omega (arith, piece-length s c left r h, p.enough);
      passed =
          sym
          (ap (λ (j : ℕ). drop j (x ++ y)) e
          ∙ drop-append-add x y (left - r.times))
          ∙ sym (ap (drop left) (h.readings []))
          ∙ p.passed;
    }

pub passing-less : (s : List ℕ) (first c : TextCursor) (n left : ℕ) (r : OldPiece) → 0 < left → Passing s first n c left → DrawnFrom s c left r
    → left - r.times < left
passing-less s first c n left r l p h =
    let z : 0 < r.times = piece-some s c left r h (omega (arith, p.enough)) in
    omega arith

pub passing-end : (s : List ℕ) (first c : TextCursor) (n left : ℕ) → left ≤ 0 → Passing s first n c left → old_from s c ≡ drop n (old_from s first)
passing-end s first c n left l p = let z : 0 ≡ left = omega arith in ap (λ (j : ℕ). drop j (old_from s c)) z ∙ p.passed
