-- Laws of going on in a sound column of names: where a run is entered, its head and its value can be read, and the same readings are to come
-- behind the head. Assumes nothing.
use Prim.Native.Nat.{ℕ, ◌+◌, ◌≤◌, ◌<◌}
use mathlib.Core.Path.{◌≡◌, refl, sym, ◌∙◌, ap}
use mathlib.Core.List.{List, []}
use native.Mathlib.Omega.{arith}
use lib.ListN.{length}
use Rattle.leb128.specs.Got.{Got, got, bad}
use Rattle.leb128.specs.Read.{u64_at}
use Rattle.leb128.proofs.Laws.{u64-next}
use Rattle.encoding.specs.Walk.{sound, fault, Trace, Next, after}
use Rattle.encoding.specs.Head.{Head, amiss, head_at}
use Rattle.encoding.specs.Column.{Reading}
use Rattle.encoding.proofs.Columns.{head-known}
use Rattle.cursor.specs.Cursor.{Cursor, carried, entered, coming}
use Rattle.cursor.proofs.Cursors.{coming-enters, enter-head, enter-end}
use Rattle.text.specs.Text.{bytes_at, text_at, text_e}
use Rattle.text.proofs.TextLaws.{text-read, text-laws}
use Rattle.text_encoder.specs.declared.walk.TextSort.{TextSort}
use Rattle.text_encoder.specs.declared.walk.TextSort.TheVariants as sorts
use Rattle.text_encoder.specs.declared.walk.TextCursor.{TextCursor}
use Rattle.text_encoder.specs.Walks.{coming_at, Carries, Sound, Onward}

abbrev pub text_cursor : ℕ → ℕ → ℕ → TextSort → TextCursor
text_cursor at had left sort = record { at = at; had = had; left = left; sort = sort }

-- ---- a value that can be read, from its length number alone

pub record Named (s : List ℕ) (q n start : ℕ) : Type 0 where
  pub room : start + n ≤ length s
  pub ahead : q < start
  pub read : text_at s q ≡ got (bytes_at s start n) (start + n)

pub named : (s : List ℕ) (q z n start : ℕ) (v : List ℕ) → text_at s q ≡ got v z → u64_at s q ≡ got n start → Named s q n start
named s q z n start v e f =
    let r = text-read s q z v e in
    let k : ℕ = r.n in
    let p : ℕ = r.q in
    let d : got k p ≡ got n start = sym r.number ∙ f in
    let a : k ≡ n = cc in
    let b : p ≡ start = cc in
    let rm : p + k ≤ length s = r.room in
    let nx : p + k ≡ z = r.next in
    let w : bytes_at s start n ≡ v = ap (λ (i : ℕ). bytes_at s start i) (sym a) ∙ ap (λ (i : ℕ). bytes_at s i k) (sym b) ∙ r.bytes in
    let y : start + n ≡ z = omega arith in
    record {
      room = omega arith;
      ahead = (u64-next s q n start f).0;
      read = e ∙ ap (λ (l : List ℕ). got l z) (sym w) ∙ ap (λ (i : ℕ). got (bytes_at s start n) i) (sym y);
    }

pub unnamed : (s : List ℕ) (q z number place : ℕ) (v : List ℕ) → text_at s q ≡ got v z → u64_at s q ≡ bad number place → ⊥
unnamed s q z number place v e f =
    let d : got (text-read s q z v e).n (text-read s q z v e).q ≡ bad number place = sym (text-read s q z v e).number ∙ f in
    let y : ◌≡◌ {A = ℕ} 0 1 = cc in
    omega arith

-- what is to come ends soundly: it is not a fault
pub no-fault : (t : Trace (Reading (List ℕ))) (number place : ℕ) → t ≡ record { readings = []; ending = fault number place } → t.ending ≡ sound → ⊥
no-fault t number place e k =
    let d : fault number place ≡ sound = sym (ap (λ (x : Trace (Reading (List ℕ))). x.ending) e) ∙ k in
    let y : ◌≡◌ {A = ℕ} 0 1 = cc in
    omega arith

-- the same is to come at d
onward-by : (s : List ℕ) (c d : TextCursor) → Sound s c → d.at ≤ length s → Carries s d.sort → coming_at s d ≡ coming_at s c → Onward s c d
onward-by s c d k i h e =
    record {
      sound = record { inside = i; carries = h; ending = ap (λ (t : Trace (Reading (List ℕ))). t.ending) e ∙ k.ending };
      coming = e;
    }

pub onward-start : (s : List ℕ) (c : TextCursor) → Sound s c → Onward s c c
onward-start s c k = record { sound = k; coming = refl }

pub onward-on : (s : List ℕ) (c d e : TextCursor) → Onward s c d → Onward s d e → Onward s c e
onward-on s c d e h k = record { sound = k.sound; coming = k.coming ∙ h.coming }

-- ---- the run that is entered

module _ (s : List ℕ) (c : TextCursor) (k : Sound s c) (z : c.left ≡ 0) (l : c.at < length s) where
  heads : (h : Head) → head_at s c.at c.had ≡ h → coming_at s c ≡ after (entered text_e s c.had h) (coming text_e s)
  heads h e =
      coming-enters text_e text-laws s _ z
      ∙ ap (λ (x : Next (Cursor (List ℕ))). after x (coming text_e s)) (enter-head text_e text-laws s c.at c.had h l e)

  pub head-there : (number place : ℕ) → head_at s c.at c.had ≡ amiss number place → ⊥
  unfolding entered
  head-there number place e = no-fault (coming_at s c) number place (heads (amiss number place) e) k.ending

  pub onto-literal : (times q : ℕ) → head_at s c.at c.had ≡ Head.literal times q
      → Onward s c (text_cursor q (c.had + times) times sorts.Literal)
  unfolding entered
  onto-literal times q e =
      onward-by s c _ k (head-known s c.at c.had _ e).1 tt (sym (heads (Head.literal times q) e))

  pub onto-absent : (times q : ℕ) → head_at s c.at c.had ≡ Head.absent times q
      → Onward s c (text_cursor q (c.had + times) times sorts.Absent)
  unfolding entered
  onto-absent times q e =
      onward-by s c _ k (head-known s c.at c.had _ e).1 tt (sym (heads (Head.absent times q) e))

  module _ (times q : ℕ) (e : head_at s c.at c.had ≡ Head.repeat times q) where
    value-got : (g : Got (List ℕ)) → text_at s q ≡ g → coming_at s c ≡ after (carried c.had times q g) (coming text_e s)
    unfolding entered
    value-got g f = heads (Head.repeat times q) e ∙ ap (λ (x : Got (List ℕ)). after (carried c.had times q x) (coming text_e s)) f

    -- a refused value would be a fault
    value-by : {P : Type 0} → ((v : List ℕ) (z : ℕ) → text_at s q ≡ got v z → P) → P
    unfolding carried
    value-by {P} f = go (text_at s q) refl
      where
        go : (g : Got (List ℕ)) → text_at s q ≡ g → P
        go (got v z) d = f v z d
        go (bad number place) d = absurd (no-fault (coming_at s c) number place (value-got (bad number place) d) k.ending)

    pub repeat-named : (n start : ℕ) → u64_at s q ≡ got n start → Named s q n start
    repeat-named n start f = value-by (λ v z d. named s q z n start v d f)

    pub repeat-there : (number place : ℕ) → u64_at s q ≡ bad number place → ⊥
    repeat-there number place f = value-by (λ v z d. unnamed s q z number place v d f)

    pub repeat-ahead : (n start : ℕ) → u64_at s q ≡ got n start → c.at < start + n
    repeat-ahead n start f =
        let r = repeat-named n start f in
        let h = head-known s c.at c.had _ e in
        omega (arith, r.ahead, h.0)

    pub onto-repeat : (n start : ℕ) → u64_at s q ≡ got n start
        → Onward s c (text_cursor (start + n) (c.had + times) times (sorts.Repeat start n q))
    unfolding carried
    onto-repeat n start f =
        let r = repeat-named n start f in
        onward-by s c _ k r.room r.room (sym (value-got (got (bytes_at s start n) (start + n)) r.read))

-- ---- the column's end

pub ends-here : (s : List ℕ) (c : TextCursor) → c.left ≡ 0 → length s ≤ c.at → (coming_at s c).readings ≡ []
ends-here s c z l =
    ap (λ (t : Trace (Reading (List ℕ))). t.readings)
    (coming-enters text_e text-laws s _ z
    ∙ ap (λ (x : Next (Cursor (List ℕ))). after x (coming text_e s)) (enter-end text_e text-laws s c.at c.had l))
