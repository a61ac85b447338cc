-- The cutter's steps, one by one: bytes spent, the counts before a stretch, the held reading closed, and a reading fed or the list ended, each
-- way out of the code that takes the step. Assumes nothing.
use Prim.Native.Nat.{ℕ, zero, suc, ◌+◌, ◌-◌, ◌^◌, ◌≤◌, ◌<◌}
use mathlib.Core.Path.{◌≡◌, refl, sym, ◌∙◌, ap, subst}
use mathlib.Core.List.{List}
use mathlib.Core.Bool.{Bool, true, false, cond, ◌||◌}
use native.Mathlib.Omega.{arith}
use lib.Dec.{eqb}
use lib.IntN.{ℤ, pos}
use lib.Signed.{mag}
use mir.Syntax.{w64}
use mir.Val.{to_z, of_z}
use mir.ValLaws.{to_z-of_z}
use lib.ListN.{length, take, drop, length-drop}
use lib.Seq.{length-take-le}
use borrow.Author.Tests.{le-leb, lt-leb, eq-eqb, ne_eqb}
use Rattle.leb128.specs.Answer.{Answer, done, refused, within}
use Rattle.leb128.specs.Write.{u64_bytes, i64_bytes}
use Rattle.leb128.proofs.Laws.{u64-short, i64-short}
use Rattle.std.specs.Prelude.{Some, None}
use Rattle.std.specs.Prelude as code
use Rattle.encoding.specs.Ahead.{alike}
use Rattle.encoding.specs.Cases.{answer_of}
use Rattle.encoding.specs.Flags.{minus}
use Rattle.rewriting.specs.Cutter.{spending, literal_head, absent_run, Shut, shut, is_some, single_of, several_of, closing, closed_of, longer, turned, fed_of, finished_of}
use Rattle.rewriting.specs.Values.{plain_e, held_in, Within, cut_of}
use Rattle.runs.specs.Pieces.{Held}
use Rattle.rewriting.specs.declared.cutter.Cutter.{Cutter}
use Rattle.rewriting.proofs.Comparing.{within-value}

-- ---- bytes spent

module _ (room n : ℕ) (u : Answer) where
  module _ (k : ℕ) (e : u ≡ done k) where
    pub spent-over : room < k + n → refused 10 0 ≡ spending room n u
    unfolding within
    spent-over l = sym (ap (spending room n) e ∙ rw (lt-leb (k + n) room l))

    pub spent-within : k + n ≤ room → done (k + n) ≡ spending room n u
    unfolding within
    spent-within l = sym (ap (spending room n) e ∙ rw (le-leb (k + n) room l))

-- ---- counts

-- a signed count reaches a callee as its bits read back
pub literal-head : (n : ℕ) {r : ℕ} {x : ℤ} → 0 < n → x ≡ minus n → mag x < 2 ^ 63 → r ≡ length (i64_bytes (to_z w64 (of_z w64 x))) → r ≡ literal_head n
unfolding minus
literal-head zero l e m f = absurd (omega arith)
literal-head (suc n) {x = x} l e m f = f ∙ ap (λ (y : ℤ). length (i64_bytes y)) (to_z-of_z w64 x (record { sfits = m }) ∙ e)

pub absent-run : (n : ℕ) {r q : ℕ} → 0 < n → r ≡ length (i64_bytes (pos 0)) → q ≡ length (u64_bytes n) → r + q ≡ absent_run n
absent-run zero l e f = absurd (omega arith)
absent-run (suc n) {r} {q} l e f = ap (λ (a : ℕ). a + q) e ∙ ap (λ (a : ℕ). length (i64_bytes (pos 0)) + a) f

pub absent-short : (n : ℕ) {r q : ℕ} → r ≡ length (i64_bytes (pos 0)) → q ≡ length (u64_bytes n) → r + q ≤ 20
absent-short n e f = omega (arith, i64-short (pos 0), u64-short n)

-- ---- the held reading closed

module _ (room : ℕ) (on : Bool) (used : Answer) (n size : ℕ) {all : Answer} (e : all ≡ spending room size used) where
  pub single-on : on ≡ true → shut all (n + 1) ≡ single_of plain_e room on used n size
  single-on t =
      let z : n + 1 ≡ suc n = omega arith in
      ap (λ (u : Answer). shut u (n + 1)) e ∙ ap (shut (spending room size used)) z
      ∙ ap (λ (b : Bool). cond b (shut (spending room size used) (suc n)) (shut (spending room (literal_head (suc n)) (spending room size used)) 0)) (sym t)

  pub single-off : {h : ℕ} {u : Answer} → on ≡ false → h ≡ literal_head (n + 1) → u ≡ spending room h all → shut u 0 ≡ single_of plain_e room on used n size
  single-off t f g =
      let z : n + 1 ≡ suc n = omega arith in
      ap (λ (u : Answer). shut u 0)
      (g ∙ ap (λ (m : ℕ). spending room m all) (f ∙ ap literal_head z) ∙ ap (spending room (literal_head (suc n))) e)
      ∙ ap (λ (b : Bool). cond b (shut (spending room size used) (suc n)) (shut (spending room (literal_head (suc n)) (spending room size used)) 0)) (sym t)

pub single-few : (room : ℕ) (on : Bool) (used : Answer) (n size : ℕ) {d : Shut} → d ≡ single_of plain_e room on used n size → d.literals ≤ n + 1
single-few room on used n size {d} e = subst (λ (x : Shut). x.literals ≤ n + 1) (sym e) (go on)
  where
    go : (b : Bool) → (single_of plain_e room b used n size).literals ≤ n + 1
    go true = omega arith
    go false = omega arith

pub several-shut : (room : ℕ) (used : Answer) (n times size : ℕ) {h l : ℕ} {x : ℤ} {u v w : Answer} → h ≡ literal_head n → u ≡ spending room h used
    → x ≡ pos times → mag x < 2 ^ 63 → l ≡ length (i64_bytes (to_z w64 (of_z w64 x))) → v ≡ spending room l u → w ≡ spending room size v
    → shut w 0 ≡ several_of plain_e room used n times size
several-shut room used n times size {x = x} e f g m i j k = let z = to_z-of_z w64 x (record { sfits = m }) in cc

pub several-few : (room : ℕ) (used : Answer) (n times size : ℕ) {d : Shut} → d ≡ several_of plain_e room used n times size → d.literals ≡ 0
several-few room used n times size e = ap (λ (x : Shut). x.literals) e

module _ (s : List ℕ) (room : ℕ) (on : Bool) (c : Cutter) where
  abbrev close_as : Held → Shut
  close_as h = closing plain_e room on (answer_of c.used) c.literals (held_in s h) c.times

  pub closed-absent : {n : ℕ} {u : Answer} → c.held ≡ None → n ≡ absent_run c.times → u ≡ spending room n (answer_of c.used)
      → shut u 0 ≡ closed_of plain_e room on (cut_of s c)
  unfolding closing
  closed-absent e f g =
      ap (λ (u : Answer). shut u 0) (g ∙ ap (λ (m : ℕ). spending room m (answer_of c.used)) f) ∙ ap close_as (sym e)

  module _ (from till : ℕ) (e : c.held ≡ Some (from, till)) (w : Within s c.held) where
    abbrev single_as : ℕ → Shut
    single_as size = single_of plain_e room on (answer_of c.used) c.literals size

    abbrev several_as : ℕ → Shut
    several_as size = several_of plain_e room (answer_of c.used) c.literals c.times size

    sized : till - from ≡ length (take (till - from) (drop from s))
    sized =
        let k = within-value s c.held from till e w in
        sym (length-take-le (till - from) (drop from s) (omega (arith, length-drop from s)))

    chosen : {b : Bool} → eqb c.times 1 ≡ b → cond b (single_as (till - from)) (several_as (till - from)) ≡ closed_of plain_e room on (cut_of s c)
    unfolding closing
    chosen {b} f =
        ap (λ (k : ℕ). cond b (single_as k) (several_as k)) sized
        ∙ ap (λ (t : Bool). cond t (single_as (length (take (till - from) (drop from s)))) (several_as (length (take (till - from) (drop from s))))) (sym f)
        ∙ ap close_as (sym e)

    pub closed-single : {d : Shut} → c.times ≡ 1 → d ≡ single_of plain_e room on (answer_of c.used) c.literals (till - from)
        → d ≡ closed_of plain_e room on (cut_of s c)
    closed-single t f = f ∙ chosen (eq-eqb c.times 1 t)

    pub closed-several : {d : Shut} → (c.times ≡ 1 → ⊥) → d ≡ several_of plain_e room (answer_of c.used) c.literals c.times (till - from)
        → d ≡ closed_of plain_e room on (cut_of s c)
    closed-several t f = f ∙ chosen (ne_eqb c.times 1 t)

-- ---- a reading fed

some-value : (s : List ℕ) (h : Held) → code.is_some h ≡ is_some (held_in s h)
some-value s None = refl
some-value s (Some (from, till)) = refl

pub either-yes : (a b : Bool) → a ≡ true → a ≡ a || b
either-yes true b e = refl
either-yes false b e = let z : ◌≡◌ {A = ℕ} 0 1 = cc in absurd (omega arith)

pub either-no : (a b : Bool) {x : Bool} → a ≡ false → x ≡ b → x ≡ a || b
either-no true b e f = let z : ◌≡◌ {A = ℕ} 0 1 = cc in absurd (omega arith)
either-no false b e f = f

module _ (s : List ℕ) (room : ℕ) (c : Cutter) (h : Held) (n : ℕ) where
  pub fed-none : n ≡ 0 → cut_of s c ≡ fed_of plain_e room (cut_of s c) (held_in s h) n
  unfolding fed_of
  fed-none e = ap (fed_of plain_e room (cut_of s c) (held_in s h)) (sym e)

  module _ (f : n ≡ 0 → ⊥) {r : Bool} (g : r ≡ alike plain_e (held_in s c.held) (held_in s h)) {a : Bool} (i : a ≡ c.any || code.is_some h) where
    some-any : a ≡ c.any || is_some (held_in s h)
    some-any = i ∙ ap (λ (b : Bool). c.any || b) (some-value s h)

    feeds : (m : ℕ) → (m ≡ 0 → ⊥) → {b : Bool} → r ≡ b
        → fed_of plain_e room (cut_of s c) (held_in s h) m
        ≡ cond b (longer plain_e room (cut_of s c) (held_in s h) m)
        (turned plain_e room (cut_of s c) (held_in s h) m (closed_of plain_e room (is_some (held_in s h)) (cut_of s c)))
    unfolding fed_of
    feeds zero k e = absurd (k refl)
    feeds (suc m) k e =
        ap
        (λ (b : Bool). cond b (longer plain_e room (cut_of s c) (held_in s h) (suc m))
        (turned plain_e room (cut_of s c) (held_in s h) (suc m) (closed_of plain_e room (is_some (held_in s h)) (cut_of s c))))
        (sym g ∙ e)

    pub fed-same : r ≡ true
        → record { used = answer_of c.used; any = a; literals = c.literals; held = held_in s c.held; times = c.times + n }
        ≡ fed_of plain_e room (cut_of s c) (held_in s h) n
    fed-same e =
        ap (λ (b : Bool). record { used = answer_of c.used; any = b; literals = c.literals; held = held_in s c.held; times = c.times + n }) some-any
        ∙ sym (feeds n f e)

    pub fed-other : r ≡ false → {on : Bool} → on ≡ code.is_some h → {d : Shut} → d ≡ closed_of plain_e room on (cut_of s c)
        → record { used = d.used; any = a; literals = d.literals; held = held_in s h; times = n } ≡ fed_of plain_e room (cut_of s c) (held_in s h) n
    fed-other e j {d} k =
        ap (λ (b : Bool). record { used = d.used; any = b; literals = d.literals; held = held_in s h; times = n }) some-any
        ∙ ap (turned plain_e room (cut_of s c) (held_in s h) n) (k ∙ ap (λ (b : Bool). closed_of plain_e room b (cut_of s c)) (j ∙ some-value s h))
        ∙ sym (feeds n f e)

-- ---- the end

module _ (s : List ℕ) (room : ℕ) (c : Cutter) where
  pub finished-some : {d : Shut} → c.any ≡ true → d ≡ closed_of plain_e room false (cut_of s c) → d.used ≡ finished_of plain_e room (cut_of s c)
  unfolding finished_of
  finished-some e f =
      ap (λ (x : Shut). x.used) f ∙ ap (λ (b : Bool). cond b (closed_of plain_e room false (cut_of s c)).used (done 0)) (sym e)

  pub finished-none : c.any ≡ false → done 0 ≡ finished_of plain_e room (cut_of s c)
  unfolding finished_of
  finished-none e = ap (λ (b : Bool). cond b (closed_of plain_e room false (cut_of s c)).used (done 0)) (sym e)
