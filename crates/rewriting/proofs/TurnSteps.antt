-- The steps of the walk over a boolean column's counts: readings taken in, the end, and what the walk owes between two counts. Assumes nothing.
use Prim.Native.Nat.{ℕ, zero, suc, ◌+◌, ◌-◌, ◌≤◌, ◌<◌}
use mathlib.Core.Path.{◌≡◌, refl, sym, ◌∙◌, ap}
use mathlib.Core.List.{List, []}
use mathlib.Core.Bool.{Bool, cond}
use native.Mathlib.Omega.{arith}
use lib.Dec.{eqb}
use lib.ListN.{length, replicate, length-append, length-replicate}
use borrow.Author.Tests.{eq-eqb, ne_eqb}
use Rattle.leb128.specs.Answer.{Answer, done, within}
use Rattle.leb128.specs.Got.{got, bad}
use Rattle.leb128.specs.Read.{u64_at}
use Rattle.encoding.specs.Limit.{limit}
use Rattle.boolean_decoder.specs.Turns.{turn, turns_from, bool_trace}
use Rattle.boolean_decoder.proofs.Turning.{counted-whole, counted-many, counted-bad, turn-read, turn_end, readings-on}
use Rattle.rewriting.specs.Rewritten.{rewritten_turns}
use Rattle.rewriting.specs.Turning.{Turns, turns, counting, turned_by, turned_all}
use Rattle.rewriting.specs.Turning as spec
use Rattle.rewriting.proofs.Counting.{turned-times, turned-append}
use Rattle.rewriting.proofs.Counting as sums

-- ---- readings taken in, and the end

module _ (room : ℕ) (c : Turns) where
  module _ (b n : ℕ) where
    pub turned_none : n ≡ 0 → c ≡ turned_by room c b n
    unfolding turned_by
    turned_none e = ap (turned_by room c b) (sym e)

  chosen : (b n : ℕ) → (n ≡ 0 → ⊥) → {t : Bool} → eqb b c.flag ≡ t
      → cond t (turns c.used b (c.times + n)) (turns (counting room c) b n) ≡ turned_by room c b n
  unfolding turned_by
  chosen b zero f e = absurd (f refl)
  chosen b (suc n) f e = ap (λ (t : Bool). cond t (turns c.used b (c.times + suc n)) (turns (counting room c) b (suc n))) (sym e)

  module _ (b n : ℕ) (f : n ≡ 0 → ⊥) where
    pub turned_same : b ≡ c.flag → turns c.used b (c.times + n) ≡ turned_by room c b n
    turned_same e = chosen b n f (eq-eqb b c.flag e)

    pub turned-other : {u : Answer} → (b ≡ c.flag → ⊥) → u ≡ counting room c → turns u b n ≡ turned_by room c b n
    turned-other e g = ap (λ (u : Answer). turns u b n) g ∙ chosen b n f (ne_eqb b c.flag e)

  pub counted_none : (n : ℕ) → n ≡ 0 → done 0 ≡ spec.counted room n c
  unfolding spec.counted
  counted_none n e = ap (λ (m : ℕ). spec.counted room m c) (sym e)

  pub counted-some : (n : ℕ) {u : Answer} → (n ≡ 0 → ⊥) → u ≡ counting room c → u ≡ spec.counted room n c
  unfolding spec.counted
  counted-some zero f e = absurd (f refl)
  counted-some (suc n) f e = e

-- ---- between two counts: the readings still to come bring what is known to what the whole column comes to, and make up its length

pub record Walked (s : List ℕ) (room : ℕ) (c : Turns) (at had flag : ℕ) : Type 0 where
  pub owed : turned_all room (turns (done 0) 0 0) (bool_trace s).readings ≡ turned_all room c (turns_from s (turn at had flag)).readings
  pub many : length (bool_trace s).readings ≡ had + length (turns_from s (turn at had flag)).readings
  pub bit : flag ≤ 1
  pub capped : had ≤ limit
  pub few : c.times ≤ had

module _ (s : List ℕ) (room : ℕ) where
  pub walked_start : Walked s room (turns (done 0) 0 0) 0 0 0
  unfolding bool_trace
  walked_start = record { owed = refl; many = omega arith; bit = omega arith; capped = omega arith; few = omega arith }

  module _ {c : Turns} {at had flag : ℕ} (W : Walked s room c at had flag) where
    pub walked_on : (n next : ℕ) {d : Turns} → at < length s → u64_at s at ≡ got n next → had + n ≤ limit → d ≡ turned_by room c flag n → d.times ≤ c.times + n
        → Walked s room d next (had + n) (1 - flag)
    walked_on n next {d} l e m f g =
        let z = turn next (had + n) (1 - flag) in
        let ys = (turns_from s z).readings in
        let k = readings-on s (turn at had flag) (turn-read s (turn at had flag) (got n next) l e ∙ counted-whole (turn at had flag) n next m) in
        record {
          owed = W.owed ∙ ap (turned_all room c) k ∙ turned-append room c (replicate n flag) ys
              ∙ ap (λ (x : Turns). turned_all room x ys) (sym (f ∙ turned-times room c flag n));
          many = omega (arith, W.many, ap length k, length-append (replicate n flag) ys, length-replicate n flag);
          bit = omega (arith, W.bit);
          capped = m;
          few = omega (arith, W.few);
        }

    stopped : {u : Answer} → (turns_from s (turn at had flag)).readings ≡ [] → u ≡ spec.counted room had c → u ≡ within 10 room (done (length (rewritten_turns s)))
    unfolding rewritten_turns turned_all
    stopped e f =
        let n : had ≡ length (bool_trace s).readings = omega (arith, W.many, ap length e) in
        f ∙ ap (λ (k : ℕ). spec.counted room k c) n
        ∙ ap (spec.counted room (length (bool_trace s).readings)) (sym (W.owed ∙ ap (turned_all room c) e))
        ∙ sums.counted-trace room s

    -- the ways out: a count past the limit, one that cannot be read, and the column's end
    pub walked_many : (n next : ℕ) {u : Answer} → at < length s → u64_at s at ≡ got n next → limit < had + n → u ≡ spec.counted room had c
        → u ≡ within 10 room (done (length (rewritten_turns s)))
    walked_many n next l e m f =
        stopped (readings-on s (turn at had flag) (turn-read s (turn at had flag) (got n next) l e ∙ counted-many (turn at had flag) n next m)) f

    pub walked-bad : (number place : ℕ) {u : Answer} → at < length s → u64_at s at ≡ bad number place → u ≡ spec.counted room had c
        → u ≡ within 10 room (done (length (rewritten_turns s)))
    walked-bad number place l e f =
        stopped (readings-on s (turn at had flag) (turn-read s (turn at had flag) (bad number place) l e ∙ counted-bad (turn at had flag) number place)) f

    pub walked_end : {u : Answer} → length s ≤ at → u ≡ spec.counted room had c → u ≡ within 10 room (done (length (rewritten_turns s)))
    walked_end l f = stopped (readings-on s (turn at had flag) (turn_end s (turn at had flag) l)) f
