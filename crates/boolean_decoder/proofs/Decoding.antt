-- Readings put into one slice of slots: the laws of two slices, with the same slice as both. What a loop that fills it count by count owes at
-- each state, and a whole column decoded. Assumes nothing.
use Prim.Native.Nat.{ℕ, ◌+◌, ◌-◌, ◌≤◌, ◌<◌}
use mathlib.Core.Path.{◌≡◌, refl, sym, ◌∙◌, ap}
use mathlib.Core.List.{List, map-id}
use native.Mathlib.Omega.{arith}
use lib.ListN.{length, set, replicate}
use lib.Seq.{sets}
use borrow.Author.Tests.{eq-eqb}
use Rattle.leb128.specs.Answer.{Answer, done, refused, left}
use Rattle.encoding.specs.Walk.{Trace, outcome, on, off}
use Rattle.encoding.specs.Slots.{decoding, Wrote}
use Rattle.encoding.specs.Slots as slots
use Rattle.encoding.proofs.Filling as two
use Rattle.encoding.proofs.Filling.{Owed, owed_start, owed-on, owed-off, owed-over, owed-room}
use Rattle.encoding.proofs.Lists.{fill_step}
use Rattle.encoding.proofs.Walking.{rest, next-eq, readings-eq}
use Rattle.boolean_decoder.specs.Turns.{Turn, turn, turn_at, bool_trace}
use Rattle.boolean_decoder.specs.Decoded.{Decoded}
use Rattle.boolean_decoder.proofs.Turning.{turns, trace-rest, turned, off-none, turn_end}

-- a reading's slot is its byte
abbrev pub byte : ℕ → ℕ
byte x = x

module _ (rs : List ℕ) (n : ℕ) (v v' : List ℕ) where
  one-wrote : v' ≡ sets v n rs → Wrote byte byte rs n v v' v v'
  one-wrote e = let k = e ∙ ap (sets v n) (sym (map-id rs)) in record { values = k; flags = k }

  wrote_one : Wrote byte byte rs n v v' v v' → v' ≡ sets v n rs
  wrote_one w = w.values ∙ ap (sets v n) (map-id rs)

-- the same byte stored one slot after another, up to an index
pub same_step : (l : List ℕ) (i to v : ℕ) → i < to → sets l i (replicate (to - i) v) ≡ sets (set l i v) (i + 1) (replicate (to - (i + 1)) v)
same_step l i to v h =
    let e : to - i - 1 ≡ to - (i + 1) = omega arith in
    fill_step l i (to - i) v (omega arith) ∙ ap (λ (j : ℕ). sets (set l i v) (i + 1) (replicate j v)) e

-- ---- what is owed at a state: the answer, and what the slice holds in the end

abbrev pub Owing : List ℕ → List ℕ → List ℕ → Turn → Type 0
Owing s v₀ v st = Owed (turns s) byte byte (turn 0 0 0) v₀ v v₀ v st

-- the answer, and the slice in the end
abbrev pub Paid : List ℕ → List ℕ → List ℕ → Answer → Type 0
Paid s v₀ v o = (o ≡ outcome (bool_trace s)) × (v ≡ sets v₀ 0 (bool_trace s).readings)

module _ (s : List ℕ) (v₀ : List ℕ) where
  pub owing-start : length (bool_trace s).readings ≤ length v₀ → Owing s v₀ v₀ (turn 0 0 0)
  owing-start h =
      let e = ap (λ (t : Trace ℕ). length t.readings) (trace-rest s) in
      owed_start (turns s) byte byte (turn 0 0 0) refl v₀ v₀ (record { room = omega arith; even = refl })

  module _ (v : List ℕ) (st : Turn) (o : Owing s v₀ v st) where
    -- the slots of the next count
    pub owing-room : (z : Turn) → (turn_at s st).next ≡ on z → (st.had ≤ z.had) × (z.had ≤ length v)
    owing-room z e =
        let r = (owed-room (turns s) byte byte (turn 0 0 0) refl v₀ v₀ v v st o).room in
        let k = (turned s st z e).counts in
        (omega arith, omega arith)

    pub owing-on : (v' : List ℕ) (z : Turn) → (turn_at s st).next ≡ on z → v' ≡ sets v st.had (replicate (z.had - st.had) st.flag) → Owing s v₀ v' z
    owing-on v' z e w =
        let k = w ∙ ap (sets v st.had) (sym (turned s st z e).same) in
        owed-on (turns s) byte byte (turn 0 0 0) refl v₀ v₀ v v st o v' v' z (one-wrote _ st.had v v' k) e

    paid : {a : Answer} → (a ≡ outcome (rest (turns s) (turn 0 0 0))) × Wrote byte byte (rest (turns s) (turn 0 0 0)).readings 0 v₀ v v₀ v → Paid s v₀ v a
    paid h = (
      h.0 ∙ ap outcome (sym (trace-rest s)),
      wrote_one _ 0 v₀ v h.1 ∙ ap (λ (t : Trace ℕ). sets v₀ 0 t.readings) (sym (trace-rest s)),
    )

    pub owing-off : (number place : ℕ) → (turn_at s st).next ≡ off number place → Paid s v₀ v (refused number place)
    owing-off number place e =
        let w : v ≡ sets v st.had (turn_at s st).readings = sym (ap (sets v st.had) (off-none s st number place e)) in
        paid (owed-off (turns s) byte byte (turn 0 0 0) refl v₀ v₀ v v st o v v number place (one-wrote _ st.had v v w) e)

    pub owing-over : length s ≤ st.at → Paid s v₀ v (done st.had)
    owing-over l =
        let e = turn_end s st l in
        paid (owed-over (turns s) byte byte (turn 0 0 0) refl v₀ v₀ v v st o (next-eq e) (readings-eq e))

-- ---- a whole column decoded: one law for each way out

one-decoded : {t : Trace ℕ} {v v' : List ℕ} {o : Answer} → slots.Decoded t byte byte v v' v v' o → Decoded t v v' o
unfolding decoding
one-decoded {t = t} {v = v} {v' = v'} {o = o} d =
    record {
      answer = d.answer ∙ simp (eq-eqb (length v) (length v) refl);
      values = d.values ∙ ap (λ (rs : List ℕ). left o rs v) (map-id t.readings);
    }

module _ (t : Trace ℕ) (v : List ℕ) where
  pub decode-fault : (number place : ℕ) → outcome t ≡ refused number place → Decoded t v v (refused number place)
  decode-fault number place e = one-decoded (two.decode-fault t byte byte v v number place refl e)

  pub decode-short : (n : ℕ) → outcome t ≡ done n → length v < n → Decoded t v v (refused 9 0)
  decode-short n e l = one-decoded (two.decode-short t byte byte v v n refl e l)

  pub decode-room : (n : ℕ) → outcome t ≡ done n → n ≤ length v → length t.readings ≤ length v
  decode-room n e l = omega (arith, (two.decode-room t byte byte v v n refl e l).room)

  pub decode-done : (v' : List ℕ) (n : ℕ) (o : Answer) → outcome t ≡ done n → n ≤ length v → v' ≡ sets v 0 t.readings → o ≡ outcome t → Decoded t v v' o
  decode-done v' n o e l w k = one-decoded (two.decode-done t byte byte v v v' v' n o refl e l (one-wrote t.readings 0 v v' w) k)
