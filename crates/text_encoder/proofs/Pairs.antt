-- Laws of given names: pairs that were judged have their bytes, and the list of names goes by its slices. Assumes nothing.
use Prim.Native.Nat.{ℕ, ◌+◌, ◌<◌}
use mathlib.Core.Path.{◌≡◌, sym, ◌∙◌, ap}
use mathlib.Core.List.{List, ◌∷◌}
use mathlib.Core.Option.{Option, none, some}
use mathlib.Core.Bool.{Bool, cond}
use native.Mathlib.Numerals.{add-one}
use lib.ListN.{length, drop, get_or}
use borrow.Author.Tests.{eq-eqb, ne_eqb}
use Rattle.encoding.specs.Given.{given}
use Rattle.text.specs.Text.{bytes_at}
use Rattle.text.specs.Given.{name_list}
use Rattle.text.proofs.Givens.{GivenGood, names_at, pair-within, pairs-at}
use Rattle.text_encoder.specs.declared.walk.Held.TheVariants as held
use Rattle.text_encoder.specs.Walks.{GivenAs, Pairs}

-- ---- a pair that was judged

module _ (bytes starts lens flags : List ℕ) (i : ℕ) (p : Pairs bytes starts lens flags) (l : i < length starts) where
  abbrev name_at : Option (List ℕ)
  name_at = given (get_or flags i 0) (bytes_at bytes (get_or starts i 0) (get_or lens i 0))

  pub given-absent : get_or flags i 0 ≡ 0 → GivenAs bytes name_at held.Absent
  given-absent z =
      let n : List ℕ = bytes_at bytes (get_or starts i 0) (get_or lens i 0) in
      record {
        within = λ column. tt;
        is = λ column. sym (ap (λ (t : Bool). cond t none (some n)) (eq-eqb (get_or flags i 0) 0 z));
      }

  pub given-name : (get_or flags i 0 ≡ 0 → ⊥) → GivenAs bytes name_at (held.New (get_or starts i 0) (get_or lens i 0))
  given-name z =
      let n : List ℕ = bytes_at bytes (get_or starts i 0) (get_or lens i 0) in
      record {
        within = λ column.
            pair-within (length bytes) (get_or starts i 0) (get_or lens i 0) (get_or flags i 0)
            (pairs-at (length bytes) 0 starts lens flags i p.good l p.even p.flagged) z;
        is = λ column. sym (ap (λ (t : Bool). cond t none (some n)) (ne_eqb (get_or flags i 0) 0 z));
      }

-- ---- the list of names

module _ (bytes starts lens flags : List ℕ) (i : ℕ) (p : Pairs bytes starts lens flags) where
  pub names-next : i < length starts → drop i (name_list bytes starts lens flags)
      ≡ given (get_or flags i 0) (bytes_at bytes (get_or starts i 0) (get_or lens i 0)) ∷ drop (i + 1) (name_list bytes starts lens flags)
  names-next l =
      names_at bytes starts lens flags i l p.even p.flagged
      ∙ ap (λ (k : ℕ). given (get_or flags i 0) (bytes_at bytes (get_or starts i 0) (get_or lens i 0)) ∷ drop k (name_list bytes starts lens flags)) (sym (add-one i))

-- pairs of a list that was taken
pub pairs-given : {bytes starts lens flags : List ℕ} → GivenGood bytes starts lens flags → Pairs bytes starts lens flags
pairs-given h = record { even = h.even; flagged = h.flagged; good = h.pairs }
