-- What the end of a value says of the value, by the arm that it came to; and the laws of each element. Assumes nothing.
use Prim.Native.Nat.{ℕ, ◌≤◌, ◌<◌}
use mathlib.Core.Path.{◌≡◌, refl, sym, ◌∙◌, ap, subst}
use mathlib.Core.List.{List}
use native.Mathlib.Omega.{arith}
use lib.ListN.{length}
use Rattle.std.specs.Prelude.{Result, Ok, Err}
use Rattle.refusal.specs.Number.{number_of}
use Rattle.refusal.specs.declared.Refusal.{Refusal}
use Rattle.leb128.specs.Got.{Got, got, bad}
use Rattle.encoding.specs.Element.{Element}
use Rattle.encoding.proofs.Elements.{ElementLaws}
use Rattle.rle_decoder.proofs.WordLaws.{u64-laws}
use Rattle.delta_decoder.proofs.DifferenceLaws.{i64-laws}
use Rattle.text.proofs.TextLaws.{text-laws}
use Rattle.runs.specs.Cases.{end_of}
use Rattle.runs.specs.Values.{element_of, behind}
use Rattle.runs.specs.declared.Values.{Values}
use Rattle.runs.specs.declared.Values.TheVariants as values

pub element_laws : (v : Values) → ElementLaws (element_of v).E
element_laws values.Words = u64-laws
element_laws values.Differences = i64-laws
element_laws values.Names = text-laws

-- a value was read, up to a position; or it could not be
abbrev pub EndsAt : {A : Type 0} → Element A → List ℕ → ℕ → Result ℕ Refusal → Type 0
EndsAt {A} E s q (Ok next) = (a : A) × (E.read s q ≡ got a next)
EndsAt E s q (Err x) = E.read s q ≡ bad (number_of x.0) x.1

ends : {A : Type 0} (E : Element A) (s : List ℕ) (q : ℕ) (g : Got A) → E.read s q ≡ g → (r : Result ℕ Refusal) → end_of r ≡ behind g → EndsAt E s q r
ends E s q (got a next) e (Ok z) h = (a, e ∙ ap (got a) (let k : next ≡ z = cc in k))
ends E s q (got a next) e (Err x) h = absurd (let z : ◌≡◌ {A = ℕ} 0 1 = cc in omega arith)
ends E s q (bad number place) e (Ok z) h = absurd (let y : ◌≡◌ {A = ℕ} 0 1 = cc in omega arith)
ends E s q (bad number place) e (Err x) h = let k : number ≡ number_of x.0 = cc in let l : place ≡ x.1 = cc in e ∙ rw (k, l) refl

-- by the arm that it came to
pub ended : (v : Values) (s : List ℕ) (q : ℕ) {r k : Result ℕ Refusal} → end_of r ≡ behind ((element_of v).E.read s q) → r ≡ k → EndsAt (element_of v).E s q k
ended v s q {r} h e = subst (EndsAt (element_of v).E s q) e (ends (element_of v).E s q _ refl r h)

pub end-near : (v : Values) (s : List ℕ) (q next : ℕ) → EndsAt (element_of v).E s q (Ok next) → (q < next) × (next ≤ length s)
end-near v s q next h = ((element_laws v).ahead s q next h.0 h.1, (element_laws v).within s q next h.0 h.1)

-- a value of the sort that was asked for was read, or could not be
module _ (s : List ℕ) (q : ℕ) (v w : Values) (e : v ≡ w) where
  pub read_as : {g : Got (element_of w).A} → (element_of w).E.read s q ≡ g → behind g ≡ behind ((element_of v).E.read s q)
  read_as h = ap behind (sym h) ∙ ap (λ (v : Values). behind ((element_of v).E.read s q)) (sym e)
