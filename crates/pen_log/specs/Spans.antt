-- An entry as a splice: a range of the list, and the readings that come in its place. What the private functions that follow a log pass on; no public
-- promise cites it.
use Rattle.std.specs.Prelude.{ℕ, ◌+◌, ◌≡◌, List, [], ◌∷◌, map, ℤ, pos, length, take, Result, Ok, Err}
use Rattle.std.proofs.Math.Option.{Option, none, some}
use Rattle.refusal.specs.Number.{number_of}
use Rattle.refusal.specs.declared.Refusal.{Refusal}
use Rattle.leb128.specs.Got.{Got, got, bad}
use Rattle.splice.specs.Contract.{slot_in, flag_in}
use Rattle.pen_log.specs.Entry.{Entry, insert, insert_absent, remove, change}
use Rattle.pen_log.specs.declared.Span.{Span}

abbrev pub start_of : Entry → ℕ
start_of (insert i x) = i
start_of (insert_absent i) = i
start_of (remove i) = i
start_of (change i x) = i

abbrev pub end_of : Entry → ℕ
end_of (insert i x) = i
end_of (insert_absent i) = i
end_of (remove i) = i + 1
end_of (change i x) = i + 1

abbrev pub new_of : Entry → List (Option ℤ)
new_of (insert i x) = some x ∷ []
new_of (insert_absent i) = none ∷ []
new_of (remove i) = []
new_of (change i x) = some x ∷ []

-- the code's struct for it, whose one reading stands in an array of its own
pub record IsSpan (sp : Span) (e : Entry) : Type 0 where
  pub start : sp.start ≡ start_of e
  pub end : sp.end ≡ end_of e
  pub many : sp.new ≡ length (new_of e)
  pub values : take sp.new (sp.value ∷ []) ≡ map (slot_in (pos 0)) (new_of e)
  pub flags : take sp.new (sp.flag ∷ []) ≡ map flag_in (new_of e)

pub record SpanOf (sp : Span) (g : Got Entry) : Type 0 where
  pub entry : Entry
  pub is : g ≡ got entry sp.next
  pub span : IsSpan sp entry

abbrev pub Spans : Result Span Refusal → Got Entry → Type 0
Spans (Ok sp) g = SpanOf sp g
Spans (Err e) g = g ≡ bad (number_of e.0) e.1
