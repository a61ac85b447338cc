-- What each answer of the code stands for.
use Rattle.std.specs.Prelude.{ℕ, ◌^◌, cond, ltb, Result, Ok, Err}
use Rattle.std.specs.Prelude as code
use Rattle.std.proofs.Math.Option.{Option, none, some}
use Rattle.refusal.specs.Number.{number_of}
use Rattle.refusal.specs.declared.Refusal.{Refusal}
use Rattle.leb128.specs.Answer.{done, refused}
use Rattle.leb128.specs.Answer as leb
use Rattle.encoding.specs.Head as spec
use Rattle.encoding.specs.declared.Head.{Head}
use Rattle.encoding.specs.declared.Head.TheVariants as head

abbrev pub answer_of : Result ℕ Refusal → leb.Answer
answer_of (Ok n) = done n
answer_of (Err e) = refused (number_of e.0) e.1

abbrev pub begins_of : Head → spec.Head
begins_of (head.Repeat c q) = spec.Head.repeat c q
begins_of (head.Literal c q) = spec.Head.literal c q
begins_of (head.Absent c next) = spec.Head.absent c next

abbrev pub head_of : Result Head Refusal → spec.Head
head_of (Ok h) = begins_of h
head_of (Err e) = spec.amiss (number_of e.0) e.1

-- so many bytes, where a u64 holds it
unfoldable pub fit : ℕ → Option ℕ
fit n = cond (ltb n (2 ^ 64)) (some n) none

-- what an Option of the code stands for
abbrev pub maybe_of : {A : Type 0} → code.Option A → Option A
maybe_of (code.Some x) = some x
maybe_of code.None = none
