-- `column_reason::facts::named_at` meets its contract: a length that is read, or the bytes of the number. Assumes nothing.
use mathlib.Core.Path.{sym, ◌∙◌, ap}
use native.Mathlib.Omega.{arith}
use Rattle.leb128.specs.Cases.{parsed_of}
use Rattle.leb128.proofs.Laws.{u64-next}
use Rattle.encoding.proofs.Via.{via}
use Rattle.reason.specs.Reason.{bytes, named}
use Rattle.column_reason.proofs.facts.named_at.Goals as goal

pub overflow_sub-result : goal.overflow_sub-result
overflow_sub-result c = let r = via parsed_of c.leb128_u64.ensures c.in-Ok.is in omega (arith, u64-next _ _ _ _ r)

pub returns-in-Ok : goal.returns-in-Ok
returns-in-Ok c = sym (ap (named _ _) (via parsed_of c.leb128_u64.ensures c.in-Ok.is))

pub returns-in-Err : goal.returns-in-Err
returns-in-Err c = ap bytes c.number_bytes.ensures ∙ sym (ap (named _ _) (via parsed_of c.leb128_u64.ensures c.in-Err.is))
