-- `given_names::is_good_pair` meets its contract: one law for each way out. Assumes nothing.
use mathlib.Core.Path.{sym}
use Rattle.text.proofs.Givens.{pair-absent, pair-flag, pair-room, pair-long}
use Rattle.given_names.proofs.is_good_pair.Goals as goal

pub returns-then-flag-eq0 : goal.returns-then-flag-eq0
returns-then-flag-eq0 c = sym (pair-absent _ _ _ _ c.if-flag-eq0.true)

pub returns-then-flag-gt1 : goal.returns-then-flag-gt1
returns-then-flag-gt1 c = sym (pair-flag _ _ _ _ c.if-flag-gt1.true)

pub returns-then-size-len : goal.returns-then-size-len
returns-then-size-len c = pair-room _ _ _ _ c.if-flag-eq0.false c.if-flag-gt1.false c.if-size-len.true

pub returns : goal.returns
returns c = sym (pair-long _ _ _ _ c.if-flag-eq0.false c.if-flag-gt1.false c.if-size-len.false)
