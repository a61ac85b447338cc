-- `pen_log::entry_at` meets its contract: one law for each way out. Assumes nothing.
use borrow.Author.Rules.{rules}
use native.Mathlib.Omega.{arith}
use mathlib.Core.Path.{◌∙◌}
use Rattle.leb128.proofs.Twos.{same}
use Rattle.pen_log.proofs.Bytes.{entry-short, entry-cut, entry-unknown, entry-1, entry-2, entry-3, entry-4}
use mir.Syntax.{w64}
use mir.Val.{SFits}
use Rattle.pen_log.proofs.entry_at.Goals as goal

pub returns-then-log-at : goal.returns-then-log-at
returns-then-log-at c = entry-short c.args.log.now c.args.at (omega arith)

pub returns-then-left-lt5 : goal.returns-then-left-lt5
returns-then-left-lt5 c = entry-short c.args.log.now c.args.at (omega arith)

pub returns-then-kind-eq2 : goal.returns-then-kind-eq2
returns-then-kind-eq2 c = entry-2 c.args.log.now c.args.at c.word-i.ensures c.if-kind-eq2.true (omega arith)

pub returns-then-kind-eq3 : goal.returns-then-kind-eq3
returns-then-kind-eq3 c = entry-3 c.args.log.now c.args.at c.word-i.ensures c.if-kind-eq3.true (omega arith)

pub returns-then-left-lt13 : goal.returns-then-left-lt13
returns-then-left-lt13 c = entry-cut c.args.log.now c.args.at c.if-kind-eq2.false c.if-kind-eq3.false (omega arith)

pub returns-then-kind-eq1 : goal.returns-then-kind-eq1
returns-then-kind-eq1 c =
    let g : SFits w64 c.depth.result = search rules in
    entry-1 c.args.log.now c.args.at c.word-i.ensures (same c.depth.result g ∙ c.depth.ensures) c.if-kind-eq1.true (omega arith)

pub returns-then-kind-eq4 : goal.returns-then-kind-eq4
returns-then-kind-eq4 c =
    let g : SFits w64 c.depth-then-kind-eq4.result = search rules in
    entry-4 c.args.log.now c.args.at c.word-i.ensures (same c.depth-then-kind-eq4.result g ∙ c.depth-then-kind-eq4.ensures) c.if-kind-eq4.true (omega arith)

pub returns : goal.returns
returns c = entry-unknown c.args.log.now c.args.at c.if-kind-eq1.false c.if-kind-eq2.false c.if-kind-eq3.false c.if-kind-eq4.false
