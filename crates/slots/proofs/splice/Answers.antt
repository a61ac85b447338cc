-- `slots::splice` meets its contract: its tests answer as the definition does, and where they pass there is room. Assumes nothing.
use native.Mathlib.Omega.{arith}
use Rattle.leb128.specs.Answer.{refused}
use Rattle.slots.proofs.Splicing.{Spliced, splice-turned, splice-past, splice-full, splice-done}
use Rattle.slots.proofs.splice.Goals.{then-end-start-via-then-end-start, then-end-start-via-else-end-start+then-old-end, then-s-old-via-then-s-old, then-s-old-via-else-s-old+then-s-old-2}
use Rattle.slots.proofs.splice.Goals as goal

pub returns-then-end-start : goal.returns-then-end-start
returns-then-end-start g c =
    let a = c.args in
    let both : Spliced g.T.Blank.BLANK a.s.now a.old a.start a.end a.new.now (refused 18 0) a.s.now = elim c.then-end-start.branch [
      | then-end-start-via-then-end-start w ↦ splice-turned _ _ _ _ _ _ w.if-end-start.true
      | then-end-start-via-else-end-start+then-old-end w ↦ splice-past _ _ _ _ _ _ w.if-end-start.false w.if-old-end.true
    ] in
    record { result_value = both.0; s_after = both.1 }

pub returns-then-s-old : goal.returns-then-s-old
returns-then-s-old g c =
    let a = c.args in
    let full = splice-full g.T.Blank.BLANK a.s.now a.old a.start a.end a.new.now c.if-end-start.false c.if-old-end.false in
    let both : Spliced g.T.Blank.BLANK a.s.now a.old a.start a.end a.new.now (refused 9 0) a.s.now = elim c.then-s-old.branch [
      | then-s-old-via-then-s-old w ↦ full (omega (arith, w.if-s-old.true))
      | then-s-old-via-else-s-old+then-s-old-2 w ↦ full (omega (arith, w.if-s-old.false, w.if-s-old-2.true))
    ] in
    record { result_value = both.0; s_after = both.1 }

pub returns : goal.returns
returns g c =
    let p = c.place.ensures in
    let both : _ × _ = splice-done _ _ _ _ _ c.args.new.now c.if-end-start.false c.if-old-end.false (omega arith) p.0 p.1 in
    record { result_value = both.0; s_after = both.1 }
