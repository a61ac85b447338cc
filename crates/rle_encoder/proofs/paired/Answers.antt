-- `rle_encoder::paired` meets its contract: each way out is a law of looking ahead. Assumes nothing.
use mathlib.Core.Path.{sym}
use lib.Dec.{eqb}
use borrow.Author.Tests.{ne_eqb}
use Rattle.encoding.proofs.Looking.{off-absent, off-other, off-end, paired_yes}
use Rattle.rle_decoder.proofs.WordLaws.{u64-laws}
use Rattle.rle_encoder.proofs.paired.Goals as goal

pub returns-then-values-n : goal.returns-then-values-n
returns-then-values-n c = off-end eqb 0 _ _ c.requires.1 _ _ c.if-values-n.true

pub returns-then-present-n-eq0 : goal.returns-then-present-n-eq0
returns-then-present-n-eq0 c = off-absent eqb 0 _ _ c.requires.1 _ _ c.if-values-n.false c.if-present-n-eq0.true

pub returns-then-values-n-2 : goal.returns-then-values-n-2
returns-then-values-n-2 c =
    let a = c.requires in
    let l = c.if-values-n.false in
    let f = c.if-present-n-eq0.false in
    paired_yes eqb 0 _ _ a.1 u64-laws.same-eq u64-laws.same_self _ l a.2 f c.if-values-n-2.true

pub returns : goal.returns
returns c =
    let a = c.requires in
    let l = c.if-values-n.false in
    let f = c.if-present-n-eq0.false in
    let u = ne_eqb _ _ (λ z. c.if-values-n-2.false (sym z)) in
    off-other eqb 0 _ _ a.1 u64-laws.same-eq u64-laws.same_self _ _ l f u
