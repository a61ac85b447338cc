-- `delta_decoder::decode` meets its contract: one law for each way out. Assumes nothing.
use mathlib.Core.Path.{sym}
use lib.IntN.{pos}
use Rattle.encoding.specs.Slots.{slot_of, flag_of}
use Rattle.encoding.proofs.Filling.{decode-uneven, decode-fault, decode-short, decode-room, decode-done}
use Rattle.encoding.proofs.Surveying.{survey-none, survey-some}
use Rattle.delta_decoder.specs.Sums.{delta_trace}
use Rattle.delta_decoder.proofs.Faults.{delta-numbered}
use Rattle.delta_decoder.proofs.decode.Goals as goal

pub returns-then-values-present : goal.returns-then-values-present
returns-then-values-present c = decode-uneven _ (slot_of (pos 0)) flag_of _ _ c.if-values-present.true

pub fill-requires : goal.fill-requires
fill-requires c =
    let e = sym (survey-none (delta_trace _) _ c.survey-found.ensures (delta-numbered _) c.in_default.is) in
    decode-room _ (slot_of (pos 0)) flag_of _ _ _ c.if-values-present.false e c.if-found-values.true

pub returns-then-found-values : goal.returns-then-found-values
returns-then-found-values c =
    let e = sym (survey-none (delta_trace _) _ c.survey-found.ensures (delta-numbered _) c.in_default.is) in
    let w = c.fill.ensures in
    decode-done _ (slot_of (pos 0)) flag_of _ _ _ _ _ _ c.if-values-present.false e c.if-found-values.true w.wrote w.result_value

pub returns-else-found-values : goal.returns-else-found-values
returns-else-found-values c =
    let e = sym (survey-none (delta_trace _) _ c.survey-found.ensures (delta-numbered _) c.in_default.is) in
    decode-short _ (slot_of (pos 0)) flag_of _ _ _ c.if-values-present.false e c.if-found-values.false

pub returns-in-Some : goal.returns-in-Some
returns-in-Some c =
    let e = sym (survey-some (delta_trace _) _ c.survey-found.ensures _ c.in-Some.is) in
    decode-fault _ (slot_of (pos 0)) flag_of _ _ _ _ c.if-values-present.false e
