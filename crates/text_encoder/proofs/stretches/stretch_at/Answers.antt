-- `text_encoder::stretches::stretch_at` meets its contract: each kind of stretch by its law. Assumes nothing.
use Rattle.text_encoder.proofs.Alike.{absent-true, absent-false}
use Rattle.text_encoder.proofs.Stretching.{repeat-found, lone-found}
use Rattle.text_encoder.proofs.stretches.stretch_at.Goals as goal

pub absent_end-a-requires : goal.absent_end-a-requires
absent_end-a-requires c =
    let p = c.requires in
    record { pairs = p.pairs; «at» = p.«at»; s_len_bound = p.s_len_bound; times_nonzero = (p.times_nonzero, absent-true _ _ c.is_absent.ensures c.if-is_absent.true) }

pub repeat_end-b-requires : goal.repeat_end-b-requires
repeat_end-b-requires c =
    let p = c.requires in
    record { pairs = p.pairs; «at» = p.«at»; s_len_bound = p.s_len_bound; times_nonzero = (p.times_nonzero, absent-false _ _ c.is_absent.ensures c.if-is_absent.false) }

pub returns-then-b-ge2 : goal.returns-then-b-ge2
returns-then-b-ge2 c =
    let p = c.requires in
    let b = c.repeat_end-b.ensures in
    let f = absent-false _ _ c.is_absent.ensures c.if-is_absent.false in
    record { at_2 = b.at_2; cut_of = repeat-found _ _ _ _ _ _ p.«at» b.at_2 b.repeat_of p.times_nonzero f c.if-b-ge2.true }

pub literal_end-c-requires : goal.literal_end-c-requires
literal_end-c-requires c =
    let p = c.requires in
    let b = c.repeat_end-b.ensures in
    let f = absent-false _ _ c.is_absent.ensures c.if-is_absent.false in
    let o = lone-found _ _ _ _ _ _ p.«at» b.at_2 b.repeat_of c.if-b-ge2.false in
    record { pairs = p.pairs; «at» = p.«at»; s_len_bound = p.s_len_bound; times_nonzero = (p.times_nonzero, f); off = o }
