-- `text_decoder::name_at` meets its contract: the length number was read, or its refusal passed on. Assumes nothing.
use mathlib.Core.Path.{sym, ◌∙◌, ap}
use Rattle.std.proofs.lemmas.Result.{err_from_is_err_and}
use Rattle.leb128.specs.Cases.{parsed_of}
use Rattle.leb128.proofs.Laws.{u64-next}
use Rattle.encoding.proofs.Via.{via}
use Rattle.text.specs.Text.{valued, text_at}
use Rattle.text_decoder.proofs.name_at.Goals as goal

pub name_behind-requires : goal.name_behind-requires
name_behind-requires c = (u64-next _ _ _ _ (via parsed_of c.leb128_u64.ensures c.in_ok-n.was)).1

pub returns : goal.returns
unfolding text_at
returns c =
    let r = via parsed_of c.leb128_u64.ensures c.in_ok-n.was in
    c.name_behind.ensures ∙ sym (ap (valued _ _) r)

pub returns-in_err-n : goal.returns-in_err-n
unfolding text_at
returns-in_err-n c =
    let p = err_from_is_err_and c.from_residual.result c.from_residual.ensures.1 in
    let a = c.args in
    rw (p.1, p.2) (sym (ap (valued a.s.now a.at) (via parsed_of c.leb128_u64.ensures c.in_err-n.was)))
