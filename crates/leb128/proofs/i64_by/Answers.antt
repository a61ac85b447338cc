-- `leb128::i64_by` meets its contract: the entry of the first byte, or what its bytes say. Assumes nothing.
use mathlib.Core.Path.{◌≡◌, sym, ap, ◌∙◌}
use Prim.Native.Nat.{◌+◌}
use lib.IntN.{ℤ, pos}
use lib.ListN.{get_or}
use mir.Syntax.{w8, w64}
use mir.Val.{to_z, of_z}
use mir.ValLaws.{to_z-of_z}
use borrow.Author.Rules.{sfits_of}
use Rattle.leb128.specs.Got.{got}
use Rattle.leb128.proofs.Lookup.{entry, on, none}
use Rattle.leb128.proofs.Twos.{same_byte}
use Rattle.leb128.proofs.i64_by.Goals as goal
use Rattle.leb128.proofs.i64_by.Goals.{then-at-s+else-x, else-at-s}

pub returns-then-x : goal.returns-then-x
returns-then-x c =
    let a = c.args in
    let b = c.place_of-b in
    let x : ℤ = get_or a.table.now b.result (pos 0) in
    let e : c.number_of.result ≡ x = c.number_of.ensures ∙ same_byte x c.x-1.given in
    ap (λ z. got z (a.at + 1)) (to_z-of_z w64 c.number_of.result (sfits_of c.number_of.type_inv))
    ∙ entry a.s.now a.at c.if-at-s.true a.table.now b.ensures.0 b.ensures.1 e (λ z. c.if-x.true (ap (of_z w8) (sym e ∙ z)))

pub returns : goal.returns
returns c =
    let a = c.args in
    c.i64_by_bytes.ensures
    ∙ (elim c.if-at-s.branch [
      | then-at-s+else-x w ↦
          on a.s.now a.at w.if-at-s.true a.table.now w.place_of-b.ensures.0 w.place_of-b.ensures.1
          (sym (same_byte (get_or a.table.now w.place_of-b.result (pos 0)) w.x-1.given) ∙ ap (to_z w8) w.if-x.false)
      | else-at-s w ↦ none a.s.now a.at a.table.now w.if-at-s.false
    ])
