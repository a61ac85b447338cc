-- `leb128::short_of` meets its contract, by the table's rule. Assumes nothing.
use mathlib.Core.Path.{◌≡◌, ◌∙◌}
use lib.IntN.{ℤ, pos}
use lib.ListN.{get_or}
use mir.Syntax.{w64}
use mir.ValLaws.{to_z-of_z}
use borrow.Author.Rules.{sfits_of}
use native.Mathlib.Omega.{arith}
use Rattle.leb128.specs.Short.{short}
use Rattle.leb128.proofs.Lookup.{rule}
use Rattle.leb128.proofs.Twos.{same_byte}
use Rattle.leb128.proofs.short_of.Goals as goal

pub returns : goal.returns
unfolding short
returns c =
    let a = c.args in
    let x : ℤ = get_or short a.place (pos 0) in
    let e : c.number_of.result ≡ x = c.number_of.ensures ∙ same_byte x c.number_of-arg-2-1.given in
    to_z-of_z w64 c.number_of.result (sfits_of c.number_of.type_inv) ∙ e ∙ rule a.place (omega arith)
