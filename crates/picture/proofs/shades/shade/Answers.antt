-- `picture::shades::shade` meets its contract: each way out is one law. Assumes nothing.
use native.Mathlib.Omega.{arith}
use Rattle.picture.proofs.Shading.{shade-gap, shade-air, shade-clay, shade-whole, shade-part}
use borrow.Author.Rules.{rules}
use Rattle.picture.proofs.shades.shade.Goals as goal

pub returns-then-here-eq0 : goal.returns-then-here-eq0
returns-then-here-eq0 c = let a = c.args in omega (arith, shade-gap a.row a.top a.bottom a.here a.gone (search rules))

pub returns-then-row-top : goal.returns-then-row-top
returns-then-row-top c =
    let a = c.args in
    omega (arith, shade-air a.row a.top a.bottom a.here a.gone (search rules) (search rules))

pub returns-then-bottom-row : goal.returns-then-bottom-row
returns-then-bottom-row c =
    let a = c.args in
    omega (arith, shade-clay a.row a.top a.bottom a.here a.gone (search rules) (search rules) (search rules))

pub returns-then-gone-eq0 : goal.returns-then-gone-eq0
returns-then-gone-eq0 c =
    let a = c.args in
    omega (arith, shade-whole a.row a.top a.bottom a.here a.gone (search rules) (search rules) (search rules) (search rules))

pub returns : goal.returns
returns c =
    let a = c.args in
    omega (arith, shade-part a.row a.top a.bottom a.here a.gone (search rules) (search rules) (search rules) (search rules))
