-- `picture::shades::shade_at` meets its contract. Assumes nothing.
use Rattle.picture.proofs.Shading.{shade-is}
use Rattle.picture.proofs.shades.shade_at.Goals as goal

pub returns : goal.returns
returns c =
    let a = c.args in
    shade-is a.c a.row a.s _ _ _ c.row_of-top.ensures c.row_of-bottom.ensures c.shade.ensures
