-- `pen_log::apply` meets its contract: both slices spliced, where there is room. Assumes nothing.
use borrow.Author.Rules.{rules}
use mathlib.Core.Path.{◌≡◌, refl, sym, ap, ◌∙◌}
use mathlib.Core.List.{[], ◌∷◌}
use native.Mathlib.Omega.{arith}
use lib.IntN.{ℤ, pos}
use lib.ListN.{length, take}
use mir.Syntax.{w64}
use mir.Val.{SFits, to_z, of_z}
use Rattle.leb128.proofs.Twos.{same}
use Rattle.slots.specs.Splice.{spliced, in_slots}
use lib.Seq.{length-take-le}
use Rattle.splice.proofs.Replacing.{splice-fits}
use Rattle.pen_log.proofs.apply.Goals as goal

pub slice_bounds-splice-end : goal.slice_bounds-splice-end
slice_bounds-splice-end c = sym (length-take-le _ _ (omega (arith, c.requires.one)))

pub slice_bounds-splice-end-2 : goal.slice_bounds-splice-end-2
slice_bounds-splice-end-2 c = sym (length-take-le _ _ (omega (arith, c.requires.one)))

pub returns : goal.returns
returns c =
    let a = c.args in
    let f = c.requires in
    let sp = a.sp in
    let n = sp.new in
    let g : SFits w64 sp.value = search rules in
    let x = same sp.value g in
    let y = to_z w64 (of_z w64 sp.value) in
    let l : length (take n (y ∷ [])) ≡ n = length-take-le n (y ∷ []) f.one in
    let k : length (take n (sp.flag ∷ [])) ≡ n = length-take-le n (sp.flag ∷ []) f.one in
    record {
      long = refl;
      values =
          splice-fits (pos 0) a.values.now a.len sp.start sp.end (take n (y ∷ [])) f.ordered f.within f.old_fits (omega (arith, l, f.new_fits))
          c.splice.ensures.s_after
          ∙ ap (λ (i : ℤ). in_slots (pos 0) a.values.now a.len (spliced (take a.len a.values.now) sp.start sp.end (take n (i ∷ [])))) x;
      presence =
          splice-fits 0 a.present.now a.len sp.start sp.end (take n (sp.flag ∷ [])) f.ordered f.within (omega (arith, f.old_fits, f.even))
          (omega (arith, k, f.new_fits, f.even)) c.splice-2.ensures.s_after;
    }
