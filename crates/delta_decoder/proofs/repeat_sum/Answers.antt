-- `delta_decoder::repeat_sum` meets its contract: the additions that are held lead to a sum that is kept. Assumes nothing.
use mathlib.Core.Path.{◌≡◌, sym, ◌∙◌, ap}
use Prim.Native.Nat.{ℕ}
use native.Mathlib.Omega.{arith}
use Rattle.leb128.proofs.Twos.{same}
use Rattle.encoding.proofs.Via.{via}
use Rattle.encoding.specs.Cases.{maybe_of}
use Rattle.delta_decoder.specs.Sofar.{plus_times}
use Rattle.delta_decoder.proofs.LastSum.{repeat-held}
use Rattle.delta_decoder.proofs.repeat_sum.Goals as goal

pub returns-in-Some : goal.returns-in-Some
returns-in-Some c =
    let d = same c.args.d c.ranges.d in
    let k = rw d at c.times_held.ensures in
    ap (plus_times c.args.n c.args.d) (sym k) ∙ rw d at (via maybe_of c.add_times.ensures c.in-Some.is)

pub returns-in-None : goal.returns-in-None
returns-in-None c =
    let d = same c.args.d c.ranges.d in
    let k = rw d at c.times_held.ensures in
    let e = ap (plus_times c.args.n c.args.d) (sym k) ∙ rw d at (via maybe_of c.add_times.ensures c.in-None.is) in
    let h = repeat-held c.args.n c.args.d c.args.c (omega arith) in
    let z : ◌≡◌ {A = ℕ} 0 1 = cc h.1 in
    absurd (omega arith)
