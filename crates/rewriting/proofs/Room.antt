-- Bytes spent where there is room for so many in all: the answer is that of their sum, whichever of them was too much. Assumes nothing.
use Prim.Native.Nat.{ℕ, ◌+◌, ◌<◌}
use mathlib.Core.Path.{◌≡◌, refl, sym, ◌∙◌, ap}
use mathlib.Core.Bool.{Bool, true, false, cond}
use native.Mathlib.Omega.{arith}
use lib.Dec.{leb}
use borrow.Author.Tests.{le-leb, leb-false, lt-leb}
use Rattle.leb128.specs.Answer.{Answer, done, refused, within}
use Rattle.rewriting.specs.Cutter.{spending}

pub spending-on : (room k n : ℕ) → spending room n (within 10 room (done k)) ≡ within 10 room (done (k + n))
unfolding within
spending-on room k n = go (leb k room) refl
  where
    go : (t : Bool) → leb k room ≡ t → spending room n (cond t (done k) (refused 10 0)) ≡ cond (leb (k + n) room) (done (k + n)) (refused 10 0)
    go true e = refl
    go false e =
        let l : room < k = leb-false k room e in
        let m : room < k + n = omega arith in
        ap (λ (t : Bool). cond t (done (k + n)) (refused 10 0)) (sym (lt-leb (k + n) room m))

-- an answer known to be that of k bytes, and n bytes more
pub spent-more : (room k n : ℕ) (used : Answer) → used ≡ within 10 room (done k) → spending room n used ≡ within 10 room (done (k + n))
spent-more room k n used e = ap (spending room n) e ∙ spending-on room k n

pub none-spent : (room : ℕ) → done 0 ≡ within 10 room (done 0)
unfolding within
none-spent room = ap (λ (t : Bool). cond t (done 0) (refused 10 0)) (sym (le-leb 0 room (omega arith)))
