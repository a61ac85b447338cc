-- `text_encoder::writing::put_bytes` meets its contract: the bytes behind k owe at their position what all owe at the start. Assumes nothing.
use Prim.Native.Nat.{◌+◌}
use mathlib.Core.Path.{refl, sym, ◌∙◌}
use native.Mathlib.Omega.{arith}
use lib.ListN.{get_or, length-set}
use Rattle.text.specs.Text.{bytes_at}
use Rattle.encoding.proofs.Written.{bytes-length, store-start, store-next, store-end}
use Rattle.text_encoder.proofs.writing.put_bytes.Goals as goal

pub loop-k-init : goal.loop-k-init
loop-k-init c = let a = c.args in (omega arith, refl, store-start a.out.now a.at (bytes_at a.s.now a.i a.n))

pub overflow_add-out : goal.overflow_add-out
overflow_add-out c = let p = c.requires in omega (arith, p.0, c.well_formed)

pub bounds-s-i : goal.bounds-s-i
bounds-s-i c = let p = c.requires in omega (arith, p.0)

pub overflow_add-out-in-loop-k : goal.overflow_add-out-in-loop-k
overflow_add-out-in-loop-k c = let p = c.requires in omega (arith, p.1)

pub bounds-out-at : goal.bounds-out-at
bounds-out-at c = let p = c.requires in omega (arith, p.1, c.loop-k.invariant.1)

pub overflow_add-k : goal.overflow_add-k
overflow_add-k c = omega arith

pub loop-k-smaller : goal.loop-k-smaller
loop-k-smaller c = omega arith

pub loop-k-preserved : goal.loop-k-preserved
loop-k-preserved c =
    let a = c.args in
    let l = c.loop-k in (
      omega arith,
      length-set l.out (a.at + l.k) (get_or a.s.now (a.i + l.k) 0) ∙ l.invariant.1,
      l.invariant.2 ∙ store-next l.out a.at l.k a.s.now a.i a.n c.requires.0 c.loop-k-test.true,
    )

pub overflow_add-result : goal.overflow_add-result
overflow_add-result c = let p = c.requires in omega (arith, p.1)

pub shape_of-out : goal.shape_of-out
shape_of-out c = c.loop-k.invariant.1

pub returns : goal.returns
returns c =
    let a = c.args in
    let l = c.loop-k in
    record {
      after = omega (arith, bytes-length a.s.now a.i a.n c.requires.0);
      bytes = sym (l.invariant.2 ∙ store-end l.out a.at l.k a.s.now a.i a.n c.requires.0 (omega arith));
    }
