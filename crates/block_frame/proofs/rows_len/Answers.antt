-- `block_frame::rows_len` meets its contract: the length owed is k and what the rows from here on take. Assumes nothing.
use mathlib.Core.Path.{◌≡◌, ap, ◌∙◌}
use mathlib.Core.List.{[], ◌∷◌, ◌++◌}
use Prim.Native.Nat.{◌+◌}
use native.Mathlib.Omega.{arith}
use borrow.Author.Rules.{rules}
use lib.ListN.{length, length-append}
use Rattle.leb128.proofs.Laws.{u64-short}
use Rattle.std.proofs.lemmas.Slice.Zip.{zip_turn, zip_end}
use Rattle.block_frame.proofs.Storing.{rows-length, rows-over}
use Rattle.block_frame.proofs.rows_len.Goals as goal

pub overflow_add-k : goal.overflow_add-k
overflow_add-k c = omega (arith, c.len_u64.ensures, c.len_u64-in-loop-spec.ensures, u64-short c.from.result, u64-short c.in-Some.len.now)

pub overflow_add-k-in-loop-spec : goal.overflow_add-k-in-loop-spec
overflow_add-k-in-loop-spec c =
    let t = zip_turn c.args.specs.now c.args.lens.now c.loop-spec.yielded _ _ c.next.new.self _ (search rules) (search rules) c.loop-spec.yielded_by _ c.in-Some.is c.next.ensures.steps in
    omega (arith, t.0, c.loop-spec.invariant.0, c.len_u64.ensures, c.len_u64-in-loop-spec.ensures, u64-short c.from.result, u64-short c.in-Some.len.now)

pub loop-spec-preserved : goal.loop-spec-preserved
loop-spec-preserved c =
    let l = c.loop-spec in
    let t = zip_turn c.args.specs.now c.args.lens.now c.loop-spec.yielded _ _ c.next.new.self _ (search rules) (search rules) c.loop-spec.yielded_by _ c.in-Some.is c.next.ensures.steps in
    let long : length (l.yielded ++ (c.in-Some.spec, c.in-Some.len) ∷ []) ≡ length l.yielded + 1 = length-append l.yielded _ in
    let e = rows-length c.args.specs.now c.args.lens.now (length l.yielded) t.0 t.1 (c.from.ensures ∙ t.2 0) (t.3 0) in
    rw long (
      omega (arith, l.invariant.0, c.len_u64.ensures, c.len_u64-in-loop-spec.ensures, u64-short c.from.result, u64-short c.in-Some.len.now),
      omega (arith, l.invariant.1, e, c.len_u64.ensures, c.len_u64-in-loop-spec.ensures),
    )

pub returns : goal.returns
returns c =
    let l = c.loop-spec in
    let t = zip_end c.args.specs.now c.args.lens.now c.loop-spec.yielded _ _ c.next.new.self _ (search rules) (search rules) c.loop-spec.yielded_by c.in-None.is c.next.ensures.steps in
    let e = rows-over c.args.specs.now c.args.lens.now (length l.yielded) t in
    (omega (arith, l.invariant.1, ap length e), omega (arith, l.invariant.0, t))
