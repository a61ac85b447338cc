-- `block_frame::put_rows` meets its contract: the rows from here on owe at the position what all owe at the start. Assumes nothing.
use Prim.Native.Nat.{◌+◌}
use mathlib.Core.Path.{◌≡◌, sym, ◌∙◌, ap}
use mathlib.Core.List.{[], ◌∷◌, ◌++◌}
use native.Mathlib.Omega.{arith}
use borrow.Author.Rules.{rules}
use lib.ListN.{length, length-append}
use Rattle.std.proofs.lemmas.Slice.Zip.{zip_turn, zip_end}
use Rattle.encoding.proofs.Putting.{put_two, put-part, put-done}
use Rattle.block_frame.proofs.Storing.{rows_next, rows-length, rows-over}
use Rattle.block_frame.proofs.put_rows.Goals as goal

pub put_number-p-requires : goal.put_number-p-requires
put_number-p-requires c =
    let t = zip_turn c.args.specs.now c.args.lens.now c.loop-spec.yielded _ _ c.next.new.self _ (search rules) (search rules) c.loop-spec.yielded_by _ c.in-Some.is c.next.ensures.steps in
    omega (arith, c.loop-spec.invariant, rows-length c.args.specs.now c.args.lens.now (length c.loop-spec.yielded) t.0 t.1 (c.from.ensures ∙ t.2 0) (t.3 0), c.requires)

pub put_number-p-requires-in-loop-spec : goal.put_number-p-requires-in-loop-spec
put_number-p-requires-in-loop-spec c =
    let t = zip_turn c.args.specs.now c.args.lens.now c.loop-spec.yielded _ _ c.next.new.self _ (search rules) (search rules) c.loop-spec.yielded_by _ c.in-Some.is c.next.ensures.steps in
    omega (arith, c.loop-spec.invariant, rows-length c.args.specs.now c.args.lens.now (length c.loop-spec.yielded) t.0 t.1 (c.from.ensures ∙ t.2 0) (t.3 0), c.requires, c.put_number-p.ensures.after, c.put_number-p.auto.out)

pub loop-spec-preserved : goal.loop-spec-preserved
loop-spec-preserved c =
    let l = c.loop-spec in
    let h = l.invariant in
    let n = length l.yielded in
    let t = zip_turn c.args.specs.now c.args.lens.now c.loop-spec.yielded _ _ c.next.new.self _ (search rules) (search rules) c.loop-spec.yielded_by _ c.in-Some.is c.next.ensures.steps in
    let long : length (l.yielded ++ (c.in-Some.spec, c.in-Some.len) ∷ []) ≡ n + 1 = length-append l.yielded _ in
    let u = put_two c.put_number-p.ensures c.put_number-p-in-loop-spec.ensures in
    let u₁ = c.put_number-p.ensures.after in
    let u₂ = c.put_number-p-in-loop-spec.ensures.after in
    let e = rows-length c.args.specs.now c.args.lens.now (length c.loop-spec.yielded) t.0 t.1 (c.from.ensures ∙ t.2 0) (t.3 0) in
    let r = rows_next c.args.specs.now c.args.lens.now n t.0 t.1 (c.from.ensures ∙ t.2 0) (t.3 0) in
    rw long (c.put_number-p-in-loop-spec.auto.out ∙ c.put_number-p.auto.out ∙ h.0, omega (arith, h.1), h.2 ∙ put-part _ _ r u)

pub returns : goal.returns
returns c =
    let l = c.loop-spec in
    let h = l.invariant in
    let t = zip_end c.args.specs.now c.args.lens.now c.loop-spec.yielded _ _ c.next.new.self _ (search rules) (search rules) c.loop-spec.yielded_by c.in-None.is c.next.ensures.steps in
    let e = rows-over c.args.specs.now c.args.lens.now (length l.yielded) t in
    record { after = omega (arith, h.1, ap length e); bytes = sym (h.2 ∙ put-done _ _ _ e) }
