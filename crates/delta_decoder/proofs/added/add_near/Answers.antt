-- `delta_decoder::added::add_near` meets its contract: what the first two bytes say. Assumes nothing.
use mathlib.Core.Path.{◌≡◌, sym, ◌∙◌, ap}
use mathlib.Core.List.{List}
use mathlib.Core.Logic.{inl, inr}
use Prim.Native.Nat.{ℕ, suc, ◌+◌, ◌^◌, ◌≤◌, ◌<◌}
use native.Mathlib.Numerals.{add-one}
use native.Mathlib.Omega.{arith}
use lib.IntN.{ℤ, pos}
use lib.ListN.{length, get_or}
use borrow.Author.Rules.{rules}
use Rattle.leb128.specs.Got.{got}
use Rattle.leb128.specs.Read.{i64_at}
use Rattle.leb128.specs.Short.{entry_of}
use Rattle.leb128.proofs.Lookup.{rule}
use Rattle.leb128.proofs.Twos.{same_byte}
use Rattle.delta_decoder.specs.Added.{adding, over_mark, Nearly, NearBytes}
use Rattle.std.specs.Prelude as code
use Rattle.delta_decoder.proofs.Adding.{near-alone, near-paired}
use Rattle.delta_decoder.proofs.added.add_near.Goals as goal

says : (s : List ℕ) (at n : ℕ) → suc at < length s → get_or s at 0 < 256 → 16384 ≤ n → n + 16384 < 2 ^ 64
    → (r : code.Option (ℕ × ℕ)) → NearBytes (get_or s at 0) (get_or s (suc at) 0) (suc at) n r → Nearly r (adding n at (i64_at s at))
says s at n h w f t code.None x = tt
says s at n h w f t (code.Some (m, next)) (inl x) = near-alone s at n f t (omega arith) x.short x.sum ∙ ap (got m) (omega (arith, x.end))
says s at n h w f t (code.Some (m, next)) (inr x) =
    near-paired s at n f t h x.first w x.last x.strict x.sum ∙ ap (got m) (omega (arith, x.end))

pub near_bytes-requires : goal.near_bytes-requires
near_bytes-requires c =
    let e = c.over_mark-e in
    let b = c.place_of-place in
    let x : ℤ = get_or c.args.table.now b.result (pos 0) in
    let f : x ≡ entry_of c.wide.result =
    ap (λ t. get_or t b.result (pos 0)) c.requires ∙ rule b.result b.ensures.1 ∙ ap entry_of (b.ensures.0 ∙ sym c.wide.ensures.0) in
    record { b_bound = search rules; e_value = e.ensures ∙ ap over_mark (same_byte x c.over_mark-arg-1.given ∙ f) }

pub returns : goal.returns
returns c =
    let d = c.wide-d.ensures in
    let b = c.wide.ensures in
    says c.args.s.now c.args.at c.args.n (omega arith) (omega arith) (omega arith) (omega arith) c.near_bytes.result
    (rw (b.0, d.0, add-one) at c.near_bytes.ensures)
