-- `given_names::is_good_text` meets its contract: nothing is asked of an absent name, and the pair of a present one lies within. Assumes nothing.
use Prim.Native.Nat.{ℕ, ◌+◌, ◌-◌}
use mathlib.Core.Path.{◌≡◌, sym, ◌∙◌, ap}
use native.Mathlib.Omega.{arith}
use Rattle.utf8.specs.Utf8.{is_utf8}
use Rattle.text.specs.Text.{bytes_at}
use Rattle.text.proofs.Givens.{pair-within, text-absent, text-there}
use Rattle.given_names.proofs.is_good_text.Goals as goal

pub returns-then-flag-eq0 : goal.returns-then-flag-eq0
returns-then-flag-eq0 c = sym (text-absent _ _ c.if-flag-eq0.true)

pub overflow_add-end : goal.overflow_add-end
overflow_add-end c = let w = pair-within _ _ _ _ c.requires c.if-flag-eq0.false in omega arith

pub returns : goal.returns
returns c =
    let a = c.args in
    let e : (a.start + a.len) - a.start ≡ a.len = omega arith in
    c.is_utf8.ensures ∙ ap (λ (k : ℕ). is_utf8 (bytes_at a.bytes.now a.start k)) e ∙ sym (text-there _ _ c.if-flag-eq0.false)

pub slice_bounds-is_utf8-end : goal.slice_bounds-is_utf8-end
slice_bounds-is_utf8-end c = let w = pair-within _ _ _ _ c.requires c.if-flag-eq0.false in omega arith
