-- What `name_at` answers is the only answer that fits its promise: no second start and length, and no second refusal, stand for what the bytes read as.
-- Assumes nothing.
use Prim.Native.Nat.{ℕ, ◌+◌, ◌≤◌}
use mathlib.Core.Path.{◌≡◌, refl, sym, ◌∙◌, ap}
use mathlib.Core.List.{List, [], ◌∷◌}
use native.Mathlib.Omega.{arith}
use lib.ListN.{length, get_or, drop, length-drop}
use lib.Seq.{length-take-le}
use Rattle.std.specs.Prelude.{Result, Ok, Err}
use Rattle.refusal.specs.Number.{number_of}
use Rattle.refusal.specs.declared.Refusal.{Refusal}
use Rattle.refusal.proofs.Numbered.{one_refusal}
use Rattle.leb128.specs.Got.{Got, got, bad}
use Rattle.text.specs.Text.{bytes_at, text_at}
use Rattle.text.proofs.TextLaws.{text-read}
use Rattle.text_decoder.specs.Cases.{name_of}

module _ (s : List ℕ) (at : ℕ) where
  -- a name that is read lies within the bytes, so that it is as long as is said
  name-within : (start len : ℕ) → got (bytes_at s start len) (start + len) ≡ text_at s at → start + len ≤ length s
  name-within start len e = let r = text-read s at (start + len) (bytes_at s start len) (sym e) in omega (arith, r.room, r.next)

  name-length : (start len : ℕ) → got (bytes_at s start len) (start + len) ≡ text_at s at → length (bytes_at s start len) ≡ len
  name-length start len e = length-take-le len (drop start s) (omega (arith, name-within start len e, length-drop start s))

  one_name : (start len start₂ len₂ : ℕ) → got (bytes_at s start len) (start + len) ≡ text_at s at
      → got (bytes_at s start₂ len₂) (start₂ + len₂) ≡ text_at s at → (start ≡ start₂) × (len ≡ len₂)
  one_name start len start₂ len₂ e f =
      let g : got (bytes_at s start len) (start + len) ≡ got (bytes_at s start₂ len₂) (start₂ + len₂) = e ∙ sym f in
      let b : bytes_at s start len ≡ bytes_at s start₂ len₂ = cc in
      let n : start + len ≡ start₂ + len₂ = cc in
      let l : len ≡ len₂ = sym (name-length start len e) ∙ ap length b ∙ name-length start₂ len₂ f in
      (omega arith, l)

  pub name-only : (r r₂ : Result (ℕ × ℕ) Refusal) → name_of s r ≡ text_at s at → name_of s r₂ ≡ text_at s at → r ≡ r₂
  name-only (Ok (start, len)) (Ok (start₂, len₂)) e f = let h = one_name start len start₂ len₂ e f in let a = h.0 in let l = h.1 in cc
  name-only (Ok (start, len)) (Err y) e f =
      let g : got (bytes_at s start len) (start + len) ≡ bad (number_of y.0) y.1 = e ∙ sym f in
      let z : ◌≡◌ {A = ℕ} 0 1 = cc in absurd (omega arith)
  name-only (Err x) (Ok (start₂, len₂)) e f =
      let g : got (bytes_at s start₂ len₂) (start₂ + len₂) ≡ bad (number_of x.0) x.1 = f ∙ sym e in
      let z : ◌≡◌ {A = ℕ} 0 1 = cc in absurd (omega arith)
  name-only (Err x) (Err y) e f =
      let g : ◌≡◌ {A = Got (List ℕ)} (bad (number_of x.0) x.1) (bad (number_of y.0) y.1) = e ∙ sym f in
      let n : number_of x.0 ≡ number_of y.0 = cc in
      let p : x.1 ≡ y.1 = cc in
      ap Err (one_refusal x y n p)
