-- A number put where there is room for it is put there, and not refused. Assumes nothing.
use Prim.Native.Nat.{ℕ, ◌+◌, ◌≤◌}
use mathlib.Core.Path.{◌≡◌, sym, ◌∙◌}
use mathlib.Core.List.{List}
use native.Mathlib.Omega.{arith}
use lib.ListN.{length}
use Rattle.leb128.specs.Answer.{done, refused}
use Rattle.leb128.specs.Write.{put_at, put_out}
use Rattle.leb128.proofs.Laws.{put-room}
use Rattle.encoding.specs.Ahead.{PutAt}

module _ (out : List ℕ) (at : ℕ) (w : List ℕ) (room : at + length w ≤ length out) where
  pub placed : (out' : List ℕ) (next : ℕ) → put_at out at w ≡ done next → out' ≡ put_out out at w → PutAt out out' at next w
  placed out' next e f =
      let p = put-room out at w room in
      record { after = let z : done next ≡ done (at + length w) = sym e ∙ p.0 in cc; bytes = f ∙ p.1 }

  pub not-refused : (number place : ℕ) → put_at out at w ≡ refused number place → ⊥
  not-refused number place e = let p = put-room out at w room in let z : ◌≡◌ {A = ℕ} 0 1 = cc in absurd (omega arith)
