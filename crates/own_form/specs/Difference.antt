-- 02, [13]: "give the place of the first byte that differs, the shorter length where one is the start of the other".
use Rattle.std.specs.Prelude.{ℕ, suc, List, [], ◌∷◌, cond, eqb}
use Rattle.std.proofs.Math.Option.{Option, none, some}

-- counting from i; none where both are the same
unfoldable pub differ_at : ℕ → List ℕ → List ℕ → Option ℕ
differ_at i [] [] = none
differ_at i [] (b ∷ t) = some i
differ_at i (a ∷ s) [] = some i
differ_at i (a ∷ s) (b ∷ t) = let rest = differ_at (suc i) s t in cond (eqb a b) rest (some i)
