-- 02, [13]: "give the place of the first byte that differs". The bytes that our writer gives next, beside those that stand there.
use Rattle.std.specs.Prelude.{ℕ, suc, List, [], ◌∷◌, cond, eqb}

-- the position behind bytes that stand there; or the place of the first that does not
pub data Place : Type 0 where
  behind : ℕ → Place
  differs : ℕ → Place

-- the bytes w beside s, of which the first has the place i; where s ends too early, that is at its end
unfoldable pub standing : ℕ → List ℕ → List ℕ → Place
standing i s [] = behind i
standing i [] (b ∷ w) = differs i
standing i (a ∷ s) (b ∷ w) = let rest = standing (suc i) s w in cond (eqb a b) rest (differs i)
