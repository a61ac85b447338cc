-- 02, [7]: what was kept "as a fresh column". What is true of that column, over any kind.
use Rattle.std.specs.Prelude.{ℕ, ◌*◌, ◌≤◌, ◌⊎◌, ◌≡◌, List, [], false, length}
use Rattle.encoding.specs.Walk as walk
use Rattle.salvage.specs.Way.{Way, fresh_of}

-- no reading of the list is present, and so nothing is written for it; and no bytes read as the empty list
pub record Bare {A : Type 0} (W : Way A) (xs : List A) : Type 0 where
  pub absent : W.present xs ≡ false
  pub nothing : W.writes xs ≡ []
  pub empty : (W.reads []).readings ≡ []

-- it is sound; it reads back as what was kept, or else none of that is present and nothing is written; salvaged again it gives the same bytes; and it is at
-- most 11 times as long as the column that was salvaged
pub record Fresh {A : Type 0} (W : Way A) (s : List ℕ) : Type 0 where
  pub sound : (W.reads (fresh_of W s)).ending ≡ walk.sound
  pub back : ((W.reads (fresh_of W s)).readings ≡ (W.reads s).readings) ⊎ Bare W (W.reads s).readings
  pub again : fresh_of W (fresh_of W s) ≡ fresh_of W s
  pub eleven : length (fresh_of W s) ≤ 11 * length s
