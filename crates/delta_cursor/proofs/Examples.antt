-- 02, [5], on the smallest inputs where it could be read otherwise, each by computation; the sums are those of differences. Assumes nothing.
use Prim.Native.Nat.{ℕ, ◌^◌}
use mathlib.Core.Path.{◌≡◌, refl}
use mathlib.Core.List.{List, [], ◌∷◌, ◌++◌}
use lib.IntN.{ℤ, pos}
use lib.ListN.{replicate}
use Rattle.leb128.specs.Read.{u64_at, i64_at}
use Rattle.encoding.specs.Walk.{fault}
use Rattle.encoding.specs.Head.{absent_head, begun, head_at}
use Rattle.encoding.specs.Column.{Reading, absent, present}
use Rattle.cursor.specs.Steps.{behind, calls, Said, reading, ended, said, ready}
use Rattle.cursor.specs.Cursor.{carried, entered, enter, one_literal, one_of, ready_at, step}
use Rattle.delta_decoder.specs.Sums.{held_sum}
use Rattle.delta_cursor.specs.SumCursor.{sum_fresh, summed, add_step, delta_step}

-- what the call with n calls before it says
abbrev sums : List ℕ → ℕ → Said (Reading ℤ)
sums s n = said (delta_step s (calls (delta_step s) n sum_fresh))

-- twice 2^62
abbrev doubled : List ℕ
doubled = 0x02 ∷ replicate 8 0x80 ++ 0xc0 ∷ 0x00 ∷ []

pub record Examples : Type 0 where
  -- a count that passes the limit gives none of its run's readings
  pub passes : sums (0x80 ∷ 0x80 ∷ 0x80 ∷ 0x80 ∷ 0x10 ∷ 0x05 ∷ []) 0 ≡ ended (fault 5 0)
  -- 6 within a repeated run: the readings whose sums fit come first; then 6, again at every later call
  pub fits : sums doubled 0 ≡ reading (present (pos (2 ^ 62)) 1)
  pub leaves : sums doubled 1 ≡ ended (fault 6 1)
  pub stays : sums doubled 2 ≡ ended (fault 6 1)
  -- a repeated run with an unreadable value gives none
  pub unreadable : sums (0x02 ∷ 0x80 ∷ []) 0 ≡ ended (fault 1 1)
  -- literal values: those before the first unreadable one
  pub literal : sums (0x7e ∷ 0x05 ∷ 0x80 ∷ []) 0 ≡ reading (present (pos 5) 1)
  pub cut : sums (0x7e ∷ 0x05 ∷ 0x80 ∷ []) 1 ≡ ended (fault 1 2)
  -- runs that add nothing are passed
  pub passed : sums (0x00 ∷ 0x00 ∷ 0x00 ∷ 0x00 ∷ 0x7f ∷ 0x05 ∷ []) 0 ≡ reading (present (pos 5) 5)
  pub missing : sums (0x00 ∷ 0x00 ∷ 0x00 ∷ 0x01 ∷ []) 0 ≡ reading absent

pub examples : Examples
unfolding u64_at i64_at absent_head begun head_at behind calls said ready carried entered enter one_literal one_of ready_at step held_sum summed add_step delta_step
examples =
    record {
      passes = refl;
      fits = refl;
      leaves = refl;
      stays = refl;
      unreadable = refl;
      literal = refl;
      cut = refl;
      passed = refl;
      missing = refl;
    }
