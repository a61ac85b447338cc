-- The writer's cut made reading by reading, without looking ahead and without slots: what is known of the list so far, and how a reading changes
-- it. Private functions promise by it; proofs/Cutting.antt shows that it comes to the writer's bytes. No public promise cites it.
use Rattle.std.specs.Prelude.{ℕ, zero, suc, ◌+◌, List, [], ◌∷◌, Bool, true, false, cond, ◌||◌, eqb, length, pos, negsuc}
use Rattle.std.proofs.Math.Option.{Option, none, some}
use Rattle.leb128.specs.Answer.{Answer, done, refused, within}
use Rattle.leb128.specs.Write.{u64_bytes, i64_bytes}
use Rattle.encoding.specs.Ahead.{alike}
use Rattle.encoding.specs.Element.{Element}

-- n bytes more, where there is room for so many in all
abbrev pub spending : ℕ → ℕ → Answer → Answer
spending room n (done k) = within 10 room (done (k + n))
spending room n (refused number place) = refused number place

-- the bytes spent so far; has a value come; how many values of a literal stretch are open, their own bytes spent but not their count; and the
-- reading that is held, with how many times it came
pub record Cut (A : Type 0) : Type 0 where
  pub used : Answer
  pub any : Bool
  pub literals : ℕ
  pub held : Option A
  pub times : ℕ

abbrev pub fresh : {A : Type 0} → Cut A
fresh = record { used = done 0; any = false; literals = 0; held = none; times = 0 }

-- the count of n literal values, of n absent readings with the 0 before it, and of n times a value
abbrev pub literal_head : ℕ → ℕ
literal_head zero = 0
literal_head (suc n) = length (i64_bytes (negsuc n))

abbrev pub absent_run : ℕ → ℕ
absent_run zero = 0
absent_run (suc n) = length (i64_bytes (pos 0)) + length (u64_bytes (suc n))

abbrev pub is_some : {A : Type 0} → Option A → Bool
is_some none = false
is_some (some a) = true

-- what is open when the held reading is closed, since another follows (`on`: a value) or none: the bytes spent, and the literal values still open
pub record Shut : Type 0 where
  pub used : Answer
  pub literals : ℕ

abbrev pub shut : Answer → ℕ → Shut
shut used n = record { used = used; literals = n }

module _ {A : Type 0} (E : Element A) (room : ℕ) where
  abbrev pub single_of : Bool → Answer → ℕ → ℕ → Shut
  single_of on used n size =
      cond on (shut (spending room size used) (suc n)) (shut (spending room (literal_head (suc n)) (spending room size used)) 0)

  abbrev pub several_of : Answer → ℕ → ℕ → ℕ → Shut
  several_of used n times size = shut (spending room size (spending room (length (i64_bytes (pos times))) (spending room (literal_head n) used))) 0

  unfoldable pub closing : Bool → Answer → ℕ → Option A → ℕ → Shut
  closing on used n none times = shut (spending room (absent_run times) used) 0
  closing on used n (some a) times = cond (eqb times 1) (single_of on used n (length (E.write a))) (several_of used n times (length (E.write a)))

  abbrev pub closed_of : Bool → Cut A → Shut
  closed_of on c = closing on c.used c.literals c.held c.times

  abbrev pub longer : Cut A → Option A → ℕ → Cut A
  longer c x n = record { used = c.used; any = c.any || is_some x; literals = c.literals; held = c.held; times = c.times + n }

  abbrev pub turned : Cut A → Option A → ℕ → Shut → Cut A
  turned c x n d = record { used = d.used; any = c.any || is_some x; literals = d.literals; held = x; times = n }

  -- a reading, n times
  unfoldable pub fed_of : Cut A → Option A → ℕ → Cut A
  fed_of c x zero = c
  fed_of c x (suc n) = cond (alike E c.held x) (longer c x (suc n)) (turned c x (suc n) (closed_of (is_some x) c))

  unfoldable pub fed_all : Cut A → List (Option A) → Cut A
  fed_all c [] = c
  fed_all c (x ∷ xs) = fed_all (fed_of c x 1) xs

  -- at the list's end: "a list with no value present writes nothing"
  unfoldable pub finished_of : Cut A → Answer
  finished_of c = cond c.any (closed_of false c).used (done 0)
