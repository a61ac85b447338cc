-- What the n-th call has to say of a trace: its readings in order, then its ending, which is that of the call over the whole column. So calls
-- that say it answer in that order (`in_order`, `then-end`, `then-refused`). Assumes nothing.
use Prim.Native.Nat.{ℕ, zero, suc, ◌≤◌, ◌<◌}
use mathlib.Core.Path.{◌≡◌, refl, ◌∙◌, ap}
use mathlib.Core.List.{List, [], ◌∷◌}
use native.Mathlib.Omega.{arith}
use lib.ListN.{length, get_or}
use Rattle.leb128.specs.Answer.{done, refused}
use Rattle.encoding.specs.Walk.{Ending, sound, fault, Trace, outcome_of, outcome}
use Rattle.cursor.specs.Steps.{Said, reading, ended, say_at, nth}

module _ {R : Type 0} where
  say-reading : (rs : List R) (e : Ending) (n : ℕ) (d : R) → n < length rs → say_at rs e n ≡ reading (get_or rs n d)
  unfolding say_at
  say-reading [] e n d l = absurd (omega arith)
  say-reading (r ∷ rs) e zero d l = refl
  say-reading (r ∷ rs) e (suc n) d l = say-reading rs e n d (omega arith)

  say-ending : (rs : List R) (e : Ending) (n : ℕ) → length rs ≤ n → say_at rs e n ≡ ended e
  unfolding say_at
  say-ending [] e n l = refl
  say-ending (r ∷ rs) e zero l = absurd (omega arith)
  say-ending (r ∷ rs) e (suc n) l = say-ending rs e n (omega arith)

  nth-reading : (t : Trace R) (n : ℕ) (d : R) → n < length t.readings → nth t n ≡ reading (get_or t.readings n d)
  unfolding nth
  nth-reading t n d l = say-reading t.readings t.ending n d l

  -- what holds of every reading holds of what is said within them
  pub nth-by : (t : Trace R) (P : Said R → Type 0) → ((r : R) → P (reading r)) → (n : ℕ) → n < length t.readings → P (nth t n)
  unfolding nth say_at
  nth-by t P f n l = go t.readings n l
    where
      go : (rs : List R) (n : ℕ) → n < length rs → P (say_at rs t.ending n)
      go [] n l = absurd (omega arith)
      go (r ∷ rs) zero l = f r
      go (r ∷ rs) (suc n) l = go rs n (omega arith)

  pub nth-ending : (t : Trace R) (n : ℕ) → length t.readings ≤ n → nth t n ≡ ended t.ending
  unfolding nth
  nth-ending t n l = say-ending t.readings t.ending n l

  done-sound : (t : Trace R) (m : ℕ) → outcome t ≡ done m → (length t.readings ≡ m) × (t.ending ≡ sound)
  unfolding outcome outcome_of
  done-sound t m h = go t.ending h
    where
      go : (e : Ending) → outcome_of (length t.readings) e ≡ done m → (length t.readings ≡ m) × (e ≡ sound)
      go sound h = (cc, refl)
      go (fault number place) h = let z : ◌≡◌ {A = ℕ} 0 1 = cc in absurd (omega arith)

  refused-fault : (t : Trace R) (number place : ℕ) → outcome t ≡ refused number place → t.ending ≡ fault number place
  unfolding outcome outcome_of
  refused-fault t number place h = go t.ending h
    where
      go : (e : Ending) → outcome_of (length t.readings) e ≡ refused number place → e ≡ fault number place
      go sound h = let z : ◌≡◌ {A = ℕ} 0 1 = cc in absurd (omega arith)
      go (fault m q) h = cc

-- answers that are told of what the calls have to say
module _ {R B : Type 0} (t : Trace R) (told : Said R → B) (answer : ℕ → B) (says : (n : ℕ) → answer n ≡ told (nth t n)) where
  pub in_order : (n : ℕ) (d : R) → n < length t.readings → answer n ≡ told (reading (get_or t.readings n d))
  in_order n d l = says n ∙ ap told (nth-reading t n d l)

  -- a column that the whole-column call counts: behind so many readings the end, however often asked
  pub then-end : (m n : ℕ) → outcome t ≡ done m → m ≤ n → answer n ≡ told (ended sound)
  then-end m n h l =
      let k = done-sound t m h in
      says n ∙ ap told (nth-ending t n (omega (arith, k.0)) ∙ ap ended k.1)

  -- a column that it refuses: behind the readings that same refusal, again at every later call
  pub then-refused : (number place n : ℕ) → outcome t ≡ refused number place → length t.readings ≤ n → answer n ≡ told (ended (fault number place))
  then-refused number place n h l = says n ∙ ap told (nth-ending t n l ∙ ap ended (refused-fault t number place h))
