-- The counts of a boolean column made reading by reading come to the writer's bytes: what is spent, and the count that is open, say what a list of bytes
-- 0 and 1 costs. Assumes nothing.
use Prim.Native.Nat.{ℕ, zero, suc, ◌+◌, ◌-◌, ◌≤◌}
use mathlib.Core.Path.{◌≡◌, refl, sym, ◌∙◌, ap}
use mathlib.Core.List.{List, [], ◌∷◌, ◌++◌}
use mathlib.Core.Bool.{Bool, true, false, cond}
use native.Mathlib.Omega.{arith}
use lib.Dec.{eqb}
use lib.ListN.{length, replicate, length-append}
use borrow.Author.Tests.{eqb-true, eqb-false, eq-eqb}
use Rattle.leb128.specs.Answer.{Answer, done, within}
use Rattle.leb128.specs.Write.{u64_bytes}
use Rattle.boolean_decoder.specs.Turns.{bool_trace}
use Rattle.boolean_encoder.specs.Ahead.{Flags}
use Rattle.boolean_encoder.specs.Writer.{add_one, counts, counts_bytes, bool_bytes}
use Rattle.boolean_encoder.proofs.Counting.{flags-tail}
use Rattle.boolean_encoder.proofs.Writing.{read_flags}
use Rattle.rewriting.specs.Turning.{Turns, turns, counting, turned_by, turned_all, counted}
use Rattle.rewriting.proofs.Room.{spent-more, none-spent}

-- ---- readings in a row

module _ (room : ℕ) where
  pub turned-append : (c : Turns) (xs ys : List ℕ) → turned_all room c (xs ++ ys) ≡ turned_all room (turned_all room c xs) ys
  unfolding turned_all
  turned-append c [] ys = refl
  turned-append c (b ∷ xs) ys = turned-append (turned_by room c b 1) xs ys

  -- a byte that is held, some times more
  turned-held : (c : Turns) (b m : ℕ) → eqb b c.flag ≡ true → turned_by room c b (suc m) ≡ turns c.used b (c.times + suc m)
  unfolding turned_by
  turned-held c b m e = ap (λ (t : Bool). cond t (turns c.used b (c.times + suc m)) (turns (counting room c) b (suc m))) e

  turned-split : (c : Turns) (b n : ℕ) → turned_by room c b (suc n) ≡ turned_by room (turned_by room c b 1) b n
  unfolding turned_by
  turned-split c b zero = refl
  turned-split c b (suc m) = go (eqb b c.flag)
    where
      n : c.times + suc (suc m) ≡ c.times + 1 + suc m
      n = omega arith

      k : suc (suc m) ≡ 1 + suc m
      k = omega arith

      go : (t : Bool) → cond t (turns c.used b (c.times + suc (suc m))) (turns (counting room c) b (suc (suc m)))
          ≡ turned_by room (cond t (turns c.used b (c.times + 1)) (turns (counting room c) b 1)) b (suc m)
      go true = ap (turns c.used b) n ∙ sym (turned-held (turns c.used b (c.times + 1)) b m (eq-eqb b b refl))
      go false = ap (turns (counting room c) b) k ∙ sym (turned-held (turns (counting room c) b 1) b m (eq-eqb b b refl))

  pub turned-times : (c : Turns) (b n : ℕ) → turned_by room c b n ≡ turned_all room c (replicate n b)
  unfolding turned_by turned_all
  turned-times c b zero = refl
  turned-times c b (suc n) = turned-split c b n ∙ turned-times (turned_by room c b 1) b n

-- ---- a count that is open, in front of the counts of what follows

abbrev plus : ℕ → List ℕ → List ℕ
plus n [] = n ∷ []
plus n (m ∷ ms) = (n + m) ∷ ms

plus-more : (n : ℕ) (ms : List ℕ) → plus (n + 1) ms ≡ plus n (add_one ms)
unfolding add_one
plus-more n [] = refl
plus-more n (m ∷ ms) = let e : n + 1 + m ≡ n + suc m = omega arith in ap (λ (k : ℕ). k ∷ ms) e

plus_one : (ms : List ℕ) → plus 1 ms ≡ add_one ms
unfolding add_one
plus_one [] = refl
plus_one (m ∷ ms) = let e : 1 + m ≡ suc m = omega arith in ap (λ (k : ℕ). k ∷ ms) e

plus_none : (b flag : ℕ) (xs : List ℕ) → plus 0 (counts flag (b ∷ xs)) ≡ counts flag (b ∷ xs)
unfolding counts add_one
plus_none b flag xs = go (eqb b flag) (counts flag xs)
  where
    zeroed : (ms : List ℕ) → plus 0 (add_one ms) ≡ add_one ms
    zeroed [] = refl
    zeroed (m ∷ ms) = let e : 0 + suc m ≡ suc m = omega arith in ap (λ (k : ℕ). k ∷ ms) e

    go : (t : Bool) (ms : List ℕ) → plus 0 (cond t (add_one ms) (0 ∷ add_one (counts (1 - flag) xs))) ≡ cond t (add_one ms) (0 ∷ add_one (counts (1 - flag) xs))
    go true ms = zeroed ms
    go false ms = refl

module _ (room : ℕ) where
  count-rest : (k flag times : ℕ) (used : Answer) (xs : List ℕ) → flag ≤ 1 → Flags xs → used ≡ within 10 room (done k)
      → counting room (turned_all room (turns used flag times) xs) ≡ within 10 room (done (k + length (counts_bytes (plus times (counts flag xs)))))
  unfolding turned_all turned_by counts counts_bytes
  count-rest k flag times used [] l h e =
      let n : length (u64_bytes times) ≡ length (u64_bytes times ++ []) = omega (arith, length-append (u64_bytes times) []) in
      spent-more room k (length (u64_bytes times)) used e ∙ ap (λ (m : ℕ). within 10 room (done (k + m))) n
  count-rest k flag times used (b ∷ xs) l h e =
      go (eqb b flag) refl (λ k' times' used' e'. count-rest k' b times' used' xs (h 0 (omega arith)) (flags-tail b xs h) e')
    where
      go : (t : Bool) → eqb b flag ≡ t
          → ((k' times' : ℕ) (used' : Answer) → used' ≡ within 10 room (done k')
          → counting room (turned_all room (turns used' b times') xs) ≡ within 10 room (done (k' + length (counts_bytes (plus times' (counts b xs))))))
          → counting room (turned_all room (cond t (turns used b (times + 1)) (turns (counting room (turns used flag times)) b 1)) xs)
          ≡ within 10 room (done (k + length (counts_bytes (plus times (cond t (add_one (counts flag xs)) (0 ∷ add_one (counts (1 - flag) xs)))))))
      go true d r =
          let q : b ≡ flag = eqb-true b flag d in
          r k (times + 1) used e
          ∙ ap (λ (f : ℕ). within 10 room (done (k + length (counts_bytes (plus (times + 1) (counts f xs)))))) q
          ∙ ap (λ (ms : List ℕ). within 10 room (done (k + length (counts_bytes ms)))) (plus-more times (counts flag xs))
      go false d r =
          let ne : b ≡ flag → ⊥ = eqb-false b flag d in
          let q : b ≡ 1 - flag = omega (arith, h 0 (omega arith)) in
          let size = length (u64_bytes times) in
          let ms = add_one (counts (1 - flag) xs) in
          let z : times ≡ times + 0 = omega arith in
          let n : k + size + length (counts_bytes ms) ≡ k + length (u64_bytes times ++ counts_bytes ms) =
          omega (arith, length-append (u64_bytes times) (counts_bytes ms)) in
          r (k + size) 1 (counting room (turns used flag times)) (spent-more room k size used e)
          ∙ ap (λ (f : ℕ). within 10 room (done (k + size + length (counts_bytes (plus 1 (counts f xs)))))) q
          ∙ ap (λ (ms : List ℕ). within 10 room (done (k + size + length (counts_bytes ms)))) (plus_one (counts (1 - flag) xs))
          ∙ ap (λ (m : ℕ). within 10 room (done m)) n
          ∙ ap (λ (t : ℕ). within 10 room (done (k + length (u64_bytes t ++ counts_bytes ms)))) z

  -- THE COUNTS: a list fed from the beginning comes to the bytes of its column
  pub counted-whole : (xs : List ℕ) → Flags xs → counted room (length xs) (turned_all room (turns (done 0) 0 0) xs) ≡ within 10 room (done (length (bool_bytes xs)))
  unfolding counted bool_bytes counts counts_bytes
  counted-whole [] h = none-spent room
  counted-whole (b ∷ xs) h =
      let e : 0 + length (counts_bytes (plus 0 (counts 0 (b ∷ xs)))) ≡ length (counts_bytes (plus 0 (counts 0 (b ∷ xs)))) = omega arith in
      count-rest 0 0 0 (done 0) (b ∷ xs) (omega arith) h (none-spent room)
      ∙ ap (λ (m : ℕ). within 10 room (done m)) e
      ∙ ap (λ (ms : List ℕ). within 10 room (done (length (counts_bytes ms)))) (plus_none b 0 xs)

  -- and so what a boolean column reads as
  pub counted-trace : (s : List ℕ) → counted room (length (bool_trace s).readings) (turned_all room (turns (done 0) 0 0) (bool_trace s).readings)
      ≡ within 10 room (done (length (bool_bytes (bool_trace s).readings)))
  counted-trace s = counted-whole (bool_trace s).readings (read_flags s)
