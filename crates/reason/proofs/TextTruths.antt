-- THE REASON OF A TEXT COLUMN IS TRUE. A value is refused as its length number is, where bytes of the name are missing, or where they are not UTF-8. Assumes nothing.
use Prim.Native.Nat.{ℕ, ◌+◌, ◌-◌, ◌≤◌, min}
use mathlib.Core.Logic.{◌⊎◌, inl, inr}
use mathlib.Core.Path.{◌≡◌, refl, ◌∙◌, ap}
use mathlib.Core.List.{List}
use mathlib.Core.Bool.{Bool, true, false, cond}
use native.Mathlib.Omega.{arith}
use lib.Dec.{leb}
use lib.ListN.{length, drop}
use borrow.Author.Tests.{leb-true, leb-false, eq-eqb, ne_eqb}
use Rattle.leb128.specs.Digits.{Digits, whole, broken, digits}
use Rattle.leb128.specs.Got.{Got, got, bad}
use Rattle.leb128.specs.Read.{signed_of, s_large, s_long, unsigned, signed, u64_at, i64_at}
use Rattle.leb128.proofs.Laws.{u64-next}
use Rattle.encoding.specs.Column.{Spot, trace}
use Rattle.encoding.specs.Limit.{limit}
use Rattle.encoding.proofs.Columns.{columns}
use Rattle.utf8.specs.Utf8.{is_utf8}
use Rattle.text.specs.Text.{bytes_at, valued, text_at, text_e}
use Rattle.text.proofs.TextLaws.{text-laws}
use Rattle.reason.specs.Reason.{bytes, name, Reason, number_bytes, named, plain_facts, name_facts, text_reason}
use Rattle.reason.specs.True.{Explained, Broken, ColumnFalls, NameFault, TextTrue}
use Rattle.reason.proofs.Broken.{judged}
use Rattle.reason.proofs.Named.{Faulty}
use Rattle.reason.proofs.RunFaults.{Says, u64-unread, run-fault}
use Rattle.reason.proofs.Truths.{explained, column-named, column-true}

-- bytes that end, within a number or before it, are refused alike by both readers
both_end : (s : List ℕ) (p number place : ℕ) → (number ≡ 2 → ⊥) → (number ≡ 3 → ⊥) → i64_at s p ≡ bad number place → u64_at s p ≡ bad number place
unfolding u64_at i64_at
both_end s p number place a b = go (digits 0 0 (drop p s))
  where
    large-or-long : (number ≡ 2) ⊎ (number ≡ 3) → ⊥
    large-or-long (inl e) = a e
    large-or-long (inr e) = b e

    go : (c : Digits) → signed p (min p (length s)) c ≡ bad number place → unsigned p (min p (length s)) c ≡ bad number place
    go (whole low scale prev last count) e =
        absurd (large-or-long (judged number place (min p (length s)) (p + count) (s_large last count) (s_long prev last count) (signed_of low scale last) e).0)
    go (broken r) e = cc

-- ---- a value

module _ (s : List ℕ) (r : Reason) (unsigned-says : Says u64_at s r) (by_name : (r.number ≡ 1) ⊎ (r.number ≡ 20) → r.facts ≡ named s r.place (u64_at s r.place)) where
  -- behind a length number that reads
  name-there : (q n z : ℕ) → r.place ≡ q → u64_at s q ≡ got n z → (r.number ≡ 1) ⊎ (r.number ≡ 20) → (u64_at s r.place ≡ got n z) × (r.facts ≡ name n (length s - z))
  name-there q n z p e w = let h : u64_at s r.place ≡ got n z = ap (u64_at s) p ∙ e in (h, by_name w ∙ ap (named s r.place) h)

  pub name-fault : (q : ℕ) → q ≤ length s → text_e.read s q ≡ bad r.number r.place → (r.place ≡ q) × NameFault s r
  unfolding text_at
  name-fault q l = go (u64_at s q) refl
    where
      judged : (n z : ℕ) → u64_at s q ≡ got n z → (t u : Bool) → leb (z + n) (length s) ≡ t → is_utf8 (bytes_at s z n) ≡ u
          → cond t (cond u (got (bytes_at s z n) (z + n)) (bad 20 q)) (bad 1 q) ≡ bad r.number r.place → (r.place ≡ q) × NameFault s r
      judged n z e true true f g h = let y : ◌≡◌ {A = ℕ} 0 1 = cc in absurd (omega arith)
      judged n z e true false f g h =
          let m : r.number ≡ 20 = cc in
          let p : r.place ≡ q = cc in
          let y = name-there q n z p e (inr m) in
          let b = u64-next s q n z e in
          (p, NameFault.characters m y.1 y.0 (omega (arith, b.1)) (omega (arith, b.1, leb-true (z + n) (length s) f)) g)
      judged n z e false u f g h =
          let m : r.number ≡ 1 = cc in
          let p : r.place ≡ q = cc in
          let y = name-there q n z p e (inl m) in
          let b = u64-next s q n z e in
          (p, NameFault.cut m y.1 y.0 (omega (arith, b.1)) (omega (arith, b.1, leb-false (z + n) (length s) f)))

      go : (g : Got ℕ) → u64_at s q ≡ g → valued s q g ≡ bad r.number r.place → (r.place ≡ q) × NameFault s r
      go (got n z) e h = judged n z e (leb (z + n) (length s)) (is_utf8 (bytes_at s z n)) refl refl h
      go (bad m k) e h =
          let i : m ≡ r.number = cc in
          let j : k ≡ r.place = cc in
          let u = u64-unread s r q l unsigned-says (e ∙ rw (i, j) refl) in
          (u.0, NameFault.size u.1)

-- ---- a text column

module _ (s : List ℕ) where
  module _ (r : Reason) (st : Spot) (f : r.facts ≡ name_facts s r.number r.place st) where
    -- the facts of 1 and 20
    by_name : (r.number ≡ 1) ⊎ (r.number ≡ 20) → r.facts ≡ named s r.place (u64_at s r.place)
    by_name (inl e) = f ∙ rw e refl
    by_name (inr e) = f ∙ rw e refl

    -- and of other numbers
    plainly : (r.number ≡ 1 → ⊥) → (r.number ≡ 20 → ⊥) → r.facts ≡ plain_facts s r.number r.place st
    plainly a b = f ∙ rw (ne_eqb r.number 1 a, ne_eqb r.number 20 b) refl

    as_bytes : (r.number ≡ 1 → ⊥) → (r.number ≡ 20 → ⊥) → (r.number ≡ 5 → ⊥) → r.facts ≡ bytes (number_bytes 0 (drop r.place s))
    as_bytes a b c = plainly a b ∙ rw (ne_eqb r.number 5 c) refl

    -- a number that is refused: where its bytes end within it, neither reader reads it
    says : (r.number ≡ 1 → u64_at s r.place ≡ bad r.number r.place) → {n : ℕ} → Broken s r.number r.place n
        → r.facts ≡ bytes (number_bytes 0 (drop r.place s))
    says h (Broken.cut e x y z w) = by_name (inl e) ∙ ap (named s r.place) (h e)
    says h (Broken.none e x y) = as_bytes (λ i. omega arith) (λ i. omega arith) (λ i. omega arith)
    says h (Broken.whole (inl e) x y z w v) = as_bytes (λ i. omega arith) (λ i. omega arith) (λ i. omega arith)
    says h (Broken.whole (inr e) x y z w v) = as_bytes (λ i. omega arith) (λ i. omega arith) (λ i. omega arith)

    name-falls : Faulty (columns text_e text-laws s) r.index r.number r.place st → st.had ≤ limit → ColumnFalls text_e s (NameFault s) st r
    name-falls y l =
        record {
          falls = y.0;
          index = y.1;
          fault =
              run-fault text_e text-laws s (NameFault s) st r l (λ e. plainly (λ i. omega arith) (λ i. omega arith) ∙ rw (eq-eqb r.number 5 e) refl)
              (λ e b. says (λ i. both_end s r.place r.number r.place (λ j. omega arith) (λ j. omega arith) e) b)
              (λ e b. says (λ i. e) b) (name-fault s r (λ e b. says (λ i. e) b) by_name) y.0;
        }

  pub text-true : Explained (trace text_e s) (text_reason s) (TextTrue s)
  unfolding text_reason
  text-true =
      let n = length (trace text_e s).readings in
      explained (trace text_e s) _ (TextTrue s)
      (λ number place e.
      column-true text_e text-laws s (trace text_e s) (name_facts s number place) number place (Faulty (columns text_e text-laws s) n number place) _
      (column-named text_e text-laws s number place n e refl) e (λ k st. name-falls _ st refl))
