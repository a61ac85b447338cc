-- THE REASON OF A TABLE'S FAULT IS TRUE OF THE BYTES: what it says by its facts (`Says`) holds, and its number and place are the ordinary call's. A faulty table has a reason and a
-- sound one has none. Assumes nothing.
use Prim.Native.Nat.{ℕ, zero, suc, ◌-◌, ◌≤◌, ◌<◌}
use mathlib.Core.Path.{◌≡◌, refl, sym, subst, ◌∙◌}
use mathlib.Core.List.{List}
use mathlib.Core.Option.{Option, none, some}
use mathlib.Core.Bool.{Bool, true, false, cond, not}
use native.Mathlib.Omega.{arith}
use lib.Dec.{ltb}
use lib.ListN.{length, get_or}
use borrow.Author.Tests.{ltb-true, ltb-false, not-true, not-false}
use Rattle.leb128.specs.Got.{Got, got, bad}
use Rattle.leb128.specs.Read.{u64_at}
use Rattle.leb128.proofs.Laws.{u64-next}
use Rattle.column_specification.specs.Key.{key}
use Rattle.raw_column.specs.Table.{Tab, tab, faulty, with_number, rows_at, in_order, plain, sum, judged, parse}
use Rattle.table_reason.specs.TableReason.{
  bytes,
  columns,
  falls,
  compressed,
  lengths,
  nowhere,
  TableReason,
  because,
  rows_read,
  first_fall,
  first_compressed,
  fall_at,
  compressed_at,
  judged_reason,
  rows_reason,
  count_reason,
  table_reason,
}
use Rattle.table_reason.specs.True.{
  Unread,
  TooMany,
  AllRead,
  NoneFalls,
  NoneCompressed,
  Falls,
  Compressed,
  Uneven,
  more,
  less,
  Lengths,
  Says,
}
use Rattle.table_reason.proofs.Bytes.{u64-refusal, row-refusal}
use Rattle.table_reason.proofs.Firsts.{prior, FallsAt, fall-none, fall-is, fall-before, compressed-none, compressed-is, compressed-before}
use Rattle.table_reason.proofs.Reading.{RowsEnd, rows_end}

-- ---- a table and its reason: both sound, or a refusal and a reason of it that holds
abbrev Right : List ℕ → Tab → Option TableReason → Type 0
Right s (tab specs lens next) none = Unit {0}
Right s (tab specs lens next) (some r) = ⊥
Right s (faulty number place) none = ⊥
Right s (faulty number place) (some r) = (r.number ≡ number) × (r.place ≡ place) × Says s r r.facts

both_by : {A B : Type 0} (P : A → B → Type 0) (b : Bool) {x y : A} {u v : B} → (b ≡ true → P x u) → (b ≡ false → P y v) → P (cond b x y) (cond b u v)
both_by P true f g = f refl
both_by P false f g = g refl

in_order_lem : (specs : List ℕ) → in_order 0 specs ≡ true → NoneFalls (length specs) specs
in_order_lem specs e i h = fall-before 0 specs (suc i) (omega (arith, fall-none 0 specs e))

not-compressed : (specs : List ℕ) → plain specs ≡ true → NoneCompressed (length specs) specs
not-compressed specs e i h = compressed-before specs i (omega (arith, compressed-none specs e))

module _ (s specs lens : List ℕ) (next : ℕ) (read : AllRead s specs lens next) (within : next ≤ length s) where
  right-12 : (i : ℕ) → FallsAt 0 specs i → ((j : ℕ) → j < i → prior 0 specs j ≤ key (get_or specs j 0)) → Right s (faulty 12 0) (fall_at specs i)
  right-12 zero h b = absurd (omega (arith, h.1))
  right-12 (suc k) h b =
      let e : suc k - 1 ≡ k = omega arith in (
        refl,
        refl,
        record {
          number = refl;
          place = refl;
          specs = specs;
          lens = lens;
          next = next;
          read = read;
          earlier = k;
          names = refl;
          within = h.0;
          before_is = rw e;
          falling_is = refl;
          below = rw e h.1;
          first = λ j l. b (suc j) l;
        },
      )

  module _ (e : in_order 0 specs ≡ true) where
    right-13 : plain specs ≡ false → Right s (faulty 13 0) (compressed_at specs (first_compressed specs))
    right-13 f =
        let c = compressed-is specs f in (
          refl,
          refl,
          record {
            number = refl;
            place = refl;
            specs = specs;
            lens = lens;
            next = next;
            read = read;
            order = in_order_lem specs e;
            index = first_compressed specs;
            names = refl;
            within = c.0;
            is = refl;
            set = c.1;
            first = compressed-before specs;
          },
        )

    right-uneven : (number : ℕ) → plain specs ≡ true → Uneven number (sum lens) (length s - next)
        → Right s (faulty number 0) (because number 0 nowhere (lengths (sum lens) (length s - next)))
    right-uneven number f u = (
      refl,
      refl,
      record {
        place = refl;
        names = refl;
        specs = specs;
        lens = lens;
        next = next;
        read = read;
        order = in_order_lem specs e;
        plain = not-compressed specs f;
        total_is = refl;
        room_is = omega arith;
        uneven = u;
      },
    )

  right-rows : Right s (judged (length s) (tab specs lens next)) (judged_reason (length s) specs lens next)
  right-rows =
      both_by (Right s) (not (in_order 0 specs)) (λ e. right-12 (first_fall 0 specs) (fall-is 0 specs (not-true _ e)) (fall-before 0 specs))
      (λ e. both_by (Right s) (not (plain specs)) (λ f. right-13 (not-false _ e) (not-true _ f))
      (λ f. both_by (Right s) (ltb (length s - next) (sum lens))
      (λ g. right-uneven (not-false _ e) 14 (not-false _ f) (more refl (ltb-true _ _ g)))
      (λ g. both_by (Right s) (ltb (sum lens) (length s - next))
      (λ k. right-uneven (not-false _ e) 15 (not-false _ f) (less refl (ltb-true _ _ k))) (λ k. tt))))

module _ (s : List ℕ) where
  right-read : (n q k : ℕ) (t : Tab) → u64_at s 0 ≡ got n q → n ≤ 64 → rows_at n s q ≡ t → RowsEnd s n q k t → Right s (judged (length s) t) (rows_reason s k t)
  right-read n q k (tab specs lens next) e few f h =
      right-rows s specs lens next (
      record {
        first = q;
        counted = rw h.0 e;
        few = omega (arith, h.0);
        rows = rw h.0 f;
        many = h.1 ∙ sym h.0;
      })
      (h.2 (u64-next s 0 n q e).1)
  right-read n q k (faulty number place) e few f h = (
    refl,
    refl,
    record { unread = record { count = n; first = q; counted = e; few = few; unread = h }; is = refl; broken = row-refusal h.refused },
  )

  right : Right s (parse s) (table_reason s)
  unfolding parse table_reason
  right = go (u64_at s 0) refl
    where
      go : (g : Got ℕ) → u64_at s 0 ≡ g
          → Right s (with_number g (λ n q. cond (ltb 64 n) (faulty 11 0) (judged (length s) (rows_at n s q)))) (count_reason s g)
      go (got n q) e =
          both_by (Right s) (ltb 64 n)
          (λ h. (refl, refl, record { number = refl; place = refl; names = refl; behind = q; counted = e; passes = ltb-true 64 n h }))
          (λ h. right-read n q (rows_read n s q) (rows_at n s q) e (ltb-false 64 n h) refl (rows_end s n q))
      go (bad number place) e = (refl, refl, record { unread = e; is = refl; broken = u64-refusal s 0 number place e })

  -- ---- the theorems

  -- a sound table has no reason
  pub sound_none : {specs lens : List ℕ} {next : ℕ} → parse s ≡ tab specs lens next → table_reason s ≡ none
  sound_none {specs} {lens} {next} e = go (table_reason s) (subst (λ (t : Tab). Right s t (table_reason s)) e right)
    where
      go : (o : Option TableReason) → Right s (tab specs lens next) o → o ≡ none
      go none h = refl
      go (some r) h = absurd h

  -- a faulty one has one
  pub faulty-some : {number place : ℕ} → parse s ≡ faulty number place
      → (r : TableReason) × (table_reason s ≡ some r) × (r.number ≡ number) × (r.place ≡ place)
  faulty-some {number} {place} e = go (table_reason s) refl (subst (λ (t : Tab). Right s t (table_reason s)) e right)
    where
      go : (o : Option TableReason) → table_reason s ≡ o → Right s (faulty number place) o
          → (r : TableReason) × (table_reason s ≡ some r) × (r.number ≡ number) × (r.place ≡ place)
      go none f h = absurd h
      go (some r) f h = (r, f, h.0, h.1)

  module _ {r : TableReason} (e : table_reason s ≡ some r) where
    -- "number and place are the ordinary call's"
    pub refused-so : parse s ≡ faulty r.number r.place
    refused-so = go (parse s) (subst (Right s (parse s)) e right)
      where
        go : (t : Tab) → Right s t (some r) → t ≡ faulty r.number r.place
        go (tab specs lens next) h = absurd h
        go (faulty number place) h = cc

    pub says-true : Says s r r.facts
    says-true = go (parse s) (subst (Right s (parse s)) e right)
      where
        go : (t : Tab) → Right s t (some r) → Says s r r.facts
        go (tab specs lens next) h = absurd h
        go (faulty number place) h = h.2

    -- a kind of fault each: a number that does not read, 11, 12, 13, and 14 and 15
    pub unread-true : {n : ℕ} → r.facts ≡ bytes n → Unread s r n
    unread-true f = subst (Says s r) f says-true

    pub eleven-true : {n : ℕ} → r.facts ≡ columns n → TooMany s r n
    eleven-true f = subst (Says s r) f says-true

    pub twelve-true : {a b : ℕ} → r.facts ≡ falls a b → Falls s r a b
    twelve-true f = subst (Says s r) f says-true

    pub thirteen-true : {a : ℕ} → r.facts ≡ compressed a → Compressed s r a
    thirteen-true f = subst (Says s r) f says-true

    pub lengths-true : {total room : ℕ} → r.facts ≡ lengths total room → Lengths s r total room
    lengths-true f = subst (Says s r) f says-true
