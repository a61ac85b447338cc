-- Reading rows: what they end in, all of them read or the first that does not; what holds at the head of read_rows's loop, and one law for each way out. Assumes nothing.
use mathlib.Core.Path.{◌≡◌, refl, ap}
use mathlib.Core.List.{List, [], ◌∷◌, append-nil}
use Prim.Native.Nat.{ℕ, zero, suc, ◌+◌, ◌-◌, ◌≤◌, ◌<◌}
use native.Mathlib.Omega.{arith}
use lib.ListN.{length, set, replicate}
use Rattle.std.specs.Prelude.{Ok, Err}
use Rattle.refusal.specs.Number.{number_of}
use Rattle.refusal.specs.declared.Refusal.{Refusal}
use Rattle.leb128.specs.Got.{Got, got, bad}
use Rattle.leb128.specs.Read.{u64_at, u32_at}
use Rattle.leb128.proofs.Laws.{u64-next}
use Rattle.raw_column.specs.Table.{Tab, tab, faulty, with_number, with_row, rows_at}
use Rattle.raw_column.specs.Rows.{Taken}
use Rattle.raw_column.specs.declared.Row.{Row}
use Rattle.raw_column.proofs.Opening.{Going, going_start, going-bad, going-turn}
use Rattle.table_reason.specs.Rows.{WasRead}
use Rattle.table_reason.specs.TableReason.{passed, rows_read}
use Rattle.table_reason.specs.True.{RowBad, bad_spec, bad_len, RowUnread}

-- ---- what n rows from p on end in, k of them having read
abbrev pub RowsEnd : List ℕ → ℕ → ℕ → ℕ → Tab → Type 0
RowsEnd s n p k (tab specs lens next) = (length specs ≡ n) × (length lens ≡ n) × (p ≤ length s → next ≤ length s)
RowsEnd s n p k (faulty number place) = RowUnread s n p k number place

row_on : (s : List ℕ) (n p k spec q len r : ℕ) (t : Tab) → u32_at s p ≡ got spec q → u64_at s q ≡ got len r → RowsEnd s n r k t
    → RowsEnd s (suc n) p (suc k) (with_row spec len t)
unfolding rows_at
row_on s n p k spec q len r (tab specs lens next) e f h = (ap suc h.0, ap suc h.1, λ b. h.2 (u64-next s q len r f).1)
row_on s n p k spec q len r (faulty number place) e f h =
    record {
      due = omega (arith, h.due);
      specs = spec ∷ h.specs;
      lens = len ∷ h.lens;
      begins = h.begins;
      many = ap suc h.many;
      before = rw (e, f, h.before);
      refused = h.refused;
    }

pub rows_end : (s : List ℕ) (n p : ℕ) → RowsEnd s n p (rows_read n s p) (rows_at n s p)
unfolding rows_at rows_read
rows_end s zero p = (refl, refl, λ b. b)
rows_end s (suc n) p = go (u32_at s p) refl (rows_end s n)
  where
    none_before : (number place : ℕ) → RowBad s p number place → RowUnread s (suc n) p 0 number place
    none_before number place b = record { due = omega arith; specs = []; lens = []; begins = p; many = refl; before = refl; refused = b }

    behind : (spec q : ℕ) (g : Got ℕ) → u32_at s p ≡ got spec q → u64_at s q ≡ g → ((r : ℕ) → RowsEnd s n r (rows_read n s r) (rows_at n s r))
        → RowsEnd s (suc n) p (passed g (λ len r. suc (rows_read n s r))) (with_number g (λ len r. with_row spec len (rows_at n s r)))
    behind spec q (got len r) e f h = row_on s n p (rows_read n s r) spec q len r (rows_at n s r) e f (h r)
    behind spec q (bad number place) e f h = none_before number place (bad_len e f)

    go : (g : Got ℕ) → u32_at s p ≡ g → ((r : ℕ) → RowsEnd s n r (rows_read n s r) (rows_at n s r))
        → RowsEnd s (suc n) p (passed g (λ spec q. passed (u64_at s q) (λ len r. suc (rows_read n s r))))
        (with_number g (λ spec q. with_number (u64_at s q) (λ len r. with_row spec len (rows_at n s r))))
    go (got spec q) e h = behind spec q (u64_at s q) e refl h
    go (bad number place) e h = none_before number place (bad_spec e)

-- ---- read_rows
pub record Reading (s : List ℕ) (at n : ℕ) (specs lens : List ℕ) (i p : ℕ) : Type 0 where
  pub going : Going s at n specs lens i p
  pub read : i + rows_read (n - i) s p ≡ rows_read n s at

pub reading-start : (s : List ℕ) (at n : ℕ) → Reading s at n (replicate 64 0) (replicate 64 0) 0 at
reading-start s at n =
    let e : n - 0 ≡ n = omega arith in
    let r : rows_read (n - 0) s at ≡ rows_read n s at = rw e in
    record { going = going_start s at n; read = omega arith }

less : (n i : ℕ) → i < n → n - i ≡ suc (n - (i + 1))
less n i h = omega arith

-- ---- a row is one that reads, or none: how many rows read behind it
abbrev next_in : Tab → ℕ
next_in (tab specs lens next) = next
next_in (faulty number place) = 0

row-none : (s : List ℕ) (p n : ℕ) {number place : ℕ} → ((k : ℕ) → rows_at (suc k) s p ≡ faulty number place) → rows_read (suc n) s p ≡ 0
unfolding rows_at rows_read
row-none s p n {number} {place} h = go (u32_at s p) (h 0)
  where
    behind : (spec : ℕ) (g : Got ℕ) → with_number g (λ len r. tab (spec ∷ []) (len ∷ []) r) ≡ faulty number place
        → passed g (λ len r. suc (rows_read n s r)) ≡ 0
    behind spec (got len r) e = cc
    behind spec (bad number place) e = refl

    go : (g : Got ℕ) → with_number g (λ spec q. with_number (u64_at s q) (λ len r. tab (spec ∷ []) (len ∷ []) r)) ≡ faulty number place
        → passed g (λ spec q. passed (u64_at s q) (λ len r. suc (rows_read n s r))) ≡ 0
    go (got spec q) e = behind spec (u64_at s q) e
    go (bad number place) e = refl

row-one : (s : List ℕ) (p n : ℕ) (r : Row) → Taken s p r → rows_read (suc n) s p ≡ suc (rows_read n s r.next)
unfolding rows_at rows_read
row-one s p n row h = go (u32_at s p) (h.2 0)
  where
    behind : (spec : ℕ) (g : Got ℕ) → with_number g (λ len r. tab (spec ∷ []) (len ∷ []) r) ≡ tab (row.spec ∷ []) (row.len ∷ []) row.next
        → passed g (λ len r. suc (rows_read n s r)) ≡ suc (rows_read n s row.next)
    behind spec (got len r) e = ap (λ (k : ℕ). suc (rows_read n s k)) (ap next_in e)
    behind spec (bad number place) e = cc

    go : (g : Got ℕ) → with_number g (λ spec q. with_number (u64_at s q) (λ len r. tab (spec ∷ []) (len ∷ []) r)) ≡ tab (row.spec ∷ []) (row.len ∷ []) row.next
        → passed g (λ spec q. passed (u64_at s q) (λ len r. suc (rows_read n s r))) ≡ suc (rows_read n s row.next)
    go (got spec q) e = behind spec (u64_at s q) e
    go (bad number place) e = cc

module _ {s : List ℕ} {at n : ℕ} {specs lens : List ℕ} {i p : ℕ} (g : Reading s at n specs lens i p) (t : i < n) where
  pub reading-bad : {e : Refusal} → ((k : ℕ) → rows_at (suc k) s p ≡ faulty (number_of e.0) e.1) → WasRead s at n (Err (e, i))
  reading-bad {e} h =
      let z : rows_read (n - i) s p ≡ 0 = rw (less n i t) (row-none s p (n - (i + 1)) h) in
      record { rows = going-bad g.going t h; read = omega (arith, g.read) }

  pub reading-turn : (r : Row) → n ≤ 64 → Taken s p r → Reading s at n (set specs i r.spec) (set lens i r.len) (i + 1) r.next
  reading-turn r h w =
      let z : rows_read (n - i) s p ≡ suc (rows_read (n - (i + 1)) s r.next) = rw (less n i t) (row-one s p (n - (i + 1)) r w) in
      record { going = going-turn g.going t r.spec r.len h w.2; read = omega (arith, g.read) }

-- the answer after the last turn
pub reading-out : {s : List ℕ} {at n : ℕ} {specs lens : List ℕ} {i p : ℕ} → Reading s at n specs lens i p → n ≤ i
    → WasRead s at n (Ok (record { specs = specs; lens = lens; next = p }))
unfolding rows_at
reading-out {s} {at} {n} {specs} {lens} {i} {p} g m =
    let z : n - i ≡ 0 = omega arith in
    let e : i ≡ n = omega (arith, g.going.within) in
    record { rows = rw (← g.going.rest, z, e) (simp append-nil); read = tt }
