-- WHAT IS AT FAULT IN A RUN, over any element: a run that falls has an unreadable count, an unreadable second number, a count that passes the limit, or an unreadable value, and
-- that stands where the bytes say. Assumes nothing.
use Prim.Native.Nat.{ℕ, zero, suc, ◌+◌, ◌≤◌, ◌<◌}
use mathlib.Core.Path.{◌≡◌, refl, sym, ◌∙◌, ap}
use mathlib.Core.List.{List}
use mathlib.Core.Bool.{Bool, cond}
use native.Mathlib.Omega.{arith}
use lib.Dec.{ltb, leb, eqb}
use lib.IntN.{ℤ, pos, negsuc}
use lib.ListN.{length, drop}
use borrow.Author.Tests.{ltb-true, leb-false, eqb-true, eqb-false}
use Rattle.leb128.specs.Got.{Got, got, bad}
use Rattle.leb128.specs.Read.{u64_at, i64_at}
use Rattle.leb128.proofs.Laws.{i64-next}
use Rattle.encoding.specs.Column.{Reading, Spot, repeated, literal_next, literals, run_of, run_at}
use Rattle.encoding.specs.Element.{Element}
use Rattle.encoding.specs.Head.{Head, amiss, absent_head, begun, head_at}
use Rattle.encoding.specs.Limit.{limit}
use Rattle.encoding.specs.Walk.{Run, off}
use Rattle.encoding.proofs.Elements.{ElementLaws}
use Rattle.encoding.proofs.Lists.{cond-by}
use Rattle.reason.specs.Reason.{bytes, passes, Reason, number_bytes, second, asked}
use Rattle.reason.specs.True.{Broken, Unread, Asks, Values, ValueAt, RunFault}
use Rattle.reason.proofs.Broken.{u64-broken, i64-broken}

-- ---- an unreadable number

-- where a number is refused at the place, the facts are the number of its bytes
abbrev pub Says : {A : Type 0} → (List ℕ → ℕ → Got A) → List ℕ → Reason → Type 0
Says read s r =
    read s r.place ≡ bad r.number r.place → Broken s r.number r.place (number_bytes 0 (drop r.place s)) → r.facts ≡ bytes (number_bytes 0 (drop r.place s))

unread : {A : Type 0} (read : List ℕ → ℕ → Got A) (s : List ℕ) (r : Reason) (q : ℕ) → (r.place ≡ q) × Broken s r.number q (number_bytes 0 (drop q s))
    → Says read s r → read s q ≡ bad r.number r.place → (r.place ≡ q) × Unread read s r
unread read s r q b f e =
    let h : read s r.place ≡ bad r.number r.place = ap (λ (p : ℕ). read s p) b.0 ∙ e in
    let k : Broken s r.number r.place (number_bytes 0 (drop r.place s)) = rw b.0 b.1 in
    (b.0, record { refused = h; there = number_bytes 0 (drop r.place s); facts = f h k; broken = k })

module _ (s : List ℕ) (r : Reason) (q : ℕ) (l : q ≤ length s) where
  pub u64-unread : Says u64_at s r → u64_at s q ≡ bad r.number r.place → (r.place ≡ q) × Unread u64_at s r
  u64-unread f e = unread u64_at s r q (u64-broken s q r.number r.place l e) f e

  pub i64-unread : Says i64_at s r → i64_at s q ≡ bad r.number r.place → (r.place ≡ q) × Unread i64_at s r
  i64-unread f e = unread i64_at s r q (i64-broken s q r.number r.place l e) f e

-- ---- an unreadable value among literal ones

module _ {A : Type 0} (E : Element A) (L : ElementLaws E) (s : List ℕ) (number place : ℕ) where
  -- behind k values from q on, of c
  record Among (c k q : ℕ) : Type 0 where
    at : ℕ
    values : Values E s k q at
    fewer : k < c
    inside : at ≤ length s
    refused : E.read s at ≡ bad number place

  among : (total c q : ℕ) → q ≤ length s → (literals E s total c q).next ≡ off number place → Among c (length (literals E s total c q).readings) q
  unfolding literals literal_next
  among total zero q l e = let z : ◌≡◌ {A = ℕ} 0 1 = cc in absurd (omega arith)
  among total (suc c) q l e = go (E.read s q) refl (λ z. among total c z) e
    where
      go : (g : Got A) → E.read s q ≡ g → ((z : ℕ) → z ≤ length s → (literals E s total c z).next ≡ off number place → Among c (length (literals E s total c z).readings) z)
          → (literal_next q g (λ z. literals E s total c z)).next ≡ off number place
          → Among (suc c) (length (literal_next q g (λ z. literals E s total c z)).readings) q
      go (got a z) h k e =
          let y = k z (L.within s q z a h) e in
          record { at = y.at; values = Values.one h y.values; fewer = omega (arith, y.fewer); inside = y.inside; refused = y.refused }
      go (bad m p) h k e =
          let i : m ≡ number = cc in
          let j : p ≡ place = cc in
          record { at = q; values = Values.none; fewer = omega arith; inside = l; refused = h ∙ rw (i, j) refl }

-- ---- a run

module _ {A : Type 0} (E : Element A) (L : ElementLaws E) (s : List ℕ) (Value : Reason → Type 0) (st : Spot) (r : Reason) (within-limit : st.had ≤ limit)
    (five : r.number ≡ 5 → r.facts ≡ passes st.had (asked s (i64_at s st.at)))
    (signed-says : Says i64_at s r) (unsigned-says : Says u64_at s r)
    (value-fault : (q : ℕ) → q ≤ length s → E.read s q ≡ bad r.number r.place → (r.place ≡ q) × Value r) where
  abbrev Told : Run (Reading A) Spot → Type 0
  Told x = x.next ≡ off r.number r.place → RunFault E s Value (length x.readings) st r

  abbrev ToldHead : Head → Type 0
  ToldHead h = Told (run_of E s st.had h)

  -- a count that is judged
  judged-told : (c p : ℕ) (h : Head) → Asks s st.at c p → asked s (i64_at s st.at) ≡ c → ToldHead h → ToldHead (cond (leb (st.had + c) limit) h (amiss 5 p))
  unfolding run_of
  judged-told c p h a e k =
      cond-by ToldHead (leb (st.had + c) limit) (λ t. k)
      (λ t o.
      let m : 5 ≡ r.number = cc in
      let j : p ≡ r.place = cc in
      RunFault.many refl (sym m) (five (sym m) ∙ ap (passes st.had) e) (rw j at a) within-limit (leb-false (st.had + c) limit t))

  repeat-told : (c q : ℕ) → 0 < c → q ≤ length s → i64_at s st.at ≡ got (pos c) q → (g : Got A) → E.read s q ≡ g → Told (repeated st.had c q g)
  unfolding repeated
  repeat-told c q n l e (got a z) h o = let y : ◌≡◌ {A = ℕ} 0 1 = cc in absurd (omega arith)
  repeat-told c q n l e (bad m p) h o =
      let i : m ≡ r.number = cc in
      let j : p ≡ r.place = cc in
      let v = value-fault q l (h ∙ rw (i, j) refl) in
      RunFault.value (ValueAt.repeats (e ∙ ap (got (pos c)) (sym v.0)) n refl) v.1

  literal-told : (c q : ℕ) → q ≤ length s → i64_at s st.at ≡ got (negsuc c) q → ToldHead (Head.literal (suc c) q)
  unfolding run_of
  literal-told c q l e o =
      let y = among E L s r.number r.place (st.had + suc c) (suc c) q l o in
      let v = value-fault y.at y.inside y.refused in
      RunFault.value (ValueAt.literals e (rw v.0 y.values) (omega (arith, y.fewer))) v.1

  absent-told : (q : ℕ) → q ≤ length s → i64_at s st.at ≡ got (pos 0) q → (g : Got ℕ) → u64_at s q ≡ g → asked s (i64_at s st.at) ≡ second g → ToldHead (absent_head st.had q g)
  unfolding absent_head run_of
  absent-told q l e (got c z) h k = judged-told c q (Head.absent c z) (Asks.absents e h) k (λ o. let y : ◌≡◌ {A = ℕ} 0 1 = cc in absurd (omega arith))
  absent-told q l e (bad m p) h k = λ o.
      let i : m ≡ r.number = cc in
      let j : p ≡ r.place = cc in
      let b : u64_at s q ≡ bad r.number r.place = h ∙ rw (i, j) refl in
      let u = u64-unread s r q l unsigned-says b in
      RunFault.second refl (e ∙ ap (got (pos 0)) (sym u.0)) u.1

  begun-told : st.at ≤ length s → (g : Got ℤ) → i64_at s st.at ≡ g → ToldHead (begun s st.at st.had g)
  unfolding begun run_of
  begun-told l (got (negsuc c) q) e = judged-told (suc c) st.at (Head.literal (suc c) q) (Asks.literals refl e refl) (ap (asked s) e) (literal-told c q (i64-next s st.at q (negsuc c) e).1 e)
  begun-told l (bad m p) e = λ o.
      let i : m ≡ r.number = cc in
      let j : p ≡ r.place = cc in
      let b : i64_at s st.at ≡ bad r.number r.place = e ∙ rw (i, j) refl in
      let u = i64-unread s r st.at l signed-says b in
      RunFault.first refl u.0 u.1
  begun-told l (got (pos c) q) e =
      let n = (i64-next s st.at q (pos c) e).1 in
      cond-by ToldHead (eqb c 0)
      (λ t.
      let z : c ≡ 0 = eqb-true c 0 t in
      absent-told q n (e ∙ ap (λ (c : ℕ). got (pos c) q) z) (u64_at s q) refl (ap (asked s) e ∙ ap (λ (t : Bool). cond t (second (u64_at s q)) c) t))
      (λ t.
      let z : c ≡ 0 → ⊥ = eqb-false c 0 t in
      judged-told c st.at (Head.repeat c q) (Asks.repeats refl e (omega arith)) (ap (asked s) e ∙ ap (λ (t : Bool). cond t (second (u64_at s q)) c) t)
      (repeat-told c q (omega arith) n e (E.read s q) refl))

  pub run-fault : Told (run_at E s st)
  unfolding run_at head_at
  run-fault =
      cond-by Told (ltb st.at (length s)) (λ t. let l = ltb-true st.at (length s) t in begun-told (omega arith) (i64_at s st.at) refl)
      (λ t o. let y : ◌≡◌ {A = ℕ} 0 1 = cc in absurd (omega arith))
