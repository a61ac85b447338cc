-- A log followed in slots. A loop that goes entry by entry holds, at each position, the list after so many entries as came before it (`Going`): its
-- start, its turn and its end. Assumes nothing.
use Prim.Native.Nat.{ℕ, zero, suc, ◌+◌, ◌-◌, ◌≤◌, ◌<◌, max}
use mathlib.Core.Path.{◌≡◌, refl, sym, ap, ◌∙◌}
use mathlib.Core.List.{List, [], ◌∷◌, ◌++◌, append_assoc, map}
use mathlib.Core.Option.{Option, none, some}
use native.Mathlib.Omega.{arith}
use lib.IntN.{ℤ, pos}
use lib.ListN.{length, take, drop, replicate, length-map, take-append-drop, replicate-append-replicate}
use lib.Seq.{take_at, drop-append-add, drop-drop, length-take-le}
use Rattle.leb128.specs.Answer.{Answer, done, refused}
use Rattle.leb128.specs.Got.{Got, got, bad}
use Rattle.encoding.specs.Limit.{limit}
use Rattle.encoding.specs.Walk.{Ending, sound, fault, Trace, before, outcome_of}
use Rattle.slots.specs.Splice.{spliced, in_slots}
use Rattle.slots.proofs.Splicing.{map-spliced}
use Rattle.splice.specs.Contract.{slot_in, flag_in}
use Rattle.pen_log.specs.Entry.{Entry, applied, entry_at}
use Rattle.pen_log.specs.Following.{Fits, Applied, list_in, Ready, Followed}
use Rattle.pen_log.specs.Lengths.{length_after, entry_judged, on_length, lengths_judged, judged_from}
use Rattle.pen_log.specs.Log.{Placed, placed, ended, on_entry, entries_from, entries, all_applied, longest, list_after}
use Rattle.pen_log.specs.Spans.{start_of, end_of, new_of, SpanOf}
use Rattle.pen_log.specs.declared.Span.{Span}
use Rattle.pen_log.proofs.Bytes.{entry-within}
use Rattle.pen_log.proofs.Judging.{start-end, few-new, GoodEntry, entry-good, entries-on, entries-end, applied-is, applied-length}

-- ---- slots that hold a list and zeros behind it, spliced once more

zeros-left : (len most n : ℕ) → len ≤ most → len - n + (most - len - (n - len)) ≡ max most n - n
zeros-left len most n h = omega arith

max-twice : (most n : ℕ) → max most n ≡ max (max most n) n
max-twice most n = omega arith

behind-zeros : (len most n : ℕ) → len ≤ most → most + (n - len - (most - len)) ≡ max (max most n) n
behind-zeros len most n h = let e : most + (n - len - (most - len)) ≡ max most n = omega arith in e ∙ max-twice most n

module _ {A : Type 0} (z : A) where
  drop-zeros : (k a m : ℕ) (v : List A) → drop k (replicate a z ++ drop m v) ≡ replicate (a - k) z ++ drop (m + (k - a)) v
  drop-zeros zero a m v =
      let e : a ≡ a - 0 = omega arith in
      let f : m ≡ m + (0 - a) = omega arith in
      ap (λ (n : ℕ). replicate n z ++ drop m v) e ∙ ap (λ (n : ℕ). replicate (a - 0) z ++ drop n v) f
  drop-zeros (suc k) zero m v =
      let e : 0 ≡ 0 - suc k = omega arith in
      let f : m + suc k ≡ m + (suc k - 0) = omega arith in
      drop-drop (suc k) m v ∙ ap (λ (n : ℕ). drop n v) f ∙ ap (λ (n : ℕ). replicate n z ++ drop (m + (suc k - 0)) v) e
  drop-zeros (suc k) (suc a) m v =
      let e : a - k ≡ suc a - suc k = omega arith in
      let f : m + (k - a) ≡ m + (suc k - suc a) = omega arith in
      drop-zeros k a m v ∙ ap (λ (n : ℕ). replicate n z ++ drop (m + (k - a)) v) e ∙ ap (λ (n : ℕ). replicate (suc a - suc k) z ++ drop n v) f

  module _ (v : List A) (most len start end : ℕ) (xs new : List A) (l : length xs ≡ len) (h : len ≤ most) where
    pub in_held : {v₁ v₂ : List A} → v₁ ≡ in_slots z v most xs → v₂ ≡ in_slots z v₁ len (spliced (take len v₁) start end new)
        → v₂ ≡ in_slots z v (max most (length (spliced xs start end new))) (spliced xs start end new)
    in_held {v₁} {v₂} a b =
        let Y = spliced xs start end new in
        let n = length Y in
        let R = replicate (most - len) z ++ drop most v in
        let c : v₁ ≡ xs ++ R =
        a ∙ ap (λ (k : ℕ). xs ++ (replicate (most - k) z ++ drop (max most k) v)) l
        ∙ ap (λ (k : ℕ). xs ++ (replicate (most - len) z ++ drop k v)) (the-most len h) in
        let t : take len v₁ ≡ xs = ap (take len) c ∙ take_at xs R len l in
        let k : max len n ≡ length xs + (n - len) = omega arith in
        let w : drop (max len n) v₁ ≡ replicate (most - len - (n - len)) z ++ drop (most + (n - len - (most - len))) v =
        ap (drop (max len n)) c ∙ ap (λ (j : ℕ). drop j (xs ++ R)) k ∙ drop-append-add xs R (n - len) ∙ drop-zeros (n - len) (most - len) most v in
        let e = zeros-left len most n h in
        let f = behind-zeros len most n h in
        b ∙ ap (λ (x : List A). in_slots z v₁ len (spliced x start end new)) t
        ∙ ap (λ (x : List A). Y ++ (replicate (len - n) z ++ x)) w
        ∙ ap (λ (x : List A). Y ++ x) (sym (append_assoc (replicate (len - n) z) (replicate (most - len - (n - len)) z) (drop (most + (n - len - (most - len))) v)))
        ∙ ap (λ (x : List A). Y ++ (x ++ drop (most + (n - len - (most - len))) v)) (replicate-append-replicate (len - n) (most - len - (n - len)) z)
        ∙ ap (λ (j : ℕ). Y ++ (replicate j z ++ drop (most + (n - len - (most - len))) v)) e
        ∙ ap (λ (j : ℕ). Y ++ (replicate (max most n - n) z ++ drop j v)) f
      where
        the-most : (k : ℕ) → k ≤ most → max most k ≡ most
        the-most k g = omega arith

-- ---- one entry more

take_more : {A : Type 0} (k : ℕ) (es : List A) {x : A} {r : List A} → drop k es ≡ x ∷ r → (take (suc k) es ≡ take k es ++ (x ∷ [])) × (drop (suc k) es ≡ r)
take_more zero [] q = let z : ◌≡◌ {A = ℕ} 0 1 = cc in absurd (omega arith)
take_more zero (y ∷ es) {x} {r} q =
    let a : y ≡ x = cc in
    let b : es ≡ r = cc in
    (ap (λ e. e ∷ []) a, b)
take_more (suc k) [] q = let z : ◌≡◌ {A = ℕ} 0 1 = cc in absurd (omega arith)
take_more (suc k) (y ∷ es) q = let w = take_more k es q in (ap (λ l. y ∷ l) w.0, w.1)

take_whole : {A : Type 0} (k : ℕ) (es : List A) → drop k es ≡ [] → take k es ≡ es
take_whole zero [] q = refl
take_whole zero (y ∷ es) q = let z : ◌≡◌ {A = ℕ} 0 1 = cc in absurd (omega arith)
take_whole (suc k) [] q = refl
take_whole (suc k) (y ∷ es) q = ap (λ l. y ∷ l) (take_whole k es q)

applied-more : (es : List Placed) (x : Placed) (xs : List (Option ℤ)) → all_applied (es ++ (x ∷ [])) xs ≡ applied x.entry (all_applied es xs)
unfolding all_applied
applied-more [] x xs = refl
applied-more (e ∷ es) x xs = applied-more es x (applied e.entry xs)

longest-more : (es : List Placed) (x : Placed) (xs : List (Option ℤ)) → longest (es ++ (x ∷ [])) xs ≡ max (longest es xs) (length (applied x.entry (all_applied es xs)))
unfolding all_applied longest
longest-more [] x xs = refl
longest-more (e ∷ es) x xs =
    let ys = applied e.entry xs in
    let r = longest-more es x ys in
    let t : max (length xs) (max (longest es ys) (length (applied x.entry (all_applied es ys)))) ≡ max (max (length xs) (longest es ys)) (length (applied x.entry (all_applied es ys))) = omega arith in
    ap (max (length xs)) r ∙ t

pub last-longest : (es : List Placed) (xs : List (Option ℤ)) → length (all_applied es xs) ≤ longest es xs
unfolding all_applied longest
last-longest [] xs = omega arith
last-longest (e ∷ es) xs = omega (arith, last-longest es (applied e.entry xs))

-- what is judged good of an entry and the rest
record Onwards (slots n : ℕ) (e : Entry) (es : List Placed) (end : Ending) (final : ℕ) : Type 0 where
  m : ℕ
  entry : GoodEntry slots n e m
  rest : lengths_judged slots m es end ≡ done final

onwards : (slots n : ℕ) (e : Placed) (es : List Placed) (end : Ending) (final : ℕ) → lengths_judged slots n (e ∷ es) end ≡ done final
    → Onwards slots n e.entry es end final
unfolding lengths_judged
onwards slots n e es end final q = go (entry_judged slots n e.entry e.place) refl q
  where
    go : (a : Answer) → entry_judged slots n e.entry e.place ≡ a → on_length a (λ k. lengths_judged slots k es end) ≡ done final → Onwards slots n e.entry es end final
    go (done k) w q = record { m = k; entry = entry-good slots n e.entry e.place k w; rest = q }
    go (refused number place) w q = let z : ◌≡◌ {A = ℕ} 0 1 = cc in absurd (omega arith)

-- ---- the loop

module _ (log : List ℕ) (X : List (Option ℤ)) (v₀ : List ℤ) (p₀ : List ℕ) where
  abbrev es : List Placed
  es = (entries log).readings

  -- behind `count` entries, at a position of the log: the slots v and p hold the list after so many, of `len` readings
  pub record Going (final : ℕ) (v : List ℤ) (p : List ℕ) (at len : ℕ) : Type 0 where
    pub count : ℕ
    pub to-come : entries_from log at ≡ record { readings = drop count es; ending = (entries log).ending }
    pub good : judged_from (length v₀) len (entries_from log at) ≡ done final
    pub long : len ≡ length (list_after count es X)
    pub few : len ≤ limit
    pub roomy : longest (take count es) X ≤ length v₀
    pub values : v ≡ in_slots (pos 0) v₀ (longest (take count es) X) (map (slot_in (pos 0)) (list_after count es X))
    pub flags : p ≡ in_slots 0 p₀ (longest (take count es) X) (map flag_in (list_after count es X))
    pub even : length v ≡ length v₀
    pub paired : length p ≡ length v₀

  module _ {final : ℕ} {v : List ℤ} {p : List ℕ} {at len : ℕ} (G : Going final v p at len) (h : at < length log) {sp : Span} (S : SpanOf sp (entry_at log at)) where
    abbrev e : Entry
    e = S.entry

    here : entries_from log at ≡ before (placed e at ∷ []) (entries_from log sp.next)
    here = entries-on log at h ∙ ap (λ (g : Got Entry). on_entry at g (entries_from log)) S.is

    ahead : Onwards (length v₀) len e (entries_from log sp.next).readings (entries_from log sp.next).ending final
    ahead =
        onwards (length v₀) len (placed e at) (entries_from log sp.next).readings (entries_from log sp.next).ending final
        (sym (ap (judged_from (length v₀) len) here) ∙ G.good)

    len-most : len ≤ longest (take G.count es) X
    len-most = omega (arith, G.long, last-longest (take G.count es) X)

    pub going-fits : Fits sp len (length v) (length p)
    going-fits =
        let g = ahead.entry in
        let s = S.span in
        record {
          ordered = omega (arith, s.start, s.end, start-end e);
          within = omega (arith, s.end, g.within);
          one = omega (arith, s.many, few-new e);
          few = G.few;
          old_fits = omega (arith, len-most, G.roomy, G.even);
          new_fits = omega (arith, g.long, g.fits, s.start, s.end, s.many, G.even);
          even = G.paired ∙ sym G.even;
        }

    pub going-further : (at < sp.next) × (sp.next ≤ length log)
    going-further = entry-within log at S.is

    module _ {v' : List ℤ} {p' : List ℕ} {r : ℕ} (A : Applied sp len v v' p p' r) where
      abbrev k : ℕ
      k = G.count

      abbrev L : List (Option ℤ)
      L = list_after k es X

      to-come-is : record { readings = drop k es; ending = (entries log).ending } ≡ before (placed e at ∷ []) (entries_from log sp.next)
      to-come-is = sym G.to-come ∙ here

      more : (take (suc k) es ≡ take k es ++ (placed e at ∷ [])) × (drop (suc k) es ≡ (entries_from log sp.next).readings)
      more = take_more k es (ap (λ (t : Trace Placed). t.readings) to-come-is)

      list-more : list_after (suc k) es X ≡ applied e L
      list-more = ap (λ (l : List Placed). all_applied l X) more.0 ∙ applied-more (take k es) (placed e at) X

      most-more : longest (take (suc k) es) X ≡ max (longest (take k es) X) (length (applied e L))
      most-more = ap (λ (l : List Placed). longest l X) more.0 ∙ longest-more (take k es) (placed e at) X

      long-more : length (applied e L) ≡ ahead.m
      long-more = applied-length e L (omega (arith, ahead.entry.within, G.long)) ∙ ap (length_after e) (sym G.long) ∙ sym ahead.entry.long

      -- one slice of slots, by what it holds of a reading
      slice-more : {B : Type 0} (z : B) (f : Option ℤ → B) (w : List B) {w₁ w₂ : List B} (new : List B) → new ≡ map f (new_of e)
          → w₁ ≡ in_slots z w (longest (take k es) X) (map f L) → w₂ ≡ in_slots z w₁ len (spliced (take len w₁) sp.start sp.end new)
          → w₂ ≡ in_slots z w (longest (take (suc k) es) X) (map f (list_after (suc k) es X))
      slice-more z f w {w₁} {w₂} new n a b =
          let s = S.span in
          let q : spliced (map f L) sp.start sp.end new ≡ map f (applied e L) =
          ap (λ l. spliced (map f L) sp.start sp.end l) n ∙ ap (λ (i : ℕ). spliced (map f L) i sp.end (map f (new_of e))) s.start
          ∙ ap (λ (i : ℕ). spliced (map f L) (start_of e) i (map f (new_of e))) s.end ∙ sym (map-spliced f L (start_of e) (end_of e) (new_of e))
          ∙ ap (map f) (sym (applied-is e L)) in
          let c : max (longest (take k es) X) (length (map f (applied e L))) ≡ longest (take (suc k) es) X =
          ap (max (longest (take k es) X)) (length-map (applied e L) f) ∙ sym most-more in
          in_held z w (longest (take k es) X) len sp.start sp.end (map f L) new (length-map L f ∙ sym G.long) len-most a b
          ∙ ap (λ l. in_slots z w (max (longest (take k es) X) (length l)) l) q
          ∙ ap (λ (i : ℕ). in_slots z w i (map f (applied e L))) c
          ∙ ap (λ (l : List (Option ℤ)). in_slots z w (longest (take (suc k) es) X) (map f l)) (sym list-more)

      pub going_on : length v' ≡ length v → length p' ≡ length p → Going final v' p' sp.next r
      going_on x y =
          let g = ahead.entry in
          let s = S.span in
          let n : r ≡ ahead.m = omega (arith, A.long, g.long, s.start, s.end, s.many) in
          record {
            count = suc k;
            to-come =
                ap (λ (l : List Placed). record { readings = l; ending = (entries_from log sp.next).ending }) (sym more.1)
                ∙ ap (λ (d : Ending). record { readings = drop (suc k) es; ending = d }) (sym (ap (λ (t : Trace Placed). t.ending) to-come-is));
            good = ap (λ (i : ℕ). judged_from (length v₀) i (entries_from log sp.next)) n ∙ ahead.rest;
            long = n ∙ sym long-more ∙ ap length (sym list-more);
            few = omega (arith, n, g.few);
            roomy = omega (arith, most-more, long-more, G.roomy, g.fits);
            values = slice-more (pos 0) (slot_in (pos 0)) v₀ (take sp.new (sp.value ∷ [])) s.values G.values A.values;
            flags = slice-more 0 flag_in p₀ (take sp.new (sp.flag ∷ [])) s.flags G.flags A.presence;
            even = x ∙ G.even;
            paired = y ∙ G.paired;
          }

  -- an entry that cannot be read does not come
  pub going-read : {final : ℕ} {v : List ℤ} {p : List ℕ} {at len number place : ℕ} → Going final v p at len → at < length log
      → entry_at log at ≡ bad number place → ⊥
  unfolding lengths_judged outcome_of
  going-read {final} {v} {p} {at} {len} G h q =
      let b = entries-on log at h ∙ ap (λ (g : Got Entry). on_entry at g (entries_from log)) q in
      let c = sym (ap (judged_from (length v₀) len) b) ∙ G.good in
      let z : ◌≡◌ {A = ℕ} 0 1 = cc in
      omega arith

  pub going_done : {final : ℕ} {v : List ℤ} {p : List ℕ} {at len : ℕ} → Going final v p at len → length log ≤ at → Followed log X v₀ v p₀ p len
  going_done {final} {v} {p} {at} {len} G h =
      let k = G.count in
      let d = ap (λ (t : Trace Placed). t.readings) (sym G.to-come ∙ entries-end log at h) in
      let t = take_whole k es d in
      record {
        long = G.long ∙ ap (λ (l : List Placed). length (all_applied l X)) t;
        few = G.few;
        fits = omega (arith, G.long, last-longest (take k es) X, G.roomy);
        values = G.values ∙ ap (λ (l : List Placed). in_slots (pos 0) v₀ (longest l X) (map (slot_in (pos 0)) (all_applied l X))) t;
        presence = G.flags ∙ ap (λ (l : List Placed). in_slots 0 p₀ (longest l X) (map flag_in (all_applied l X))) t;
      }

-- slots that hold the list alone
held-alone : {B : Type 0} (z : B) (f : Option ℤ → B) (xs : List (Option ℤ)) (n : ℕ) (w : List B) → length xs ≡ n → take n w ≡ map f xs
    → w ≡ in_slots z w (length xs) (map f xs)
held-alone z f xs n w l e =
    let a : length xs - length (map f xs) ≡ 0 = omega (arith, length-map xs f) in
    let b : max (length xs) (length (map f xs)) ≡ n = omega (arith, length-map xs f) in
    sym (take-append-drop n w) ∙ ap (λ i. i ++ drop n w) e ∙ sym (rw (a, b))

pub going_start : {log : List ℕ} {old : ℕ} {v : List ℤ} {p : List ℕ} (R : Ready log old v p) → Going log (list_in old v p) v p R.final v p 0 old
unfolding all_applied longest
going_start {log} {old} {v} {p} R =
    let X = list_in old v p in
    let l : length X ≡ old = sym (length-map X (slot_in (pos 0))) ∙ sym (ap length R.values) ∙ length-take-le old v R.fits in
    record {
      count = 0;
      to-come = refl;
      good = R.good;
      long = sym l;
      few = R.few;
      roomy = omega (arith, l, R.fits);
      values = held-alone (pos 0) (slot_in (pos 0)) X old v l R.values;
      flags = held-alone 0 flag_in X old p l R.presence;
      even = refl;
      paired = R.even;
    }
