-- Laws of the list that is written, piece by piece: readings of the old column before the range, the given names, the readings behind the range.
-- Each is one way out of a function of the walk. Assumes nothing.
use Prim.Native.Nat.{ℕ, suc, ◌+◌, ◌-◌, ◌≤◌, ◌<◌}
use mathlib.Core.Path.{◌≡◌, refl, sym, ◌∙◌, ap}
use mathlib.Core.List.{List, [], ◌∷◌, ◌++◌, map, append_assoc}
use mathlib.Core.Option.{Option}
use native.Mathlib.Omega.{arith}
use lib.ListN.{length, take, drop, replicate, length-replicate, length-map}
use lib.Seq.{take-append-add, drop-append-add}
use Rattle.leb128.specs.Answer.{done}
use Rattle.encoding.specs.Walk.{Ending, sound, fault, Trace, outcome_of, outcome}
use Rattle.encoding.specs.Column.{Reading, value, trace}
use Rattle.cursor.proofs.Cursors.{coming-fresh}
use Rattle.slots.specs.Splice.{spliced}
use Rattle.text.specs.Text.{text_e}
use Rattle.text.proofs.TextLaws.{text-laws}
use Rattle.text_encoder.specs.declared.walk.Held.{Held}
use Rattle.text_encoder.specs.declared.walk.Held.TheVariants as held
use Rattle.text_encoder.specs.declared.walk.TextSort.TheVariants as sorts
use Rattle.text_encoder.specs.declared.walk.TextCursor.{TextCursor}
use Rattle.text_encoder.specs.declared.walk.OldPiece.{OldPiece}
use Rattle.text_encoder.specs.declared.walk.Splicing.{Splicing}
use Rattle.text_encoder.specs.Walks.{held_in, coming_at, old_from, DrawnFrom, rest_of, list_of, Rest, Going, GivenAs}
use Rattle.text_encoder.proofs.Entered.{text_cursor}
use Rattle.text_encoder.proofs.Drawn.{piece-length, piece-some}

abbrev Names : Type 0
Names = List (Option (List ℕ))

abbrev splicing : Held → ℕ → ℕ → ℕ → ℕ → TextCursor → Splicing
splicing h times before gap next c = record { held = h; times = times; before = before; gap = gap; next = next; cursor = c }

-- behind a piece of k readings, what was to come before it
part-way : (k before gap : ℕ) (x : Option (List ℕ)) (old rest new : Names) → k ≤ before → old ≡ replicate k x ++ rest
    → replicate k x ++ (take (before - k) rest ++ (new ++ drop (before - k + gap) rest)) ≡ take before old ++ (new ++ drop (before + gap) old)
part-way k before gap x old rest new m e =
    let l : length (replicate k x) ≡ k = length-replicate k x in
    let b : length (replicate k x) + (before - k) ≡ before = omega arith in
    let g : length (replicate k x) + (before - k + gap) ≡ before + gap = omega arith in
    let t : take before old ≡ replicate k x ++ take (before - k) rest =
    ap (take before) e ∙ ap (λ (j : ℕ). take j (replicate k x ++ rest)) (sym b) ∙ take-append-add (replicate k x) rest (before - k) in
    let d : drop (before + gap) old ≡ drop (before - k + gap) rest =
    ap (drop (before + gap)) e
    ∙ ap (λ (j : ℕ). drop j (replicate k x ++ rest)) (sym g)
    ∙ drop-append-add (replicate k x) rest (before - k + gap) in
    sym
    (ap (λ (y : Names). y ++ (new ++ drop (before + gap) old)) t
    ∙ ap (λ (y : Names). (replicate k x ++ take (before - k) rest) ++ (new ++ y)) d
    ∙ append_assoc (replicate k x) (take (before - k) rest) (new ++ drop (before - k + gap) rest))

module _ (s bytes : List ℕ) (new : Names) (w : Splicing) (h : Rest s w) where
  -- ---- before the range

  module _ (l : 0 < w.before) (d : OldPiece) (p : DrawnFrom s w.cursor w.before d) where
    abbrev early : Splicing
    early = splicing d.held d.times (w.before - d.times) w.gap w.next d.cursor

    pub early-list : list_of s bytes new early ≡ rest_of s new w
    early-list =
        part-way d.times w.before w.gap (held_in s bytes d.held) (old_from s w.cursor) (old_from s d.cursor) (drop w.next new)
        p.few (p.readings bytes)

    pub early-going : Going s bytes new early
    early-going =
        let n = piece-length s w.cursor w.before d p in
        let z : 0 < d.times = piece-some s w.cursor w.before d p (omega (arith, h.enough)) in
        record {
          rest = record { sound = p.sound; enough = omega (arith, h.enough, p.few) };
          within = p.within bytes;
          ended = λ e. absurd (omega arith);
        }

  -- ---- a given name

  module _ (b : w.before ≤ 0) (x : Option (List ℕ)) (g : Held) (a : GivenAs bytes x g) (e : drop w.next new ≡ x ∷ drop (w.next + 1) new) where
    abbrev amid : Splicing
    amid = splicing g 1 0 w.gap (w.next + 1) w.cursor

    pub amid-list : list_of s bytes new amid ≡ rest_of s new w
    amid-list =
        let z : 0 ≡ w.before = omega arith in
        let old : Names = old_from s w.cursor in
        ap (λ (y : Option (List ℕ)). y ∷ (take 0 old ++ (drop (w.next + 1) new ++ drop (0 + w.gap) old))) (a.is s)
        ∙ ap (λ (y : Names). take 0 old ++ (y ++ drop (0 + w.gap) old)) (sym e)
        ∙ ap (λ (k : ℕ). take k old ++ (drop w.next new ++ drop (k + w.gap) old)) z

    pub amid-going : Going s bytes new amid
    amid-going =
        record {
          rest = record { sound = h.sound; enough = omega (arith, h.enough) };
          within = a.within s;
          ended = λ e. absurd (omega arith);
        }

  -- ---- behind the range

  module _ (b : w.before ≤ 0) (e : drop w.next new ≡ []) (c : TextCursor) (q : old_from s c ≡ drop w.gap (old_from s w.cursor))
      (most : ℕ) (d : OldPiece) (p : DrawnFrom s c most d) where
    abbrev late : Splicing
    late = splicing d.held d.times 0 0 w.next d.cursor

    late_is : list_of s bytes new late ≡ old_from s c
    late_is =
        let old : Names = old_from s d.cursor in
        ap (λ (y : Names). replicate d.times (held_in s bytes d.held) ++ (y ++ old)) e ∙ sym (p.readings bytes)

    pub late-list : list_of s bytes new late ≡ rest_of s new w
    late-list =
        let z : 0 ≡ w.before = omega arith in
        let y : w.gap ≡ 0 + w.gap = omega arith in
        let old : Names = old_from s w.cursor in
        late_is ∙ q
        ∙ ap (λ (k : ℕ). drop k old) y
        ∙ ap (λ (n : Names). n ++ drop (0 + w.gap) old) (sym e)
        ∙ ap (λ (k : ℕ). take k old ++ (drop w.next new ++ drop (k + w.gap) old)) z

    pub late-going : Going s bytes new late
    late-going =
        record {
          rest = record { sound = p.sound; enough = omega arith };
          within = p.within bytes;
          ended = λ z. late_is ∙ p.nothing z;
        }

-- what is behind the range is there
pub gap-there : (s : List ℕ) (w : Splicing) → Rest s w → w.gap ≤ length (old_from s w.cursor)
gap-there s w h = omega (arith, h.enough)

-- ---- one reading of a piece

module _ (s bytes : List ℕ) (new : Names) (w : Splicing) (h : Going s bytes new w) where
  module _ (l : 1 < w.times) where
    abbrev fewer : Splicing
    fewer = splicing w.held (w.times - 1) w.before w.gap w.next w.cursor

    pub fewer-list : list_of s bytes new w ≡ held_in s bytes w.held ∷ list_of s bytes new fewer
    fewer-list =
        let e : w.times ≡ suc (w.times - 1) = omega arith in
        ap (λ (k : ℕ). replicate k (held_in s bytes w.held) ++ rest_of s new w) e

    pub fewer-going : Going s bytes new fewer
    fewer-going =
        record {
          rest = record { sound = h.rest.sound; enough = h.rest.enough };
          within = h.within;
          ended = λ e. absurd (omega arith);
        }

  pub last-list : {next : Names} → 0 < w.times → w.times ≤ 1 → next ≡ rest_of s new w → list_of s bytes new w ≡ held_in s bytes w.held ∷ next
  last-list l m e =
      let o : w.times ≡ 1 = omega arith in
      ap (λ (k : ℕ). replicate k (held_in s bytes w.held) ++ rest_of s new w) o
      ∙ ap (λ (y : Names). held_in s bytes w.held ∷ y) (sym e)

-- ---- the beginning

done-sound : {R : Type 0} (t : Trace R) (m : ℕ) → outcome t ≡ done m → t.ending ≡ sound
unfolding outcome outcome_of
done-sound t m e = go t.ending e
  where
    go : (x : Ending) → outcome_of (length t.readings) x ≡ done m → x ≡ sound
    go sound e = refl
    go (fault number place) e = let z : ◌≡◌ {A = ℕ} 0 1 = cc in absurd (omega arith)

abbrev fresh : TextCursor
fresh = text_cursor 0 0 0 sorts.Absent

module _ (s : List ℕ) (start end : ℕ) (a : start ≤ end) (b : outcome (trace text_e s) ≡ done (length (trace text_e s).readings))
    (l : end ≤ length (trace text_e s).readings) where
  fresh-is : coming_at s fresh ≡ trace text_e s
  fresh-is = coming-fresh text_e text-laws s

  fresh-old : old_from s fresh ≡ map value (trace text_e s).readings
  fresh-old = ap (λ (t : Trace (Reading (List ℕ))). map value t.readings) fresh-is

  abbrev opening : Splicing
  opening = splicing held.Absent 0 start (end - start) 0 fresh

  pub opening-rest : Rest s opening
  opening-rest =
      let n : length (old_from s fresh) ≡ length (trace text_e s).readings = ap length fresh-old ∙ length-map (trace text_e s).readings value in
      record {
        sound = record {
          inside = omega arith;
          carries = tt;
          ending = ap (λ (t : Trace (Reading (List ℕ))). t.ending) fresh-is ∙ done-sound (trace text_e s) (length (trace text_e s).readings) b;
        };
        enough = omega arith;
      }

  pub opening-list : (new : Names) → rest_of s new opening ≡ spliced (map value (trace text_e s).readings) start end new
  opening-list new =
      let e : start + (end - start) ≡ end = omega arith in
      ap (λ (y : Names). take start y ++ (new ++ drop (start + (end - start)) y)) fresh-old
      ∙ ap (λ (k : ℕ). spliced (map value (trace text_e s).readings) start k new) e
