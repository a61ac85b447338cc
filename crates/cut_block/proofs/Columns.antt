-- A column of which a part is there, salvaged: it is sound and nothing in it is invented, for every kind. Assumes nothing.
use Prim.Native.Nat.{ℕ, ◌*◌, ◌≤◌, ◌<◌}
use mathlib.Core.Logic.{◌⊎◌, inl, inr}
use mathlib.Core.Path.{◌≡◌, refl, sym, ◌∙◌, ap, subst}
use mathlib.Core.List.{List, [], ◌++◌, map}
use mathlib.Core.Option.{Option, none}
use mathlib.Core.Bool.{Bool, true, false}
use native.Mathlib.Omega.{arith}
use lib.ListN.{length, get_or, length-append, get_or-append}
use Rattle.encoding.specs.Column.{Reading, value, trace}
use Rattle.encoding.specs.Walk.{Ending, fault, Trace}
use Rattle.encoding.specs.Walk as walk
use Rattle.rle_decoder.specs.Word.{u64_e}
use Rattle.delta_decoder.specs.Sums.{delta_trace}
use Rattle.text.specs.Text.{text_e}
use Rattle.salvage.specs.Fresh.{Bare, Fresh}
use Rattle.salvage.specs.Kept.{Prefix, Lasting, Bytes}
use Rattle.salvage.specs.Way.{Way, integers, deltas, booleans, names, fresh_of}
use Rattle.salvage.proofs.Certain.{prefix-map}
use Rattle.salvage.proofs.Columns.{integer-lasting, name-lasting}
use Rattle.salvage.proofs.Fresh.{fresh-integers, fresh-names, fresh-deltas, fresh-booleans}
use Rattle.salvage.proofs.Keeping.{prefix-nil}
use Rattle.salvage.proofs.Sums.{delta-lasting}
use Rattle.salvage.proofs.Turns.{bool-lasting}
use Rattle.cut_block.specs.CutBlock.{Kept}
use Rattle.cut_block.specs.Salvaged.{mended_if, mended}

-- ---- what a kind of column has to be: what is kept lasts, and the fresh column is sound and reads back

pub record WayLaws {A : Type 0} (W : Way A) : Type 0 where
  pub lasts : (s u : List ℕ) → Prefix (W.reads s).readings (W.reads (s ++ u)).readings
  pub fresh : (s : List ℕ) → Bytes s → Fresh W s

values-last : {A : Type 0} (read : List ℕ → Trace (Reading A)) → Lasting read → (s u : List ℕ)
    → Prefix (map value (read s).readings) (map value (read (s ++ u)).readings)
values-last read l s u = prefix-map value (read s).readings (read (s ++ u)).readings (l.prefix s u)

pub integers-laws : WayLaws integers
integers-laws = record { lasts = values-last (trace u64_e) integer-lasting; fresh = fresh-integers }

pub deltas-laws : WayLaws deltas
deltas-laws = record { lasts = values-last delta_trace delta-lasting; fresh = fresh-deltas }

pub booleans-laws : WayLaws booleans
booleans-laws = record { lasts = bool-lasting.prefix; fresh = λ s B. fresh-booleans s }

pub names-laws : WayLaws names
names-laws = record { lasts = values-last (trace text_e) name-lasting; fresh = fresh-names }

-- ---- a column

module _ {A : Type 0} (W : Way A) (L : WayLaws W) where
  -- what the salvaged column is, of a part p
  abbrev pub All : List ℕ → List ℕ → Type 0
  All p c' = ((W.reads c').readings ≡ (W.reads p).readings) ⊎ ((W.present (W.reads p).readings ≡ false) × (c' ≡ []) × ((W.reads c').readings ≡ []))

  pub record Mended (p c' : List ℕ) : Type 0 where
    pub sound : (W.reads c').ending ≡ walk.sound
    pub all : All p c'
    pub eleven : length c' ≤ 11 * length p

  fresh-mended : (p : List ℕ) → Bytes p → Mended p (fresh_of W p)
  fresh-mended p B =
      let f = L.fresh p B in
      record { sound = f.sound; all = go f.back; eleven = f.eleven }
    where
      go : ((W.reads (fresh_of W p)).readings ≡ (W.reads p).readings) ⊎ Bare W (W.reads p).readings → All p (fresh_of W p)
      go (inl e) = inl e
      go (inr e) = inr (e.absent, e.nothing, ap (λ (c : List ℕ). (W.reads c).readings) e.nothing ∙ e.empty)

  pub mended-is : (whole : Bool) (p : List ℕ) → Bytes p → Mended p (mended W whole p)
  unfolding mended
  mended-is whole p B = go whole (W.reads p).ending refl
    where
      go : (t : Bool) (e : Ending) → (W.reads p).ending ≡ e → Mended p (mended_if t e p (fresh_of W p))
      go true walk.sound h = record { sound = h; all = inl refl; eleven = omega arith }
      go true (fault number place) h = fresh-mended p B
      go false e h = fresh-mended p B

  -- a column that is whole and sound stays
  pub mended-whole : (c : List ℕ) → (W.reads c).ending ≡ walk.sound → mended W true c ≡ c
  unfolding mended
  mended-whole c e = rw e refl

  -- NOTHING IS INVENTED in a column c, of which p is there
  pub kept : (whole : Bool) (c p : List ℕ) → Bytes p → Prefix p c → (p ≡ c → whole ≡ true) → Kept W c p (mended W whole p)
  kept whole c p B h w =
      let m = mended-is whole p B in
      let l : Prefix (W.reads p).readings (W.reads (p ++ h.rest)).readings = L.lasts p h.rest in
      let l' : Prefix (W.reads p).readings (W.reads c).readings =
      subst (λ (z : List ℕ). Prefix (W.reads p).readings (W.reads z).readings) (sym h.split) l in
      record {
        sound = m.sound;
        prefix = go l' m.all;
        all = m.all;
        same = λ y q. ap (λ (t : Bool). mended W t p) (w q) ∙ ap (mended W true) q ∙ mended-whole c y;
      }
    where
      go : {c' : List ℕ} → Prefix (W.reads p).readings (W.reads c).readings → All p c' → Prefix (W.reads c').readings (W.reads c).readings
      go l (inl e) = rw e l
      go l (inr e) = rw e.2 (prefix-nil (W.reads c).readings)

-- every reading of what a list begins with is that reading of the list
pub prefix-at : {A : Type 0} (xs ys : List A) → Prefix xs ys → (j : ℕ) → j < length xs → (d : A) → (j < length ys) × (get_or xs j d ≡ get_or ys j d)
prefix-at xs ys h j l d =
    (omega (arith, ap length h.split, length-append xs h.rest), sym (ap (λ (z : List _). get_or z j d) h.split ∙ get_or-append xs h.rest d j l))

-- NO ABSENT READING IS MADE: where the salvage has an absent reading, the block had it, at the same index
pub no-absent-made : {A : Type 0} {W : Way (Option A)} {c p c' : List ℕ} → Kept W c p c' → (j : ℕ) → j < length (W.reads c').readings
    → (d : Option A) → get_or (W.reads c').readings j d ≡ none → (j < length (W.reads c).readings) × (get_or (W.reads c).readings j d ≡ none)
no-absent-made {A} {W} {c} {p} {c'} k j l d e =
    let h = prefix-at (W.reads c').readings (W.reads c).readings k.prefix j l d in
    (h.0, sym h.1 ∙ e)

-- of a column that reads soundly as xs: what is saved of it reads as what xs begins with, and as xs where all of it is there
pub kept-list : {A : Type 0} {W : Way A} {c p c' : List ℕ} → Kept W c p c' → (xs : List A) → W.reads c ≡ record { readings = xs; ending = walk.sound }
    → Prefix (W.reads c').readings xs × (p ≡ c → W.reads c' ≡ record { readings = xs; ending = walk.sound })
kept-list {A} {W} {c} {p} {c'} k xs e =
    let x : (W.reads c).readings ≡ xs = ap (λ (t : Trace A). t.readings) e in
    let y : (W.reads c).ending ≡ walk.sound = ap (λ (t : Trace A). t.ending) e in
    (subst (λ (z : List A). Prefix (W.reads c').readings z) x k.prefix, λ q. ap W.reads (k.same y q) ∙ e)
