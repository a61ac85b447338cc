-- A run-length column that ends where a number is due, 21, over any element: with any one value that the writer takes, so many times behind the bytes, it is
-- sound and reads as what was kept, and then that value so many times (`mended`). Assumes nothing.
use Prim.Native.Nat.{ℕ, zero, suc, ◌-◌, ◌≤◌, ◌<◌}
use mathlib.Core.Path.{◌≡◌, refl, sym, ◌∙◌, ap, subst}
use mathlib.Core.List.{List, [], ◌++◌, map, append-nil, append_assoc}
use mathlib.Core.Option.{some}
use mathlib.Core.Bool.{true}
use native.Mathlib.Omega.{arith}
use lib.ListN.{length, replicate}
use Rattle.leb128.specs.Got.{bad}
use Rattle.encoding.specs.Limit.{limit}
use Rattle.encoding.specs.Walk.{sound, fault, Trace, Next, over, on, off, Run, before, after, onward}
use Rattle.encoding.specs.Element.{Element}
use Rattle.encoding.specs.Column.{Reading, value, Spot, spot, run_at, trace_from, trace}
use Rattle.encoding.proofs.Elements.{ElementLaws}
use Rattle.encoding.proofs.Columns.{on-sane, trace-on, run_end}
use Rattle.salvage.specs.Kept.{Bytes}
use Rattle.salvage.proofs.Staying.{Staying}
use Rattle.salvage.proofs.Keeping.{Follows}
use Rattle.salvage.proofs.Columns.{run-keeps}
use Rattle.salvage.proofs.Mending.{Lacks, run-lacks}

-- with u behind s, what is read is sound: what was kept, and then c times the value a, which is written as w
pub record Mends {A : Type 0} (s : List ℕ) (read : List ℕ → Trace (Reading A)) (c : ℕ) (a : A) (w : List ℕ) : Type 0 where
  pub u : List ℕ
  pub more : List (Reading A)
  pub reads : read (s ++ u) ≡ record { readings = (read s).readings ++ more; ending = sound }
  pub same : map value more ≡ replicate c (some a)
  pub bytes : Bytes w → Bytes u

module _ {A : Type 0} (E : Element A) (L : ElementLaws E) (stays : Staying E.read)
    (due : (s : List ℕ) (p place : ℕ) → E.read s p ≡ bad 21 place → length s ≤ p) where
  -- some number of values, any one that the writer takes
  abbrev pub Mendable : List ℕ → (List ℕ → Trace (Reading A)) → Type 0
  Mendable s read = (c : ℕ) × (c ≤ limit) × ((a : A) → E.fits a ≡ true → Mends s read c a (E.write a))

  at-end : (t : List ℕ) (n : ℕ) → trace_from E t (spot (length t) n) ≡ record { readings = []; ending = sound }
  at-end t n = trace-on E L t (spot (length t) n) ∙ ap (λ (r : Run (Reading A) Spot). onward r (λ z. trace_from E t z)) (run_end E t (length t) n (omega arith))

  module _ (s : List ℕ) where
    -- a run that goes on, goes on so
    run_on : (u : List ℕ) (st z : Spot) → (run_at E s st).next ≡ on z → run_at E (s ++ u) st ≡ record { readings = (run_at E s st).readings; next = on z }
    run_on u st z e = subst (λ (x : Next Spot). Follows (run_at E s st).readings x (run_at E (s ++ u) st)) e (run-keeps E stays s u st)

    from_on : (st z : Spot) → (run_at E s st).next ≡ on z → Mendable s (λ t. trace_from E t z) → Mendable s (λ t. trace_from E t st)
    from_on st z e k = (
      k.0,
      k.1,
      λ a f.
          let y = k.2 a f in
          let xs : List (Reading A) = (run_at E s st).readings in
          let here : trace_from E s st ≡ before xs (trace_from E s z) =
          trace-on E L s st ∙ ap (λ (x : Next Spot). before xs (after x (λ z. trace_from E s z))) e in
          record {
            u = y.u;
            more = y.more;
            reads =
                trace-on E L (s ++ y.u) st
                ∙ ap (λ (r : Run (Reading A) Spot). onward r (λ z. trace_from E (s ++ y.u) z)) (run_on y.u st z e)
                ∙ ap (before xs) y.reads
                ∙ ap (λ (l : List (Reading A)). record { readings = l; ending = sound }) (sym (append_assoc xs (trace_from E s z).readings y.more))
                ∙ ap (λ (t : Trace (Reading A)). record { readings = t.readings ++ y.more; ending = sound }) (sym here);
            same = y.same;
            bytes = y.bytes;
          },
    )

    from-off : (st : Spot) (place : ℕ) → (run_at E s st).next ≡ off 21 place → Lacks E L s (λ t. run_at E t st) → Mendable s (λ t. trace_from E t st)
    from-off st place e k = (
      k.0,
      k.1,
      λ a f.
          let y = k.2 a f in
          let xs : List (Reading A) = (run_at E s st).readings in
          let t : List ℕ = s ++ y.u in
          let here : (trace_from E s st).readings ≡ xs =
          ap (λ (t : Trace (Reading A)). t.readings) (trace-on E L s st ∙ ap (λ (x : Next Spot). before xs (after x (λ z. trace_from E s z))) e)
          ∙ append-nil xs in
          record {
            u = y.u;
            more = y.more;
            reads =
                trace-on E L t st
                ∙ ap (λ (r : Run (Reading A) Spot). onward r (λ z. trace_from E t z)) y.reads
                ∙ ap (before (xs ++ y.more)) (at-end t y.had)
                ∙ ap (λ (l : List (Reading A)). record { readings = l; ending = sound }) (append-nil (xs ++ y.more))
                ∙ ap (λ (l : List (Reading A)). record { readings = l ++ y.more; ending = sound }) (sym here);
            same = y.same;
            bytes = y.bytes;
          },
    )

    trace-mended : (fuel place : ℕ) (st : Spot) → length s - st.at < fuel → st.had ≤ limit → (trace_from E s st).ending ≡ fault 21 place
        → Mendable s (λ t. trace_from E t st)
    trace-mended zero place st l m e = absurd (omega arith)
    trace-mended (suc fuel) place st l m e =
        go (run_at E s st).next refl (ap (λ (t : Trace (Reading A)). t.ending) (sym (trace-on E L s st)) ∙ e)
        (λ z lz mz ez. trace-mended fuel place z lz mz ez)
      where
        go : (x : Next Spot) → (run_at E s st).next ≡ x → (after x (λ z. trace_from E s z)).ending ≡ fault 21 place
            → ((z : Spot) → length s - z.at < fuel → z.had ≤ limit → (trace_from E s z).ending ≡ fault 21 place → Mendable s (λ t. trace_from E t z))
            → Mendable s (λ t. trace_from E t st)
        go over d e ih = let x : ◌≡◌ {A = ℕ} 0 1 = cc in absurd (omega arith)
        go (on z) d e ih = let h = on-sane E L s st z d in from_on st z d (ih z (omega (arith, h.0, h.1)) h.3 e)
        go (off n k) d e ih =
            let x : n ≡ 21 = cc in
            let d' : (run_at E s st).next ≡ off 21 k = rw x at d in
            from-off st k d' (run-lacks E L stays due s st k m d')

    -- THE LAW: such a column can be mended
    pub mended : (place : ℕ) → (trace E s).ending ≡ fault 21 place → Mendable s (trace E)
    unfolding trace
    mended place e = trace-mended (suc (length s - 0)) place (spot 0 0) (omega arith) (omega arith) e
