-- Names put into three slices: each of starts and lengths is put beside the presence bytes by the laws of two slices, so that these serve
-- for three. And what a found name's start and length are. Assumes nothing.
use Prim.Native.Nat.{ℕ, ◌+◌, ◌≤◌, ◌<◌}
use mathlib.Core.Path.{◌≡◌, refl, sym, ◌∙◌, ap, subst}
use mathlib.Core.List.{List}
use native.Mathlib.Omega.{arith}
use lib.ListN.{length, get_or, set, drop, length-drop, replicate}
use lib.Seq.{sets, length-take-le}
use borrow.Author.Tests.{eq-eqb, ne_eqb}
use Rattle.leb128.specs.Got.{got}
use Rattle.leb128.specs.Answer.{Answer, done, refused, left}
use Rattle.encoding.specs.Walk.{Run, Trace, outcome}
use Rattle.encoding.specs.Column.{Reading, present, ahead}
use Rattle.encoding.specs.Slots.{flag_of, Decoded, Room, Wrote}
use Rattle.encoding.proofs.Filling.{wrote-same, decode-uneven, decode-fault, decode-short, decode-room, decode-done}
use Rattle.encoding.proofs.Running.{Partly, partly-on}
use Rattle.text.specs.Text.{bytes_at, text_at}
use Rattle.text.specs.Name.{start_of, length_of}
use Rattle.text.proofs.TextLaws.{text-laws, text-read}
use Rattle.text.proofs.Names.{read-start, read_length}
use Rattle.text_decoder.specs.Slots.{decoding_names, DecodedNames}

module _ (s : List ℕ) (B : (i : ℕ) → get_or s i 0 < 256) (p start len : ℕ) (e : text_at s p ≡ got (bytes_at s start len) (start + len)) where
  pub found-length : len ≡ length_of (present (bytes_at s start len) p)
  unfolding length_of
  found-length =
      let w = text-laws.within s p (start + len) (bytes_at s start len) e in
      sym (length-take-le len (drop start s) (omega (arith, length-drop start s)))

  pub found-start : start ≡ start_of (present (bytes_at s start len) p)
  found-start =
      let r = text-read s p (start + len) (bytes_at s start len) e in
      let a = read-start s B p (start + len) (bytes_at s start len) e in
      let l = read_length s B p (start + len) (bytes_at s start len) e in
      omega (arith, found-length, r.next)

-- a reading stored by what is known to be its slot
pub partly-as : {R S : Type 0} {f g : R → ℕ} {r t t' : Run R S} {n₀ n k : ℕ} {v₀ p₀ v p : List ℕ} {x : R}
    → Partly f g r n₀ v₀ p₀ t n v p → t ≡ ahead x t' → k ≡ f x
    → Partly f g r n₀ v₀ p₀ t' (n + 1) (set v n k) (set p n (g x))
partly-as {f = f} {g = g} {r = r} {t' = t'} {n₀ = n₀} {n = n} {v₀ = v₀} {p₀ = p₀} {v = v} {p = p} {x = x} h e k =
    subst (λ (j : ℕ). Partly f g r n₀ v₀ p₀ t' (n + 1) (set v n j) (set p n (g x))) (sym k) (partly-on h e)

pub wrote_as : {R : Type 0} (f g : R → ℕ) (x : R) (c k n : ℕ) (v v' p p' : List ℕ)
    → v' ≡ sets v n (replicate c k) → p' ≡ sets p n (replicate c (g x)) → k ≡ f x → Wrote f g (replicate c x) n v v' p p'
wrote_as f g x c k n v v' p p' e h i = wrote-same f g x c n v v' p p' (e ∙ ap (λ (k : ℕ). sets v n (replicate c k)) i) h

-- ---- a whole column decoded: one law for each way out

pub decoded-uneven : (t : Trace (Reading (List ℕ))) (a l p : List ℕ) → (length a ≡ length l → ⊥)
    → DecodedNames t a a l l p p (refused 8 0)
unfolding decoding_names left
decoded-uneven t a l p h = record { answer = simp (ne_eqb (length a) (length l) h); starts = refl; lens = refl; flags = refl }

module _ (t : Trace (Reading (List ℕ))) (a l p : List ℕ) (h : length a ≡ length l) where
  both : {a' l' p' : List ℕ} {o : Answer} → Decoded t start_of flag_of a a' p p' o → Decoded t length_of flag_of l l' p p' o
      → DecodedNames t a a' l l' p p' o
  unfolding decoding_names
  both d e = record { answer = rw (eq-eqb (length a) (length l) h) e.answer; starts = d.values; lens = e.values; flags = e.flags }

  pub decoded-flags : (length l ≡ length p → ⊥) → DecodedNames t a a l l p p (refused 8 0)
  decoded-flags k = both (decode-uneven t start_of flag_of a p (λ e. k (sym h ∙ e))) (decode-uneven t length_of flag_of l p k)

  module _ (k : length l ≡ length p) where
    pub decoded-fault : (number place : ℕ) → outcome t ≡ refused number place → DecodedNames t a a l l p p (refused number place)
    decoded-fault number place e =
        both (decode-fault t start_of flag_of a p number place (h ∙ k) e) (decode-fault t length_of flag_of l p number place k e)

    pub decoded-short : (n : ℕ) → outcome t ≡ done n → length l < n → DecodedNames t a a l l p p (refused 9 0)
    decoded-short n e s = both (decode-short t start_of flag_of a p n (h ∙ k) e (omega arith)) (decode-short t length_of flag_of l p n k e s)

    pub decoded-room : (n : ℕ) → outcome t ≡ done n → n ≤ length l → Room t.readings 0 a p × Room t.readings 0 l p
    decoded-room n e s = (decode-room t start_of flag_of a p n (h ∙ k) e (omega arith), decode-room t length_of flag_of l p n k e s)

    pub decoded-done : (a' l' p' : List ℕ) (n : ℕ) (o : Answer) → outcome t ≡ done n → n ≤ length l
        → Wrote start_of flag_of t.readings 0 a a' p p' → Wrote length_of flag_of t.readings 0 l l' p p'
        → o ≡ outcome t → DecodedNames t a a' l l' p p' o
    decoded-done a' l' p' n o e s u v w =
        both (decode-done t start_of flag_of a p a' p' n o (h ∙ k) e (omega arith) u w) (decode-done t length_of flag_of l p l' p' n o k e s v w)
