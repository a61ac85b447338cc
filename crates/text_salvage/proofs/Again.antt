-- What was read can be given: the starts and lengths of the names that a column reads as say these names, and are judged good. Assumes nothing.
use Prim.Native.Nat.{ℕ, suc, ◌+◌, ◌<◌}
use mathlib.Core.Path.{◌≡◌, refl, sym, ◌∙◌, ap}
use mathlib.Core.List.{List, [], ◌∷◌, map}
use mathlib.Core.Option.{Option, none, some}
use mathlib.Core.Bool.{Bool, true, cond}
use native.Mathlib.Omega.{arith}
use lib.ListN.{length, get_or, length-map}
use borrow.Author.Tests.{le-leb}
use Rattle.leb128.specs.Answer.{done}
use Rattle.encoding.specs.Column.{Reading, absent, present, value, trace}
use Rattle.encoding.specs.Given.{slot_list}
use Rattle.encoding.specs.Slots.{flag_of}
use Rattle.encoding.proofs.Limits.{trace-limit}
use Rattle.utf8.specs.Utf8.{is_utf8}
use Rattle.text.specs.Given.{cut_names, name_list, good_pair, bad_pair, bad_text, names_given, names_judged}
use Rattle.text.specs.Name.{start_of, length_of}
use Rattle.text.specs.Text.{text_e}
use Rattle.text.proofs.Givens.{pair-absent, pair-there, given-text, judged-good}
use Rattle.text.proofs.Names.{Named, names-there}
use Rattle.text.proofs.Placed.{Each, trace-each}
use Rattle.text.proofs.TextLaws.{text-laws, text-read}

-- ---- readings one after another, of names whose bytes stand in s

-- the starts and lengths say the names
said : (s : List ℕ) (rs : List (Reading (List ℕ))) → Each (Named s) rs → name_list s (map start_of rs) (map length_of rs) (map flag_of rs) ≡ map value rs
unfolding slot_list cut_names value
said s [] h = refl
said s (absent ∷ rs) h = ap (λ (xs : List (Option (List ℕ))). none ∷ xs) (said s rs h)
said s (present v place ∷ rs) h =
    ap (λ (w : List ℕ). some w ∷ name_list s (map start_of rs) (map length_of rs) (map flag_of rs)) h.0.1
    ∙ ap (λ (xs : List (Option (List ℕ))). some v ∷ xs) (said s rs h.1)

-- each pair lies within s
pairs-good : (s : List ℕ) (i : ℕ) (rs : List (Reading (List ℕ))) → Each (Named s) rs
    → bad_pair (length s) i (map start_of rs) (map length_of rs) (map flag_of rs) ≡ none
unfolding bad_pair
pairs-good s i [] h = refl
pairs-good s i (absent ∷ rs) h =
    ap (λ (t : Bool). cond t (bad_pair (length s) (suc i) (map start_of rs) (map length_of rs) (map flag_of rs)) (some i))
    (pair-absent (length s) (start_of absent) (length_of absent) 0 refl)
    ∙ pairs-good s (suc i) rs h
pairs-good s i (present v place ∷ rs) h =
    let st : ℕ = start_of (present v place) in
    let len : ℕ = length_of (present v place) in
    let k : good_pair (length s) st len 1 ≡ true = pair-there (length s) st len 1 (λ e. omega arith) (omega arith) ∙ le-leb (st + len) (length s) h.0.0 in
    ap (λ (t : Bool). cond t (bad_pair (length s) (suc i) (map start_of rs) (map length_of rs) (map flag_of rs)) (some i)) k ∙ pairs-good s (suc i) rs h.1

-- each name is UTF-8
abbrev IsText : List ℕ → ℕ → Type 0
IsText v place = is_utf8 v ≡ true

texts-good : (i : ℕ) (rs : List (Reading (List ℕ))) → Each IsText rs → bad_text i (map value rs) ≡ none
unfolding bad_text value
texts-good i [] h = refl
texts-good i (absent ∷ rs) h = texts-good (suc i) rs h
texts-good i (present v place ∷ rs) h =
    ap (λ (t : Bool). cond t (bad_text (suc i) (map value rs)) (some i)) h.0 ∙ texts-good (suc i) rs h.1

-- ---- and so what a column reads as

module _ (s : List ℕ) (B : (i : ℕ) → get_or s i 0 < 256) where
  abbrev names : List (Reading (List ℕ))
  names = (trace text_e s).readings

  pub names-said : name_list s (map start_of names) (map length_of names) (map flag_of names) ≡ map value names
  names-said = said s names (names-there s B)

  each-text : Each IsText names
  each-text = trace-each IsText text_e s (λ p z v e. (text-read s p z v e).utf8)

  given-again : names_given s (map start_of names) (map length_of names) (map flag_of names) ≡ done 0
  given-again =
      given-text s (map start_of names) (map length_of names) (map flag_of names)
      (length-map names start_of ∙ sym (length-map names length_of)) (length-map names length_of ∙ sym (length-map names flag_of))
      none (pairs-good s 0 names (names-there s B)) (ap (bad_text 0) names-said ∙ texts-good 0 names each-text)

  pub judged-again : names_judged s (map start_of names) (map length_of names) (map flag_of names) ≡ done (length (map start_of names))
  judged-again =
      judged-good s (map start_of names) (map length_of names) (map flag_of names) 0 given-again
      (omega (arith, length-map names start_of, trace-limit text_e text-laws s))
