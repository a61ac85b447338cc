-- 02, [1]: "After an accepted edit the slots hold starts in the new column". `slots-name`: the slots that an accepted edit leaves, read in the column
-- that it wrote, name the new list. Assumes nothing.
use Prim.Native.Nat.{ℕ, ◌-◌, ◌≤◌}
use mathlib.Core.Path.{◌≡◌, refl, sym, ◌∙◌, ap}
use mathlib.Core.List.{List, [], ◌∷◌, ◌++◌, map, append-nil}
use mathlib.Core.Option.{Option, none, some}
use mathlib.Core.Bool.{Bool, true, false}
use native.Mathlib.Omega.{arith}
use lib.ListN.{length, take, drop, replicate, length-map, length-append, length-replicate}
use lib.Seq.{take_at}
use Rattle.leb128.specs.Answer.{Answer}
use Rattle.encoding.specs.Column.{Reading, value}
use Rattle.encoding.specs.Given.{slot_list}
use Rattle.encoding.specs.Limit.{limit}
use Rattle.encoding.specs.Slots.{flag_of}
use Rattle.encoding.specs.Writer.{any_present, column_bytes}
use Rattle.encoding.proofs.Back.{ListFits}
use Rattle.text.specs.Text.{text_e}
use Rattle.text.specs.Name.{start_of, length_of}
use Rattle.text.specs.Given.{cut_names, name_list}
use Rattle.text.proofs.Back.{names-back}
use Rattle.text.proofs.Givens.{texts-fit}
use Rattle.text.proofs.Texts.{text-trip, text-readable}
use Rattle.column_part.specs.Part.{part_at}
use Rattle.slots.specs.Splice.{in_slots}
use Rattle.splice.specs.Contract.{flag_in, starts_in, length_in, text_edit, TextSpliced}
use Rattle.splice.specs.Edit.{Edited, given_text, slots_left, Spliced}
use Rattle.splice.specs.Kinds.{text}
use Rattle.splice.specs.Lent.{Lent}
use Rattle.splice.specs.declared.End.{End}
use Rattle.splice.proofs.Demand3.{column_of, block_of, old_list, range_end, new_list, Writes, Accepted, is-accepted, run-list, text-demand-3}
use Rattle.splice.proofs.Isolated.{accepted-good}
use Rattle.splice.proofs.Numbered.{text-some, text-numbered, edited-some}
use Rattle.text_encoder.proofs.EditedNames.{names-good}
use Rattle.text_encoder.proofs.Refilling.{take-bytes, drop-bytes}
use Rattle.text_encoder.proofs.WrittenNames.{fits-append, fits-take, fits-drop, length-same, flag_same, read_back, written}

-- ---- the slots of a list, in the column that it is written as

-- where no name is present, whatever the starts
none_said : (c starts : List ℕ) (xs : List (Option (List ℕ))) → any_present xs ≡ false → length starts ≡ length xs
    → name_list c starts (map length_in xs) (map flag_in xs) ≡ xs
unfolding any_present slot_list cut_names
none_said c [] [] h e = refl
none_said c (a ∷ starts) [] h e = absurd (omega arith)
none_said c [] (x ∷ xs) h e = absurd (omega arith)
none_said c (a ∷ starts) (none ∷ xs) h e = ap (λ (l : List (Option (List ℕ))). none ∷ l) (none_said c starts xs h (omega arith))
none_said c (a ∷ starts) (some v ∷ xs) h e = let y : true ≡ false = h in let z : ◌≡◌ {A = ℕ} 0 1 = cc in absurd (omega arith)

module _ (xs : List (Option (List ℕ))) (fits : ListFits text_e xs) (few : length xs ≤ limit) where
  starts-length : length (starts_in xs) ≡ length xs
  starts-length =
      let n = length-map (read_back xs) start_of in
      length-append (map start_of (read_back xs)) (replicate (length xs - length (map start_of (read_back xs))) 0)
      ∙ omega (arith, n, (written xs fits few).few, length-replicate {A = ℕ} (length xs - length (map start_of (read_back xs))) 0)

  -- as many readings as names: nothing is padded
  plain : any_present xs ≡ true → (f : Reading (List ℕ) → ℕ)
      → map f (read_back xs) ++ replicate (length xs - length (map f (read_back xs))) 0 ≡ map f (read_back xs)
  plain e f =
      let n : length (read_back xs) ≡ length xs = sym (length-map (read_back xs) value) ∙ ap length (text-trip xs e fits few).0 in
      let m : length xs - length (map f (read_back xs)) ≡ 0 = omega (arith, length-map (read_back xs) f) in
      ap (λ (k : ℕ). map f (read_back xs) ++ replicate k 0) m ∙ append-nil (map f (read_back xs))

  pub slots-said : name_list (column_bytes text_e xs) (starts_in xs) (map length_in xs) (map flag_in xs) ≡ xs
  slots-said = go (any_present xs) refl
    where
      go : (b : Bool) → any_present xs ≡ b → name_list (column_bytes text_e xs) (starts_in xs) (map length_in xs) (map flag_in xs) ≡ xs
      go false e = none_said (column_bytes text_e xs) (starts_in xs) xs e starts-length
      go true e =
          let w = written xs fits few in
          let c = column_bytes text_e xs in
          let l : map length_in xs ≡ map length_of (read_back xs) = sym (w.all length_of length_in (λ r. length-same r) refl) ∙ plain e length_of in
          let p : map flag_in xs ≡ map flag_of (read_back xs) = sym (w.all flag_of flag_in (λ r. flag_same r) refl) ∙ plain e flag_of in
          ap (λ (a : List ℕ). name_list c a (map length_in xs) (map flag_in xs)) (plain e start_of)
          ∙ ap (λ (x : List ℕ). name_list c (map start_of (read_back xs)) x (map flag_in xs)) l
          ∙ ap (λ (x : List ℕ). name_list c (map start_of (read_back xs)) (map length_of (read_back xs)) x) p
          ∙ names-back xs e fits few

-- ---- of a call

module _ (s : List ℕ) (position start : ℕ) (end : End) (bytes newStarts newLens newFlags a a' l l' p p' out out' : List ℕ) (r : Spliced)
    (block : Lent s) (output : Lent out) (given : Lent bytes)
    (call : TextSpliced text s position start end bytes newStarts newLens newFlags a a' l l' p p' out out' r) (accepts : r.number ≡ 0) where
  abbrev new : List (Option (List ℕ))
  new = name_list bytes newStarts newLens newFlags

  abbrev edit : Edited (Option (List ℕ))
  edit = text_edit text s position start end bytes newStarts newLens newFlags (length a) (length l) (length p) (length out)

  abbrev judged : Answer
  judged = given_text (length a) (length l) (length p) bytes newStarts newLens newFlags

  took : Accepted text edit out out' r
  took =
      is-accepted text edit out out' r
      (edited-some text text-numbered start end new (length a) (length out) s position judged
      (text-some (length a) (length l) (length p) bytes newStarts newLens newFlags))
      call.answer call.output accepts

  wrote : Writes text s position start end new out out' r
  wrote =
      (text-demand-3 s position start end bytes newStarts newLens newFlags a a' l l' p p' out out' r block output call).writes accepts

  abbrev xs : List (Option (List ℕ))
  xs = new_list text s position start end new

  xs-fit : ListFits text_e xs
  xs-fit =
      let o = old_list text s position in
      let c = part_at s position in
      let k = text-readable (column_of s position) (take-bytes c.len (drop c.start s) (drop-bytes c.start s block.bytes)) in
      let g = accepted-good text s [] [] 0 position start end new (length out) (length a) judged took.old took.xs took.new took.is in
      let n = (names-good (length a) (length l) (length p) bytes newStarts newLens newFlags g.1).names in
      fits-append (take start o) _ (fits-take start o k)
      (fits-append new _ (texts-fit bytes given.short 0 newStarts newLens newFlags n.texts) (fits-drop (range_end text s position end) o k))

  -- the front of a slot slice that holds f of the list
  front : (f : List (Option (List ℕ)) → List ℕ) (v v' : List ℕ) → v' ≡ slots_left 0 f edit v → length (f xs) ≡ length xs → take (length xs) v' ≡ f xs
  front f v v' e n =
      let i : v' ≡ in_slots 0 v took.old (f xs) =
      e ∙ ap (λ (x : Edited (Option (List ℕ))). slots_left 0 f x v) took.is
      ∙ ap (λ (x : List (Option (List ℕ))). in_slots 0 v took.old (f x))
      (run-list text s position start end judged new (length a) out out' r took) in
      ap (take (length xs)) i ∙ take_at (f xs) _ (length xs) n

  pub slots-name : name_list (column_of (block_of r out') position) (take (length xs) a') (take (length xs) l') (take (length xs) p') ≡ xs
  slots-name =
      let c = column_of (block_of r out') position in
      ap (λ (x : List ℕ). name_list c x (take (length xs) l') (take (length xs) p')) (front starts_in a a' call.starts (starts-length xs xs-fit wrote.few))
      ∙ ap (λ (x : List ℕ). name_list c (starts_in xs) x (take (length xs) p')) (front (map length_in) l l' call.lens (length-map xs length_in))
      ∙ ap (λ (x : List ℕ). name_list c (starts_in xs) (map length_in xs) x) (front (map flag_in) p p' call.presence (length-map xs flag_in))
      ∙ ap (λ (x : List ℕ). name_list x (starts_in xs) (map length_in xs) (map flag_in xs)) wrote.column
      ∙ slots-said xs xs-fit wrote.few
