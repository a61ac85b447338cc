-- 02, [1]: "New names arrive as one lent byte slice with starts and lengths; a pair reaching outside it counts as a bad list." A list of names that is
-- given: the lent bytes b, and three slices, all equally long: starts, lengths and presence bytes.
use Rattle.std.specs.Prelude.{ℕ, suc, ◌+◌, List, [], ◌∷◌, Bool, cond, ◌&&◌, ◌||◌, leb, eqb, length}
use Rattle.std.proofs.Math.Option.{Option, none, some}
use Rattle.leb128.specs.Answer.{Answer, done, refused}
use Rattle.encoding.specs.Limit.{limit}
use Rattle.encoding.specs.Given.{slot_list}
use Rattle.utf8.specs.Utf8.{is_utf8}
use Rattle.text.specs.Text.{bytes_at}

-- the names that the pairs cut out of the bytes
unfoldable pub cut_names : List ℕ → List ℕ → List ℕ → List (List ℕ)
cut_names b [] lens = []
cut_names b (start ∷ starts) [] = []
cut_names b (start ∷ starts) (len ∷ lens) = bytes_at b start len ∷ cut_names b starts lens

abbrev pub name_list : List ℕ → List ℕ → List ℕ → List ℕ → List (Option (List ℕ))
name_list b starts lens flags = slot_list (cut_names b starts lens) flags

-- a presence byte and its pair, of bytes that are `size` long: the pair of an absent name is not looked at
unfoldable pub good_pair : ℕ → ℕ → ℕ → ℕ → Bool
good_pair size start len flag = leb flag 1 && (eqb flag 0 || leb (start + len) size)

-- the first bad index, counting from i
unfoldable pub bad_pair : ℕ → ℕ → List ℕ → List ℕ → List ℕ → Option ℕ
bad_pair size i [] lens flags = none
bad_pair size i (start ∷ starts) [] flags = none
bad_pair size i (start ∷ starts) (len ∷ lens) [] = none
bad_pair size i (start ∷ starts) (len ∷ lens) (flag ∷ flags) =
    let rest = bad_pair size (suc i) starts lens flags in cond (good_pair size start len flag) rest (some i)

-- a name that is present is UTF-8
unfoldable pub good_text : List ℕ → ℕ → Bool
good_text v flag = eqb flag 0 || is_utf8 v

-- the first name that is not UTF-8, counting from i
unfoldable pub bad_text : ℕ → List (Option (List ℕ)) → Option ℕ
bad_text i [] = none
bad_text i (none ∷ xs) = bad_text (suc i) xs
bad_text i (some v ∷ xs) = let rest = bad_text (suc i) xs in cond (is_utf8 v) rest (some i)

-- "8, then 20 at the index": of 8 "0 for lengths, judged first, else the first bad index"
abbrev pub text_given : Option ℕ → Answer
text_given none = done 0
text_given (some i) = refused 20 i

abbrev pub pairs_given : Option ℕ → Answer → Answer
pairs_given none text = text
pairs_given (some i) text = refused 8 i

unfoldable pub names_given : List ℕ → List ℕ → List ℕ → List ℕ → Answer
names_given b starts lens flags =
    cond (eqb (length starts) (length lens) && eqb (length lens) (length flags))
    (pairs_given (bad_pair (length b) 0 starts lens flags) (text_given (bad_text 0 (name_list b starts lens flags))))
    (refused 8 0)

-- encoding: "8, 20, 5, 10"; here up to 5
abbrev pub within_limit : ℕ → Answer → Answer
within_limit n (done g) = cond (leb n limit) (done n) (refused 5 0)
within_limit n (refused number place) = refused number place

unfoldable pub names_judged : List ℕ → List ℕ → List ℕ → List ℕ → Answer
names_judged b starts lens flags = within_limit (length starts) (names_given b starts lens flags)
