-- Numbers and words written at a place of an output.
use Prim.Native.Nat.{ℕ, ◌+◌, ◌*◌, ◌≤◌, ◌<◌}
use native.Mathlib.Numerals.{add-one}
use native.Mathlib.Omega.{arith}
use mathlib.Core.Path.{◌≡◌, refl, sym, ap, ◌∙◌}
use mathlib.Core.List.{List, [], ◌∷◌, ◌++◌, append_assoc, append-nil}
use lib.ListN.{length, get_or, take}
use lib.Seq.{length-take-le, take-suc}
use Rattle.slices.specs.Slices.{placed}
use Rattle.slices.proofs.Placing.{placed_more, placed_none}
use Rattle.slices.specs.Bytes.{bytes32, word_bytes}

-- words
pub words_append : (xs ys : List ℕ) → word_bytes (xs ++ ys) ≡ word_bytes xs ++ word_bytes ys
unfolding word_bytes
words_append [] ys = refl
words_append (x ∷ xs) ys =
    ap (λ (l : List ℕ). bytes32 x ++ l) (words_append xs ys) ∙ sym (append_assoc (bytes32 x) (word_bytes xs) (word_bytes ys))

pub length_words : (xs : List ℕ) → length (word_bytes xs) ≡ 4 * length xs
unfolding word_bytes bytes32
length_words [] = refl
length_words (x ∷ xs) = rw (length_words xs) (omega arith)

pub four : (w : ℕ) → length (bytes32 w) ≡ 4
unfolding bytes32
four w = refl

one_word : (w : ℕ) → word_bytes (w ∷ []) ≡ bytes32 w
unfolding word_bytes
one_word w = append-nil (bytes32 w)

module _ (out₀ : List ℕ) (at : ℕ) (list : List ℕ) (room : at + 4 * length list ≤ length out₀) where
  pub words_none : out₀ ≡ placed out₀ at (word_bytes (take 0 list))
  unfolding word_bytes
  words_none = placed_none out₀ at

  pub words_turn : (i : ℕ) (out next : List ℕ) → i < length list → out ≡ placed out₀ at (word_bytes (take i list))
      → next ≡ placed out (at + 4 * i) (bytes32 (get_or list i 0)) → next ≡ placed out₀ at (word_bytes (take (i + 1) list))
  words_turn i out next h e f =
      f
      ∙ ap (λ (l : List ℕ). placed l (at + 4 * i) (bytes32 (get_or list i 0))) e
      ∙ ap (λ (k : ℕ). placed (placed out₀ at (word_bytes (take i list))) (at + k) (bytes32 (get_or list i 0))) (sym size)
      ∙ placed_more out₀ at (word_bytes (take i list)) (bytes32 (get_or list i 0)) (omega (arith, size, four (get_or list i 0)))
      ∙ ap (λ (l : List ℕ). placed out₀ at l) grown
    where
      size : length (word_bytes (take i list)) ≡ 4 * i
      size = length_words (take i list) ∙ ap (λ (k : ℕ). 4 * k) (length-take-le i list (omega arith))

      grown : word_bytes (take i list) ++ bytes32 (get_or list i 0) ≡ word_bytes (take (i + 1) list)
      grown =
          sym
          (ap word_bytes (ap (λ (k : ℕ). take k list) (add-one i) ∙ take-suc list i 0 h)
          ∙ words_append (take i list) (get_or list i 0 ∷ [])
          ∙ ap (λ (l : List ℕ). word_bytes (take i list) ++ l) (one_word (get_or list i 0)))
