-- Statement: the rows of the law table are the printed texts, read by the grammar with formulas put for the letters and lengths for d and
-- e.
use Rattle.std.specs.Prelude.{ℕ, zero, suc, ◌-◌, ◌≤◌, ◌≡◌, Bool, true, false, cond, ◌&&◌, List, [], ◌∷◌, ◌++◌, eqb, length, get_or}
use Prim.Native.Char.{code}
use Prim.Native.String.{String, [] as none, ◌∷◌ as ◌then◌}
use Rattle.grammar.specs.Tree.{leaf, name}
use Rattle.texts.specs.Lengths.{is_length, value}
use Rattle.grammar.specs.Grammar.{Factor, Writes}
use Rattle.grammar.specs.Exactness.{Writable}
use Rattle.laws.specs.Scheme.{Letter, f, g, h, s, r, p, LengthTerm, d, e, d+e, larger, smaller}
use Rattle.laws.specs.Scheme.{Equation, Substitution, put_length, put}
use Rattle.laws.specs.Laws.{equation}
use Rattle.laws.specs.Texts.{texts}

-- the text of a number, from 1
unfoldable pub text_of : ℕ → String
text_of n = get_or texts (n - 1) ""

unfoldable pub bytes : String → List ℕ
bytes none = []
bytes (c then t) = code c ∷ bytes t

-- the bytes before the first =, and those after it
unfoldable pub left_of : List ℕ → List ℕ
left_of [] = []
left_of (b ∷ w) = cond (eqb b 61) [] (b ∷ left_of w)

unfoldable pub right_of : List ℕ → List ℕ
right_of [] = []
right_of (b ∷ w) = cond (eqb b 61) w (right_of w)

-- The signs in the texts, each with what is put for it: the length terms, d+e before d because it begins with d; the letters.
unfoldable pub length_signs : (LengthTerm → List ℕ) → List (String × List ℕ)
length_signs w = ("the larger", w larger) ∷ ("the smaller", w smaller) ∷ ("d+e", w d+e) ∷ ("d", w d) ∷ ("e", w e) ∷ []

unfoldable pub letter_signs : (Letter → List ℕ) → List (String × List ℕ)
letter_signs w = ("f", w f) ∷ ("g", w g) ∷ ("h", w h) ∷ ("s", w s) ∷ ("r", w r) ∷ ("p", w p) ∷ []

-- the second list begins with the first
unfoldable pub begins : List ℕ → List ℕ → Bool
begins [] w = true
begins (a ∷ v) [] = false
begins (a ∷ v) (b ∷ w) = eqb a b && begins v w

-- what is put at a byte, and how many bytes after it belong to the sign; a byte that begins no sign stands for itself
unfoldable pub put_at : List (String × List ℕ) → ℕ → List ℕ → List ℕ × ℕ
put_at [] b w = (b ∷ [], 0)
put_at (sign ∷ others) b w =
    cond (begins (bytes sign.0) (b ∷ w)) (sign.1, length (bytes sign.0) - 1) (put_at others b w)

-- the bytes with all put in, the first so many left out: they belong to a sign before
unfoldable pub filled_after : ℕ → List (String × List ℕ) → List ℕ → List ℕ
filled_after n signs [] = []
filled_after (suc n) signs (b ∷ w) = filled_after n signs w
filled_after zero signs (b ∷ w) = let (new, n) = put_at signs b w in new ++ filled_after n signs w

unfoldable pub filled : List (String × List ℕ) → List ℕ → List ℕ
filled signs w = filled_after 0 signs w

-- With this put in, the grammar gives to each side of the text the tree of that side of the equation, and no other (OneTree of formulas).
pub record AsPrinted (signs : List (String × List ℕ)) (text : String) (x : Substitution) (q : Equation) : Type 0 where
  pub left : (depth : ℕ) × Writes (filled signs (left_of (bytes text))) (put x q.left) depth
  pub right : (depth : ℕ) × Writes (filled signs (right_of (bytes text))) (put x q.right) depth

-- the lengths in decimal digits
abbrev pub Digits : (LengthTerm → List ℕ) → Substitution → Type 0
Digits w x = (n : LengthTerm) → (is_length (w n) ≡ true) × (value (w n) ≡ put_length x.first x.second n)

-- the letters as they stand: names
unfoldable pub own_name : Letter → List ℕ
own_name f = bytes "f"
own_name g = bytes "g"
own_name h = bytes "h"
own_name s = bytes "s"
own_name r = bytes "r"
own_name p = bytes "p"

abbrev pub OwnNames : Substitution → Type 0
OwnNames x = (l : Letter) → x.formula l ≡ leaf (name (own_name l))

-- There are 55 texts, and each row of the table is its text: the letters are the grammar's names, and lengths are put for d and e.
pub record RowsAsPrinted : Type 0 where
  pub number : length texts ≡ 55
  pub rows : (n : ℕ) → 1 ≤ n → n ≤ 55 → (x : Substitution) → OwnNames x → (w : LengthTerm → List ℕ) → Digits w x
      → AsPrinted (length_signs w) (text_of n) x (equation n)

-- The texts of what is put for the letters, d and e: a formula is written as a factor, in brackets if it is not one already.
pub record Write (v : Letter → List ℕ) (w : LengthTerm → List ℕ) (x : Substitution) : Type 0 where
  pub formulas : (l : Letter) → (depth : ℕ) × Factor (v l) (x.formula l) depth
  pub lengths : Digits w x

-- So too with any formulas put for the letters.
abbrev pub RowsWithFormulas : Type 0
RowsWithFormulas =
    (n : ℕ) → 1 ≤ n → n ≤ 55 → (x : Substitution) (v : Letter → List ℕ) (w : LengthTerm → List ℕ) → Write v w x
    → AsPrinted (length_signs w ++ letter_signs v) (text_of n) x (equation n)

-- Whatever formulas are put for the letters and lengths for d and e, there are texts of them.
abbrev pub EverySubstitutionWritten : Type 0
EverySubstitutionWritten =
    (x : Substitution) → ((l : Letter) → Writable (x.formula l)) → (v : Letter → List ℕ) × (w : LengthTerm → List ℕ) × Write v w x
