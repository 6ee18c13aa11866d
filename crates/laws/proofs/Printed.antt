-- Each row of the table is its printed text: filled, the text is the printer's of the row.
use Prim.Native.Nat.{ℕ, zero, suc, ◌-◌, ◌≤◌, ◌<◌}
use Prim.Native.String.{String}
use native.Mathlib.Omega.{arith}
use mathlib.Core.Path.{◌≡◌, refl, ◌∙◌}
use mathlib.Core.Bool.{true}
use mathlib.Core.List.{List, [], ◌∷◌, ◌++◌, append-nil}
use lib.ListN.{length, get_or}
use Rattle.names.specs.Names.{all_of, well_named, letter}
use Rattle.grammar.specs.Grammar.{Factor, Writes}
use Rattle.laws.specs.Scheme.{Letter, LengthTerm, Scheme, Equation, Substitution, put}
use Rattle.laws.specs.Laws.{table, equation, and_commutes}
use Rattle.laws.specs.Texts.{texts}
use Rattle.laws.specs.Printed.{text_of, bytes, left_of, right_of, length_signs, letter_signs, begins, put_at, filled_after, filled}
use Rattle.laws.specs.Printed.{Digits, own_name, OwnNames, RowsAsPrinted, Write, RowsWithFormulas}
use Rattle.laws.proofs.Printer.{sum, shown, form}

infixr 50 ◌then◌
-- Each side of a row's text, filled, is what the printer makes of that side of the row: with the letters as they stand, and with formulas
-- put for them.
abbrev Alike : (Letter → List ℕ) → (LengthTerm → List ℕ) → String → Equation → Type 0
Alike v w text q =
    (filled (length_signs w) (left_of (bytes text)) ≡ shown own_name w sum q.left [])
    × (filled (length_signs w) (right_of (bytes text)) ≡ shown own_name w sum q.right [])
    × (filled (length_signs w ++ letter_signs v) (left_of (bytes text)) ≡ shown v w sum q.left [])
    × (filled (length_signs w ++ letter_signs v) (right_of (bytes text)) ≡ shown v w sum q.right [])

data Each (v : Letter → List ℕ) (w : LengthTerm → List ℕ) : List String → List Equation → Type 0 where
  done : Each v w [] []
  ◌then◌ : {text : String} {q : Equation} {l : List String} {m : List Equation} → Alike v w text q → Each v w l m →
      Each v w (text ∷ l) (q ∷ m)

-- a line a row
rows : (v : Letter → List ℕ) (w : LengthTerm → List ℕ) → Each v w texts table
unfolding texts table bytes left_of right_of length_signs letter_signs begins put_at filled_after filled shown own_name
rows v w =
    (refl, refl, refl, refl)
    then (refl, refl, refl, refl)
    then (refl, refl, refl, refl)
    then (refl, refl, refl, refl)
    then (refl, refl, refl, refl)
    then (refl, refl, refl, refl)
    then (refl, refl, refl, refl)
    then (refl, refl, refl, refl)
    then (refl, refl, refl, refl)
    then (refl, refl, refl, refl)
    then (refl, refl, refl, refl)
    then (refl, refl, refl, refl)
    then (refl, refl, refl, refl)
    then (refl, refl, refl, refl)
    then (refl, refl, refl, refl)
    then (refl, refl, refl, refl)
    then (refl, refl, refl, refl)
    then (refl, refl, refl, refl)
    then (refl, refl, refl, refl)
    then (refl, refl, refl, refl)
    then (refl, refl, refl, refl)
    then (refl, refl, refl, refl)
    then (refl, refl, refl, refl)
    then (refl, refl, refl, refl)
    then (refl, refl, refl, refl)
    then (refl, refl, refl, refl)
    then (refl, refl, refl, refl)
    then (refl, refl, refl, refl)
    then (refl, refl, refl, refl)
    then (refl, refl, refl, refl)
    then (refl, refl, refl, refl)
    then (refl, refl, refl, refl)
    then (refl, refl, refl, refl)
    then (refl, refl, refl, refl)
    then (refl, refl, refl, refl)
    then (refl, refl, refl, refl)
    then (refl, refl, refl, refl)
    then (refl, refl, refl, refl)
    then (refl, refl, refl, refl)
    then (refl, refl, refl, refl)
    then (refl, refl, refl, refl)
    then (refl, refl, refl, refl)
    then (refl, refl, refl, refl)
    then (refl, refl, refl, refl)
    then (refl, refl, refl, refl)
    then (refl, refl, refl, refl)
    then (refl, refl, refl, refl)
    then (refl, refl, refl, refl)
    then (refl, refl, refl, refl)
    then (refl, refl, refl, refl)
    then (refl, refl, refl, refl)
    then (refl, refl, refl, refl)
    then (refl, refl, refl, refl)
    then (refl, refl, refl, refl)
    then (refl, refl, refl, refl)
    then done

each_at : {v : Letter → List ℕ} {w : LengthTerm → List ℕ} {l : List String} {m : List Equation} → Each v w l m → (n : ℕ) → n < length l
    → Alike v w (get_or l n "") (get_or m n and_commutes)
each_at done n h = absurd (omega arith)
each_at (a then l) zero h = a
each_at (a then l) (suc n) h = each_at l n (omega arith)

number : length texts ≡ 55
unfolding texts
number = refl

row : (n : ℕ) → 1 ≤ n → n ≤ 55 → (v : Letter → List ℕ) (w : LengthTerm → List ℕ) → Alike v w (text_of n) (equation n)
unfolding equation text_of
row n from to v w = each_at (rows v w) (n - 1) (omega (arith, number))

-- the printer's text of a side is derived
side : (v : Letter → List ℕ) (w : LengthTerm → List ℕ) (x : Substitution) → Write v w x → (a : Scheme) (text : List ℕ) →
    text ≡ shown v w sum a []
    → (depth : ℕ) × Writes text (put x a) depth
side v w x h a text e =
    let y = form v w x h sum a in
    let same : text ≡ y.text = e ∙ y.printed [] ∙ append-nil y.text in
    (y.depth, rw same y.derived)

own_name_lem : (l : Letter) → well_named (own_name l) ≡ true
unfolding own_name bytes well_named all_of letter
own_name_lem Letter.f = refl
own_name_lem Letter.g = refl
own_name_lem Letter.h = refl
own_name_lem Letter.s = refl
own_name_lem Letter.r = refl
own_name_lem Letter.p = refl

own_write : (w : LengthTerm → List ℕ) (x : Substitution) → OwnNames x → Digits w x → Write own_name w x
own_write w x own digits = record { formulas = λ l. (0, rw (own l) (Factor.named (own_name_lem l))); lengths = digits }

pub rows_as_printed : RowsAsPrinted
rows_as_printed =
    record {
      number = number;
      rows = λ n from to x own w digits.
          let h = own_write w x own digits in
          let (left, right, _, _) = row n from to own_name w in
          record { left = side own_name w x h (equation n).left _ left; right = side own_name w x h (equation n).right _ right };
    }

pub rows_with_formulas : RowsWithFormulas
rows_with_formulas n from to x v w h =
    let (_, _, left, right) = row n from to v w in
    record { left = side v w x h (equation n).left _ left; right = side v w x h (equation n).right _ right }
