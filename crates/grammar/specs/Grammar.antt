-- Believed: Document 01, "Formulas": the grammar, rule by rule, as a relation between bytes, tree and depth; with the block TP of
-- document 02's request 1.
use Rattle.std.specs.Prelude.{ℕ, ◌+◌, max, ◌≡◌, true, List, [], ◌∷◌, ◌++◌}
use Rattle.names.specs.Names.{well_named}
use Rattle.texts.specs.Lengths.{is_length, value}
use Rattle.grammar.specs.Tree.{Tree}
use Rattle.grammar.specs.Tree as tree

-- The bytes, the tree that they write and the largest depth of its parts. A part's depth is the number of open brackets, those of
-- blocks included, and of ! ^ ~ around it. Chains group to the left. 33 is !, 94 ^, 126 ~, 40 (, 41 ), 44 a comma, 43 +, 46 a full stop.
mutual
  -- sum = product {"+" product}
  pub data Sum : List ℕ → Tree → ℕ → Type 0 where
    product : {w : List ℕ} {t : Tree} {d : ℕ} → Product w t d → Sum w t d
    plus : {w v : List ℕ} {t u : Tree} {d e : ℕ} → Sum w t d → Product v u e →
        Sum (w ++ (43 ∷ v)) (tree.binary tree.or t u) (max d e)

  -- product = factor {"." factor}
  pub data Product : List ℕ → Tree → ℕ → Type 0 where
    factor : {w : List ℕ} {t : Tree} {d : ℕ} → Factor w t d → Product w t d
    dot : {w v : List ℕ} {t u : Tree} {d e : ℕ} → Product w t d → Factor v u e →
        Product (w ++ (46 ∷ v)) (tree.binary tree.and t u) (max d e)

  -- factor = "!" factor, "^" factor, "~" factor, "(" sum ")", "0", "1", name, SR(sum,sum), RS(sum,sum), TON(length,sum), TOF(length,sum);
  -- and document 02's TP(length,sum)
  pub data Factor : List ℕ → Tree → ℕ → Type 0 where
    inverted : {w : List ℕ} {t : Tree} {d : ℕ} → Factor w t d → Factor (33 ∷ w) (tree.unary tree.invert t) (d + 1)
    rising : {w : List ℕ} {t : Tree} {d : ℕ} → Factor w t d → Factor (94 ∷ w) (tree.unary tree.rise t) (d + 1)
    falling : {w : List ℕ} {t : Tree} {d : ℕ} → Factor w t d → Factor (126 ∷ w) (tree.unary tree.fall t) (d + 1)
    brackets : {w : List ℕ} {t : Tree} {d : ℕ} → Sum w t d → Factor (40 ∷ (w ++ (41 ∷ []))) t (d + 1)
    zero : Factor (48 ∷ []) (tree.leaf tree.down) 0
    one : Factor (49 ∷ []) (tree.leaf tree.up) 0
    named : {w : List ℕ} → well_named w ≡ true → Factor w (tree.leaf (tree.name w)) 0
    sr : {w v : List ℕ} {t u : Tree} {d e : ℕ} → Sum w t d → Sum v u e →
        Factor (83 ∷ 82 ∷ 40 ∷ (w ++ (44 ∷ (v ++ (41 ∷ []))))) (tree.binary tree.sr t u) (max d e + 1)
    rs : {w v : List ℕ} {t u : Tree} {d e : ℕ} → Sum w t d → Sum v u e →
        Factor (82 ∷ 83 ∷ 40 ∷ (w ++ (44 ∷ (v ++ (41 ∷ []))))) (tree.binary tree.rs t u) (max d e + 1)
    ton : (w : List ℕ) {v : List ℕ} {t : Tree} {d : ℕ} → is_length w ≡ true → Sum v t d →
        Factor (84 ∷ 79 ∷ 78 ∷ 40 ∷ (w ++ (44 ∷ (v ++ (41 ∷ []))))) (tree.unary (tree.ton (value w)) t) (d + 1)
    tof : (w : List ℕ) {v : List ℕ} {t : Tree} {d : ℕ} → is_length w ≡ true → Sum v t d →
        Factor (84 ∷ 79 ∷ 70 ∷ 40 ∷ (w ++ (44 ∷ (v ++ (41 ∷ []))))) (tree.unary (tree.tof (value w)) t) (d + 1)
    tp : (w : List ℕ) {v : List ℕ} {t : Tree} {d : ℕ} → is_length w ≡ true → Sum v t d →
        Factor (84 ∷ 80 ∷ 40 ∷ (w ++ (44 ∷ (v ++ (41 ∷ []))))) (tree.unary (tree.tp (value w)) t) (d + 1)

-- the formula that bytes write is a sum
abbrev pub Writes : List ℕ → Tree → ℕ → Type 0
Writes w t d = Sum w t d
