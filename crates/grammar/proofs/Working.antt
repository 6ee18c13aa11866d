-- The parts of a tree in working-out order, worked out, give the tree: so they determine it.
use mathlib.Core.Path.{◌≡◌, refl, sym, ap, ◌∙◌}
use mathlib.Core.List.{List, [], ◌∷◌, ◌++◌, append_assoc, append-nil}
use Rattle.grammar.specs.Tree.{Tree, leaf, unary, binary}
use Rattle.grammar.specs.Code.{Part, one, two, code, work, top, tree_of}
use Rattle.grammar.specs.Places.{CodeDetermines}

pub worked : (t : Tree) (ps : List Part) (stack : List Tree) → work (code t ++ ps) stack ≡ work ps (t ∷ stack)
unfolding code work
worked (leaf l) ps stack = refl
worked (unary o t) ps stack = ap (λ (l : List Part). work l stack) (append_assoc (code t) (one o ∷ []) ps) ∙ worked t (one o ∷ ps) stack
worked (binary o t u) ps stack =
    ap (λ (l : List Part). work l stack) (append_assoc (code t) (code u ++ (two o ∷ [])) ps
    ∙ ap (λ (l : List Part). code t ++ l) (append_assoc (code u) (two o ∷ []) ps))
    ∙ worked t (code u ++ (two o ∷ ps)) stack
    ∙ worked u (two o ∷ ps) (t ∷ stack)

pub tree_back : (t : Tree) → tree_of (code t) ≡ t
unfolding tree_of work
tree_back t = ap top (ap (λ (l : List Part). work l []) (sym (append-nil (code t))) ∙ worked t [] [])

pub code_determines : CodeDetermines
code_determines t u e = sym (tree_back t) ∙ ap tree_of e ∙ tree_back u
