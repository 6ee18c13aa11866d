-- The reader accepts exactly the bytes that the grammar derives, with that tree and depth.
use Prim.Native.Nat.{ℕ, ◌+◌, ◌*◌, ◌≤◌, ◌<◌, max}
use native.Mathlib.Omega.{arith}
use mathlib.Core.Path.{◌≡◌, refl, sym, ap, ◌∙◌, subst}
use mathlib.Core.Bool.{Bool, true, false, not}
use mathlib.Core.List.{List, [], ◌∷◌, ◌++◌, append-nil}
use lib.Dec.{ltb, eqb}
use lib.ListN.{length, length-append}
use borrow.Author.Tests.{eq-eqb, eqb-true, ltb-true, ltb-false, not-false}
use Rattle.grammar.specs.Tree.{Tree, Unary, leaf, unary, binary, ton, tof, tp, invert, rise, fall}
use Rattle.grammar.specs.Code.{Part, longest, tree_of, ticks_of}
use Rattle.grammar.specs.Grammar.{Sum}
use Rattle.grammar.specs.Reader.{State, start, read_text, sum_at}
use Rattle.grammar.specs.Formula.{spelled, accepted, formula_tree, depth_of, parts_of, longest_of}
use Rattle.grammar.specs.Exactness.{ReaderExact, OneTree, PartsExact, LengthIn, of_ton, of_tof, of_tp, under, first, second}
use Rattle.signals.proofs.Truth.{and_left, and_right}
use Rattle.grammar.proofs.Standing.{after}
use Rattle.grammar.proofs.Complete.{whole, sum_reads, ended}
use Rattle.grammar.proofs.Sound.{sum_found}
use Rattle.grammar.proofs.Working.{tree_back}

pub text_read : (w : List ℕ) (t : Tree) (d : ℕ) → Sum w t d → read_text (spelled w) w ≡ after w t d 0 start
unfolding read_text
text_read w t d x =
    let e = append-nil w in
    whole w w t d (sum_reads w x) (5 * length w + 4) 0 start [] (record { fine = refl; left = sym e }) ended (omega (arith, ap length e))

pub accepted_of : (w : List ℕ) (t : Tree) (d : ℕ) → Sum w t d → accepted w ≡ true
unfolding accepted after
accepted_of w t d x = rw (text_read w t d x, eq-eqb (0 + length w) (length w) (omega arith)) refl

pub parts_exact : PartsExact
unfolding parts_of after
parts_exact w t d x = ap (λ (r : State Part). r.out) (text_read w t d x)

pub tree_of_lem : (w : List ℕ) (t : Tree) (d : ℕ) → Sum w t d → formula_tree w ≡ t
unfolding formula_tree
tree_of_lem w t d x = ap tree_of (parts_exact w t d x) ∙ tree_back t

pub depth_of_lem : (w : List ℕ) (t : Tree) (d : ℕ) → Sum w t d → depth_of w ≡ d
unfolding depth_of after
depth_of_lem w t d x = let e : max 0 (0 + d) ≡ d = omega arith in ap (λ (r : State Part). r.deepest) (text_read w t d x) ∙ e

pub longest_of_lem : (w : List ℕ) (t : Tree) (d : ℕ) → Sum w t d → longest_of w ≡ longest t
unfolding longest_of after
longest_of_lem w t d x = let e : max 0 (longest t) ≡ longest t = omega arith in ap (λ (r : State Part). r.longest) (text_read w t d x) ∙ e

nothing : (l : List ℕ) → length l ≡ 0 → l ≡ []
nothing [] e = refl
nothing (b ∷ l) e = absurd (omega arith)

pub derived_of : (w : List ℕ) → accepted w ≡ true → (t : Tree) × (d : ℕ) × Sum w t d
unfolding accepted after read_text
derived_of w e =
    let r = sum_at (spelled w) w (5 * length w + 4) 0 start in
    let f = sum_found w (5 * length w + 4) 0 start (and_left r.ok (eqb r.at (length w)) e) in
    let q : r.at ≡ length w = eqb-true r.at (length w) (and_right r.ok (eqb r.at (length w)) e) in
    let g : r.at ≡ 0 + length f.bytes = ap (λ (x : State Part). x.at) f.gives in
    let here : w ≡ f.bytes ++ f.rest = f.here.left in
    let size : length w ≡ length f.bytes + length f.rest = ap length here ∙ length-append f.bytes f.rest in
    let none : f.rest ≡ [] = nothing f.rest (omega arith) in
    let same : f.bytes ≡ w = sym (here ∙ ap (λ (l : List ℕ). f.bytes ++ l) none ∙ append-nil f.bytes) in
    (f.tree, f.depth, subst (λ (l : List ℕ). Sum l f.tree f.depth) same f.derived)

pub reader_exact : ReaderExact
reader_exact w t d = (
  λ x. (accepted_of w t d x, tree_of_lem w t d x, depth_of_lem w t d x),
  λ h.
      let g = derived_of w h.0 in
      let e1 : g.0 ≡ t = sym (tree_of_lem w g.0 g.1 g.2) ∙ h.1 in
      let e2 : g.1 ≡ d = sym (depth_of_lem w g.0 g.1 g.2) ∙ h.2 in
      subst (λ (k : ℕ). Sum w t k) e2 (subst (λ (u : Tree). Sum w u g.1) e1 g.2),
)

pub one_tree : OneTree
one_tree w t u d e x y = (sym (tree_of_lem w t d x) ∙ tree_of_lem w u e y, sym (depth_of_lem w t d x) ∙ depth_of_lem w u e y)

-- the longest length is one of the tree's
pub longest_in : (m : ℕ) (t : Tree) → m < longest t → (n : ℕ) × LengthIn n t × (m < n)
unfolding longest
longest_in m (leaf l) h = absurd (omega arith)
longest_in m (unary o t) h = go o (ltb m (longest t)) refl (longest_in m t) h
  where
    go : (o : Unary) (z : Bool) → ltb m (longest t) ≡ z → (m < longest t → (n : ℕ) × LengthIn n t × (m < n))
        → m < max (longest t) (ticks_of o) → (n : ℕ) × LengthIn n (unary o t) × (m < n)
    go o true z ih h = let r = ih (ltb-true m (longest t) z) in (r.0, under r.1, r.2)
    go (ton n) false z ih h = let k = ltb-false m (longest t) z in (n, of_ton, omega arith)
    go (tof n) false z ih h = let k = ltb-false m (longest t) z in (n, of_tof, omega arith)
    go (tp n) false z ih h = let k = ltb-false m (longest t) z in (n, of_tp, omega arith)
    go invert false z ih h = let k = ltb-false m (longest t) z in absurd (omega arith)
    go rise false z ih h = let k = ltb-false m (longest t) z in absurd (omega arith)
    go fall false z ih h = let k = ltb-false m (longest t) z in absurd (omega arith)
longest_in m (binary o t u) h = go (ltb m (longest t)) refl (longest_in m t) (longest_in m u)
  where
    go : (z : Bool) → ltb m (longest t) ≡ z → (m < longest t → (n : ℕ) × LengthIn n t × (m < n))
        → (m < longest u → (n : ℕ) × LengthIn n u × (m < n)) → (n : ℕ) × LengthIn n (binary o t u) × (m < n)
    go true z f g = let r = f (ltb-true m (longest t) z) in (r.0, first r.1, r.2)
    go false z f g = let k = ltb-false m (longest t) z in let r = g (omega arith) in (r.0, second r.1, r.2)

pub in_longest : (n : ℕ) (t : Tree) → LengthIn n t → n ≤ longest t
unfolding longest
in_longest n t of_ton = omega arith
in_longest n t of_tof = omega arith
in_longest n t of_tp = omega arith
in_longest n t (under l) = let h = in_longest n _ l in omega arith
in_longest n t (first l) = let h = in_longest n _ l in omega arith
in_longest n t (second l) = let h = in_longest n _ l in omega arith

pub refused_of : (w : List ℕ) → not (accepted w) ≡ false → (t : Tree) × (d : ℕ) × Sum w t d
refused_of w e = derived_of w (not-false (accepted w) e)
