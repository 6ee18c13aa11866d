-- Each rule of the grammar as a step of states: what was read of the operands, put together, is what was read of the whole.
use Prim.Native.Nat.{ℕ, ◌+◌, max}
use native.Mathlib.Omega.{arith}
use mathlib.Core.Path.{◌≡◌, refl, ap, ◌∙◌}
use mathlib.Core.List.{List, [], ◌∷◌, ◌++◌, append_assoc}
use lib.ListN.{length, length-append}
use Rattle.grammar.specs.Tree.{Tree, Unary, Binary, unary, binary}
use Rattle.grammar.specs.Code.{Part, code, longest, one, two, ticks_of}
use Rattle.grammar.specs.Reader.{State, stepped, put}
use Rattle.grammar.specs.PartWords.{plain_part, timed_part}
use Rattle.grammar.proofs.Standing.{state_eq, after}

-- two operands and their operator
pub joined : (o : Binary) (w v : List ℕ) (t u : Tree) (d e b kind deep : ℕ) (s : State Part) → plain_part kind ≡ two o →
    put (plain_part kind) deep 0 (after v u e deep (stepped 1 (after w t d deep s))) ≡ after (w ++ (b ∷ v)) (binary o t u) (max d e) deep s
unfolding put after stepped code longest
joined o w v t u d e b kind deep s p =
    state_eq refl (omega (arith, length-append w (b ∷ v))) (rw (p, append_assoc, append_assoc) refl) (omega arith) (omega arith)

pub prefixed : (b kind : ℕ) (o : Unary) → plain_part kind ≡ one o → ticks_of o ≡ 0 → (w : List ℕ) (t : Tree) (d deep : ℕ) (s : State Part) →
    put (plain_part kind) deep 0 (after w t d (deep + 1) (stepped 1 s)) ≡ after (b ∷ w) (unary o t) (d + 1) deep s
unfolding put after stepped code longest
prefixed b kind o p tk w t d deep s =
    state_eq refl (omega arith) (rw p (append_assoc s.out (code t) (one o ∷ []))) (omega arith) (omega arith)

pub bracketed : (w : List ℕ) (t : Tree) (d deep : ℕ) (s : State Part) →
    stepped 1 (after w t d (deep + 1) (stepped 1 s)) ≡ after (40 ∷ (w ++ (41 ∷ []))) t (d + 1) deep s
unfolding after stepped
bracketed w t d deep s = state_eq refl (omega (arith, length-append w (41 ∷ []))) refl (omega arith) refl

pub latched : (kind : ℕ) (o : Binary) → plain_part kind ≡ two o → (w v : List ℕ) (t u : Tree) (d e deep : ℕ) (s : State Part) →
    put (plain_part kind) deep 0 (stepped 1 (after v u e (deep + 1) (stepped 1 (after w t d (deep + 1) s))))
    ≡ after (w ++ (44 ∷ (v ++ (41 ∷ [])))) (binary o t u) (max d e + 1) deep s
unfolding put after stepped code longest
latched kind o p w v t u d e deep s =
    state_eq refl (omega (arith, length-append w (44 ∷ (v ++ (41 ∷ []))), length-append v (41 ∷ [])))
    (rw (p, append_assoc, append_assoc) refl) (omega arith) (omega arith)

pub clocked : (kind n : ℕ) (o : Unary) → timed_part kind n ≡ one o → ticks_of o ≡ n →
    (w v : List ℕ) (t : Tree) (d deep : ℕ) (s : State Part) →
    put (timed_part kind n) deep n (stepped 1 (after v t d (deep + 1) (stepped 1 (stepped (length w) s))))
    ≡ after (w ++ (44 ∷ (v ++ (41 ∷ [])))) (unary o t) (d + 1) deep s
unfolding put after stepped code longest
clocked kind n o p tk w v t d deep s =
    state_eq refl (omega (arith, length-append w (44 ∷ (v ++ (41 ∷ []))), length-append v (41 ∷ [])))
    (rw p (append_assoc s.out (code t) (one o ∷ []))) (omega arith) (omega arith)

-- a block after its word and bracket
pub worded : (w x : List ℕ) (t : Tree) (d deep : ℕ) (s : State Part) →
    after x t d deep (stepped (length w) s) ≡ after (w ++ x) t d deep s
unfolding after stepped
worded w x t d deep s = state_eq refl (omega (arith, length-append w x)) refl refl refl

pub regroup : (w v l : List ℕ) → (w ++ (44 ∷ (v ++ (41 ∷ [])))) ++ l ≡ w ++ (44 ∷ (v ++ (41 ∷ l)))
regroup w v l = append_assoc w (44 ∷ (v ++ (41 ∷ []))) l ∙ ap (λ (x : List ℕ). w ++ (44 ∷ x)) (append_assoc v (41 ∷ []) l)
