-- Where a reader stands in a text: the next byte, a step, and what a reader makes of bytes that it has read.
use Prim.Native.Nat.{ℕ, ◌+◌, max}
use native.Mathlib.Nat.{add-zero}
use native.Mathlib.Omega.{arith}
use mathlib.Core.Path.{◌≡◌, refl, sym, ap, ◌∙◌}
use mathlib.Core.Bool.{true}
use mathlib.Core.List.{List, [], ◌∷◌, ◌++◌}
use lib.Dec.{ltb, eqb}
use lib.ListN.{length, get_or, drop}
use lib.Seq.{drop-drop, get_or-drop, drop-append_seam}
use borrow.Author.Tests.{eq-eqb, eqb-true, ltb-true}
use Rattle.names.specs.Names.{all_of}
use Rattle.grammar.specs.Tree.{Tree}
use Rattle.grammar.specs.Code.{Part, code, longest}
use Rattle.grammar.specs.Reader.{State, next, stepped, expect, starts, block_kind, block_at}
use Rattle.signals.proofs.Truth.{and_left, and_right}

-- bytes that begin with a word are the word and what is after it
pub front : (w l : List ℕ) → all_of (ltb 0) w ≡ true → starts w l ≡ true → l ≡ w ++ drop (length w) l
unfolding starts all_of
front [] l pos e = refl
front (b ∷ w) [] pos e =
    let q : 0 ≡ b = eqb-true 0 b (and_left (eqb 0 b) (starts w []) e) in
    absurd (omega (arith, ltb-true 0 b (and_left (ltb 0 b) (all_of (ltb 0) w) pos)))
front (b ∷ w) (c ∷ l) pos e =
    ap (λ (x : ℕ). x ∷ l) (eqb-true c b (and_left (eqb c b) (starts w l) e))
    ∙ ap (λ (x : List ℕ). b ∷ x) (front w l (and_right (ltb 0 b) (all_of (ltb 0) w) pos) (and_right (eqb c b) (starts w l) e))

module _ {X : Type 0} where
  pub state_eq : {a b : State X} → a.ok ≡ b.ok → a.at ≡ b.at → a.out ≡ b.out → a.deepest ≡ b.deepest → a.longest ≡ b.longest →
      a ≡ b
  state_eq p q r u v = λ i. record { ok = p i; at = q i; out = r i; deepest = u i; longest = v i }

  -- all is well and these bytes are left
  pub record At (text : List ℕ) (s : State X) (l : List ℕ) : Type 0 where
    pub fine : s.ok ≡ true
    pub left : drop s.at text ≡ l

  pub next_of : {text : List ℕ} {s : State X} {l : List ℕ} → At text s l → next text s ≡ get_or l 0 0
  unfolding next
  next_of {text} {s} {l} a = rw (a.fine, ← a.left, get_or-drop s.at text 0 0, add-zero) refl

  pub step_at : {text : List ℕ} {s : State X} {b : ℕ} {l : List ℕ} → At text s (b ∷ l) → At text (stepped 1 s) l
  unfolding stepped
  step_at {text} {s} {b} {l} a = record { fine = a.fine; left = sym (drop-drop 1 s.at text) ∙ ap (drop 1) a.left }

  pub steps_at : {text : List ℕ} {s : State X} (w : List ℕ) {l : List ℕ} → At text s (w ++ l) → At text (stepped (length w) s) l
  unfolding stepped
  steps_at {text} {s} w {l} a =
      record { fine = a.fine; left = sym (drop-drop (length w) s.at text) ∙ ap (drop (length w)) a.left ∙ drop-append_seam w l }

  -- a word that the bytes begin with was there before what is after it
  pub word_at : {text : List ℕ} {s : State X} (w : List ℕ) {l : List ℕ} → all_of (ltb 0) w ≡ true → s.ok ≡ true →
      starts w (drop s.at text) ≡ true → At text (stepped (length w) s) l → At text s (w ++ l)
  unfolding stepped
  word_at {text} {s} w {l} pos e h a =
      record {
        fine = e;
        left = front w (drop s.at text) pos h ∙ ap (λ (x : List ℕ). w ++ x) (drop-drop (length w) s.at text ∙ a.left);
      }

  pub block_of : {text : List ℕ} {s : State X} {l : List ℕ} → At text s l → block_at text s ≡ block_kind l
  unfolding block_at
  block_of a = rw (a.fine, a.left) refl

  pub expect_at : {text : List ℕ} {s : State X} {b : ℕ} {l : List ℕ} → At text s (b ∷ l) → expect text b s ≡ stepped 1 s
  unfolding expect
  expect_at {text} {s} {b} a = rw (eq-eqb (next text s) b (next_of a)) refl

-- what a reader makes of bytes w that write the tree t to depth d, when it stands at s with so many open
unfoldable pub after : List ℕ → Tree → ℕ → ℕ → State Part → State Part
after w t d deep s =
    record {
      ok = true;
      at = s.at + length w;
      out = s.out ++ code t;
      deepest = max s.deepest (deep + d);
      longest = max s.longest (longest t);
    }

pub after_at : {text : List ℕ} {s : State Part} (w : List ℕ) (t : Tree) (d deep : ℕ) {l : List ℕ} → At text s (w ++ l) →
    At text (after w t d deep s) l
unfolding after stepped
after_at w t d deep a = record { fine = refl; left = (steps_at w a).left }
