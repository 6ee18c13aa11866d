-- What the reader finds in a latch and in a timer, after word and bracket.
use Prim.Native.Nat.{ℕ, ◌+◌, ◌-◌}
use native.Mathlib.Omega.{arith}
use mathlib.Core.Path.{◌≡◌, refl, ap, ◌∙◌}
use mathlib.Core.List.{List, ◌∷◌, ◌++◌}
use lib.ListN.{length}
use lib.Seq.{take-append_seam}
use Rattle.grammar.specs.Tree.{Binary}
use Rattle.grammar.specs.Code.{Part, two}
use Rattle.texts.specs.Lengths.{value}
use Rattle.grammar.specs.Grammar.{Sum}
use Rattle.grammar.specs.Reader.{State, stepped, expect, put, value_between, timed}
use Rattle.grammar.specs.Formula.{spelled}
use Rattle.grammar.specs.PartWords.{plain_part}
use Rattle.grammar.proofs.Standing.{At, step_at, steps_at, expect_at, after, after_at}
use Rattle.grammar.proofs.Steps.{latched, clocked, regroup}
use Rattle.grammar.proofs.Found.{same_left, Found, LatchFound, TimerFound}
use Rattle.grammar.proofs.FoundLeaves.{LengthFound}

module _ (text : List ℕ) where
  -- the two operands of a latch, each read to its end
  pub latch_found : (o : Binary) (kind : ℕ) → plain_part kind ≡ two o → (deep : ℕ) (s b1 b2 : State Part) →
      Found text Sum (deep + 1) s b1 → Found text Sum (deep + 1) (expect text 44 b1) b2 →
      (l2 : List ℕ) → At text b1 (44 ∷ l2) → (l3 : List ℕ) → At text b2 (41 ∷ l3) →
      LatchFound text o deep s (put (plain_part kind) deep 0 (expect text 41 b2))
  latch_found o kind p deep s b1 b2 f1 f2 l2 x2 l3 x3 =
      let e2 = expect_at x2 in
      let a2 : At text (stepped 1 b1) (f2.bytes ++ f2.rest) = rw e2 at f2.here in
      let q2 : f1.rest ≡ 44 ∷ l2 = same_left (after_at f1.bytes f1.tree f1.depth (deep + 1) f1.here) (rw f1.gives at x2) in
      let q3 : l2 ≡ f2.bytes ++ f2.rest = same_left (step_at x2) a2 in
      let q4 : f2.rest ≡ 41 ∷ l3 = same_left (after_at f2.bytes f2.tree f2.depth (deep + 1) f2.here) (rw f2.gives at x3) in
      let g2 : b2 ≡ after f2.bytes f2.tree f2.depth (deep + 1) (stepped 1 b1) = f2.gives
      ∙ ap (after f2.bytes f2.tree f2.depth (deep + 1)) e2 in
      record {
        first = f1.bytes;
        second = f2.bytes;
        t = f1.tree;
        u = f2.tree;
        d = f1.depth;
        e = f2.depth;
        rest = l3;
        here = rw (regroup f1.bytes f2.bytes l3, ← q4, ← q3, ← q2) f1.here;
        left = f1.derived;
        right = f2.derived;
        gives =
            ap (put (plain_part kind) deep 0) (expect_at x3
            ∙ ap (stepped 1) (g2 ∙ ap (λ (x : State Part). after f2.bytes f2.tree f2.depth (deep + 1) (stepped 1 x)) f1.gives))
            ∙ latched kind o p f1.bytes f2.bytes f1.tree f2.tree f1.depth f2.depth deep s;
      }

  number_here : (s r : State Part) (w l : List ℕ) → At text s (w ++ l) → r ≡ stepped (length w) s →
      value_between text s.at r.at ≡ value w
  unfolding value_between stepped
  number_here s r w l a e =
      let gap : (s.at + length w) - s.at ≡ length w = omega arith in
      rw (e, gap, a.left, take-append_seam w l) refl

  -- the length and the operand of a timer
  pub timer_found : (kind deep : ℕ) (s p1 b : State Part) → LengthFound text s p1 →
      Found text Sum (deep + 1) (expect text 44 p1) b →
      (l2 : List ℕ) → At text p1 (44 ∷ l2) → (l3 : List ℕ) → At text b (41 ∷ l3) →
      TimerFound text kind deep s (timed (spelled text) text kind deep s.at p1.at b)
  unfolding timed value_between
  timer_found kind deep s p1 b g f l2 x2 l3 x3 =
      let e2 = expect_at x2 in
      let a2 : At text (stepped 1 p1) (f.bytes ++ f.rest) = rw e2 at f.here in
      let q2 : g.rest ≡ 44 ∷ l2 = same_left (steps_at g.digits g.here) (rw g.gives at x2) in
      let q3 : l2 ≡ f.bytes ++ f.rest = same_left (step_at x2) a2 in
      let q4 : f.rest ≡ 41 ∷ l3 = same_left (after_at f.bytes f.tree f.depth (deep + 1) f.here) (rw f.gives at x3) in
      let g2 : b ≡ after f.bytes f.tree f.depth (deep + 1) (stepped 1 p1) = f.gives
      ∙ ap (after f.bytes f.tree f.depth (deep + 1)) e2 in
      record {
        digits = g.digits;
        body = f.bytes;
        t = f.tree;
        d = f.depth;
        rest = l3;
        here = rw (regroup g.digits f.bytes l3, ← q4, ← q3, ← q2) g.here;
        number = g.number;
        operand = f.derived;
        gives = λ o p tk.
            let v : value_between text s.at p1.at ≡ value g.digits =
            number_here s p1 g.digits g.rest g.here g.gives in
            rw (v, expect_at x3, g2, g.gives) (clocked kind (value g.digits) o p tk g.digits f.bytes f.tree f.depth deep s);
      }
