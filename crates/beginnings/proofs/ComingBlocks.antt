-- The reader comes to the end of each front of bytes in brackets, and of a latch and a timer after their words.
use Prim.Native.Nat.{ℕ, zero, suc, ◌+◌}
use native.Mathlib.Omega.{arith}
use mathlib.Core.Path.{◌≡◌, refl}
use mathlib.Core.Bool.{true}
use mathlib.Core.List.{List, [], ◌∷◌, ◌++◌}
use lib.ListN.{length, length-take, take}
use Rattle.texts.specs.Lengths.{is_length}
use Rattle.grammar.specs.Tree.{Tree}
use Rattle.grammar.specs.Code.{Part}
use Rattle.grammar.specs.Grammar.{Sum}
use Rattle.grammar.specs.Reader.{State, stepped, expect, pass_length, value_between, prefix_kind}
use Rattle.grammar.specs.Reader.{timed, sum_at, factor_at, latch_at, timer_at}
use Rattle.grammar.specs.Formula.{spelled}
use Rattle.grammar.specs.PartWords.{plain_part, timed_part}
use Rattle.grammar.proofs.Standing.{next_of, step_at, after, after_at}
use Rattle.grammar.proofs.Complete.{SumEnds, closed, parted, whole, sum_reads}
use Rattle.beginnings.proofs.Monotone.{on, put_on, expect_on}
use Rattle.beginnings.proofs.Coming.{Reaches, Passes, then_reaches, ReachesSum, ReachesFactor, no_factor}
use Rattle.beginnings.proofs.ComingLeaves.{length_reaches, length_passes}

module _ (text : List ℕ) where
  -- a sum is passed where it ends before the byte
  sum_passes : (w : List ℕ) (t : Tree) (d : ℕ) → Sum w t d → (byte : ℕ) → ((l : List ℕ) → SumEnds (byte ∷ l)) → (deep : ℕ) →
      Passes text (λ n. sum_at (spelled text) text n deep) 4 w byte
  unfolding after
  sum_passes w t d x byte ends deep n s l a h =
      rw (whole text w t d (sum_reads text x) n deep s (byte ∷ l) a (ends l) h) (refl, after_at w t d deep a)

  -- a sum and the bracket that closes it
  closing : (w : List ℕ) (t : Tree) (d : ℕ) → Sum w t d → ReachesSum text w → (deep : ℕ) →
      Reaches text (λ n s. expect text 41 (sum_at (spelled text) text n deep s)) 4 (w ++ (41 ∷ []))
  closing w t d x r deep =
      let none : List ℕ = [] in
      then_reaches text (λ n. sum_at (spelled text) text n deep) (λ n s. s) 4 41 w [] (r deep) (sum_passes w t d x 41 closed deep)
      (λ k n s l a h. omega (arith, length-take k none)) (λ k n s h. h)

  pub brackets_reaches : (w : List ℕ) (t : Tree) (d : ℕ) → Sum w t d → ReachesSum text w → ReachesFactor text (40 ∷ (w ++ (41 ∷ [])))
  unfolding factor_at prefix_kind stepped
  brackets_reaches w t d x r deep zero n s l a h = no_factor text deep n s l a h
  brackets_reaches w t d x r deep (suc k) zero s l a h = absurd (omega arith)
  brackets_reaches w t d x r deep (suc k) (suc n) s l a h =
      rw (next_of a) (omega (arith, closing w t d x r (deep + 1) k n (stepped 1 s) l (step_at a) (omega arith)))

  -- an operand, a comma, a sum and the bracket that closes it
  operands_reach : (first : ℕ → State Part → State Part) (w : List ℕ) → Reaches text first 4 w → Passes text first 4 w 44 →
      (v : List ℕ) (t : Tree) (d : ℕ) → Sum v t d → ReachesSum text v → (deep : ℕ) →
      Reaches text (λ n s. expect text 41 (sum_at (spelled text) text n deep (expect text 44 (first n s)))) 4 (w ++ (44 ∷ (v ++ (41 ∷ []))))
  operands_reach first w r pass v t d x q deep =
      then_reaches text first (λ n s. expect text 41 (sum_at (spelled text) text n deep s)) 4 44 w (v ++ (41 ∷ [])) r pass
      (closing v t d x q deep)
      (λ k n s h. expect_on (spelled text) text k 41 (sum_at (spelled text) text n deep s) ((on (spelled text) text n).sum k deep s h))

  pub latch_reaches : (kind : ℕ) (w v : List ℕ) (t u : Tree) (d e : ℕ) → Sum w t d → ReachesSum text w → Sum v u e → ReachesSum text v →
      (deep : ℕ) → Reaches text (λ n. latch_at (spelled text) text n kind deep) 5 (w ++ (44 ∷ (v ++ (41 ∷ []))))
  unfolding latch_at
  latch_reaches kind w v t u d e x r y q deep k zero s l a h = absurd (omega arith)
  latch_reaches kind w v t u d e x r y q deep k (suc n) s l a h =
      put_on (spelled text) text (s.at + length (take k (w ++ (44 ∷ (v ++ (41 ∷ [])))))) (plain_part kind) deep 0
      (expect text 41 (sum_at (spelled text) text n (deep + 1) (expect text 44 (sum_at (spelled text) text n (deep + 1) s))))
      (operands_reach (λ n. sum_at (spelled text) text n (deep + 1)) w (r (deep + 1)) (sum_passes w t d x 44 parted (deep + 1)) v u e y q
      (deep + 1) k n s l a (omega arith))

  pub timer_reaches : (kind : ℕ) (w v : List ℕ) (t : Tree) (d : ℕ) → is_length w ≡ true → Sum v t d → ReachesSum text v → (deep : ℕ) →
      Reaches text (λ n. timer_at (spelled text) text n kind deep) 5 (w ++ (44 ∷ (v ++ (41 ∷ []))))
  unfolding timer_at timed
  timer_reaches kind w v t d e x r deep k zero s l a h = absurd (omega arith)
  timer_reaches kind w v t d e x r deep k (suc n) s l a h =
      let value = value_between text s.at (pass_length text s).at in
      put_on (spelled text) text (s.at + length (take k (w ++ (44 ∷ (v ++ (41 ∷ [])))))) (timed_part kind value) deep value
      (expect text 41 (sum_at (spelled text) text n (deep + 1) (expect text 44 (pass_length text s))))
      (operands_reach (λ n. pass_length text) w (length_reaches text w e) (length_passes text w e) v t d x r (deep + 1) k n s l a
      (omega arith))
