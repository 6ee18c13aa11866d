-- The first word as the one before the second, and a word that changes nothing.
use Prim.Native.Nat.{ℕ, zero, suc, ◌+◌, ◌-◌, ◌*◌, ◌/◌, ◌%◌, ◌≤◌, ◌<◌}
use native.Mathlib.Omega.{arith}
use mathlib.Core.Path.{◌≡◌, refl, sym, ◌∙◌}
use mathlib.Core.Bool.{true, false}
use mathlib.Core.List.{List}
use lib.Dec.{eqb}
use lib.ListN.{length, drop}
use borrow.Author.Tests.{eq-eqb, ne_eqb}
use Rattle.signals.specs.Words.{changes_nothing}
use Rattle.words.proofs.Unchanged.{both_up, both_down}
use Rattle.slices.specs.Bytes.{low32}
use Rattle.format.specs.Reading.{later_words_fault, sheet_words_fault}
use Rattle.format.proofs.Walking.{words_next}

first : (w n : ℕ) (rest : List ℕ) → w ≤ 1
    → later_words_fault (w / 4) (eqb (w % 2) 1) n rest ≡ later_words_fault 0 (eqb w 1) n rest
first zero n rest h = refl
first (suc zero) n rest h = refl
first (suc (suc w)) n rest h = absurd (omega arith)

pub after_first : (n : ℕ) (s : List ℕ) (at w : ℕ) → w ≡ low32 (drop at s) → 4 ≤ length s - at → w ≤ 1
    → later_words_fault (w / 4) (eqb (w % 2) 1) (n - 1) (drop (at + 4) s) ≡ sheet_words_fault n (drop at s)
after_first n s at w e p q = first w (n - 1) (drop (at + 4) s) q ∙ words_next n s at w e p q

-- the word w after the word b
module _ (b w : ℕ) where
  pub unchanged : w ≡ 4 * (w / 4) + 3 * (b % 2) → changes_nothing (eqb (b % 2) 1) w ≡ true
  unchanged e = go (b % 2) (omega arith) e
    where
      go : (v : ℕ) → v < 2 → w ≡ 4 * (w / 4) + 3 * v → changes_nothing (eqb v 1) w ≡ true
      go zero h e = sym (both_down w) ∙ eq-eqb (w % 4) 0 (omega arith)
      go (suc zero) h e = sym (both_up w) ∙ eq-eqb (w % 4) 3 (omega arith)
      go (suc (suc v)) h e = absurd (omega arith)

  pub changed : (w ≡ 4 * (w / 4) + 3 * (b % 2) → ⊥) → changes_nothing (eqb (b % 2) 1) w ≡ false
  changed d = go (b % 2) (omega arith) d
    where
      go : (v : ℕ) → v < 2 → (w ≡ 4 * (w / 4) + 3 * v → ⊥) → changes_nothing (eqb v 1) w ≡ false
      go zero h d = sym (both_down w) ∙ ne_eqb (w % 4) 0 (λ e. d (omega arith))
      go (suc zero) h d = sym (both_up w) ∙ ne_eqb (w % 4) 3 (λ e. d (omega arith))
      go (suc (suc v)) h d = absurd (omega arith)
