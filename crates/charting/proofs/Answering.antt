-- The answer of the column's call from what the code has: the first fault that is one refuses it, and without a fault the column is filled.
use Prim.Native.Nat.{ℕ, ◌≤◌, ◌<◌}
use native.Mathlib.Omega.{arith}
use mathlib.Core.Path.{◌≡◌, refl, sym, ◌∙◌, ap}
use mathlib.Core.Bool.{cond}
use mathlib.Core.List.{List, ◌++◌}
use lib.Dec.{ltb}
use lib.ListN.{length, drop, length-map}
use borrow.Author.Tests.{lt-ltb, le-ltb, eq-eqb, ne_eqb}
use Rattle.signals.specs.Words.{list_fault}
use Rattle.signals.specs.Answers.{first_of, output_of}
use Rattle.signals.proofs.FirstFault.{first_is, first_some, next_is}
use Rattle.columns.specs.Columns.{most_moments, not_rising, order_fault, moments_fault, column_word, column_words, words_passed}
use Rattle.columns.specs.Columns.{column_fault, column_for, column_answer, CallOfColumn}
use Rattle.columns.specs.declared.Column.TheVariants.{Filled, Refused}

module _ (l ms out : List ℕ) where
  refusal : (fault : ℕ) → fault ≡ column_fault l ms (length out) → ¬ (fault ≡ 0) → CallOfColumn l ms out (Refused fault) out
  unfolding column_answer column_for output_of
  refusal fault e n =
      let some = ne_eqb (column_fault l ms (length out)) 0 (λ z. n (e ∙ z)) in
      (rw some (ap Refused e), rw some refl)

  module _ (listed : ℕ) (e : listed ≡ list_fault l) where
    pub by_list : ¬ (listed ≡ 0) → CallOfColumn l ms out (Refused listed) out
    unfolding column_fault
    by_list n = refusal listed (e ∙ sym (first_is (list_fault l) _ (λ z. n (e ∙ z)))) n

    module _ (z : listed ≡ 0) where
      pub by_many : 1000 < length ms → CallOfColumn l ms out (Refused 20) out
      unfolding column_fault order_fault
      by_many h =
          let many : order_fault ms ≡ 20 = rw (lt-ltb most_moments (length ms) h) refl in
          let is : 20 ≡ column_fault l ms (length out) =
          sym (next_is (list_fault l) _ (sym e ∙ z) ∙ first_some (order_fault ms) _ 20 many (omega arith)) in
          refusal 20 is (λ o. omega (arith, o))

      module _ (few : length ms ≤ 1000) (rising : ℕ) (f : rising ≡ cond (not_rising ms) 20 0) where
        judged : rising ≡ order_fault ms
        unfolding order_fault
        judged = rw (le-ltb most_moments (length ms) few) f

        pub by_order : ¬ (rising ≡ 0) → CallOfColumn l ms out (Refused rising) out
        unfolding column_fault
        by_order n =
            refusal rising (judged ∙ sym (next_is (list_fault l) _ (sym e ∙ z) ∙ first_is (order_fault ms) _ (λ y. n (judged ∙ y)))) n

        module _ (y : rising ≡ 0) (dated : ℕ) (g : dated ≡ moments_fault ms) where
          -- past the list and the order
          rest : (r : ℕ) → r ≡ first_of (moments_fault ms) (cond (ltb (length out) (length ms)) 7 0) → r ≡ column_fault l ms (length out)
          unfolding column_fault
          rest r q = q ∙ sym (next_is (list_fault l) _ (sym e ∙ z) ∙ next_is (order_fault ms) _ (sym judged ∙ y))

          pub by_moments : ¬ (dated ≡ 0) → CallOfColumn l ms out (Refused dated) out
          by_moments n = refusal dated (rest dated (g ∙ sym (first_is (moments_fault ms) _ (λ x. n (g ∙ x))))) n

          module _ (x : dated ≡ 0) where
            pub by_room : length out < length ms → CallOfColumn l ms out (Refused 7) out
            by_room h =
                refusal 7 (rest 7 (rw (next_is (moments_fault ms) _ (sym g ∙ x), lt-ltb (length out) (length ms) h) refl))
                (λ o. omega (arith, o))

            pub filled : length ms ≤ length out → (passed : ℕ) (after : List ℕ) → passed ≡ words_passed l ms
                → after ≡ column_words l ms ++ drop (length ms) out → CallOfColumn l ms out (Filled (length ms) passed) after
            unfolding column_answer column_for output_of column_words
            filled h passed after p w =
                let none : 0 ≡ column_fault l ms (length out) =
                rest 0 (rw (next_is (moments_fault ms) _ (sym g ∙ x), le-ltb (length out) (length ms) h) refl) in
                let fine = eq-eqb (column_fault l ms (length out)) 0 (sym none) in (
                  rw fine (ap (Filled (length ms)) p),
                  rw fine (w ∙ ap (λ (n : ℕ). column_words l ms ++ drop n out) (sym (length-map ms (column_word l)))),
                )
