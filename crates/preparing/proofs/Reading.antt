-- The paths of reading a formula for a sheet.
use Prim.Native.Nat.{ℕ, ◌≤◌}
use native.Mathlib.Omega.{arith}
use mathlib.Core.Path.{◌≡◌, refl, sym, ◌∙◌, ap}
use mathlib.Core.Bool.{Bool, true, false}
use mathlib.Core.List.{List, ◌++◌, map}
use lib.ListN.{length, take, drop}
use lib.Seq.{take_at, drop_at}
use borrow.Author.Tests.{eq-eqb, ne_eqb}
use Rattle.signals.specs.Answers.{written_of}
use Rattle.signals.specs.declared.Written.{Written}
use Rattle.signals.specs.declared.Written.TheVariants.{Count, Refused}
use Rattle.signals.proofs.FirstFault.{first_is, next_is}
use Rattle.grammar.specs.Formula.{formula_fault, code_of, code_after}
use Rattle.grammar.proofs.Storing.{code_after_front, code_after_length}
use Rattle.format.specs.Reading.{sheet_fault}
use Rattle.machine.specs.Machine.{placed_word, placed_codes, all_found}
use Rattle.machine.proofs.Preparing.{code_short}
use Rattle.machine.proofs.Answers.{counted, refused_by}
use Rattle.preparing.specs.Preparing.{preparing_fault, placed_after, judged_fault, judged_code, PreparesFor, JudgesAndPrepares}

module _ (sheet text codes old : List ℕ) (answer : Written) (a : answer ≡ written_of (formula_fault text) (code_of text))
    (e : codes ≡ code_after text old) where
  pub refused : (f : ℕ) → answer ≡ Refused f → PreparesFor sheet text old (Refused f) codes
  unfolding preparing_fault placed_after code_after
  refused f r =
      let q = refused_by (formula_fault text) (code_of text) f (sym a ∙ r) in
      let x : formula_fault text ≡ 0 → ⊥ = λ z. q.1 (sym q.0 ∙ z) in
      let s : preparing_fault sheet text ≡ formula_fault text = first_is (formula_fault text) _ x in
      (sym r ∙ a ∙ rw s refl, rw (ne_eqb (formula_fault text) 0 x) at e ∙ rw (ne_eqb (formula_fault text) 0 x))

  module _ (n : ℕ) (r : answer ≡ Count n) where
    fine : formula_fault text ≡ 0
    fine = (counted (formula_fault text) (code_of text) n (sym a ∙ r)).0

    count : n ≡ length (code_of text)
    count = (counted (formula_fault text) (code_of text) n (sym a ∙ r)).1

    pub few : n ≤ 32
    few = let s = code_short text fine in omega (arith, count)

    module _ (long : length codes ≡ 32) (b : Bool) (after : List ℕ)
        (h : (after ≡ map (placed_word sheet text) (take n codes) ++ drop n codes) × (b ≡ all_found (map (placed_word sheet text)
        (take n codes))))
      where
        stored : codes ≡ code_of text ++ drop (length (code_of text)) old
        stored =
            let l : length old ≡ 32 = sym (ap length e ∙ code_after_length text old) ∙ long in
            e ∙ code_after_front text old fine (omega (arith, few, count))

        first : take n codes ≡ code_of text
        first = rw (stored) (take_at (code_of text) (drop (length (code_of text)) old) n (sym count))

        rest : drop n codes ≡ drop (length (code_of text)) old
        rest = rw (stored) (drop_at (code_of text) (drop (length (code_of text)) old) n (sym count))

        placed : after ≡ placed_after sheet text old
        unfolding placed_after
        placed = h.0 ∙ rw (first, rest, eq-eqb (formula_fault text) 0 fine)

        names_are : b ≡ all_found (placed_codes sheet text)
        names_are = h.1 ∙ rw first

        pub found : b ≡ true → PreparesFor sheet text old (Count n) after
        unfolding preparing_fault
        found t =
            let s : preparing_fault sheet text ≡ 0 = next_is (formula_fault text) _ fine ∙ rw (← names_are, t) refl in
            (sym r ∙ a ∙ rw (s, fine) refl, placed)

        pub lacking : b ≡ false → PreparesFor sheet text old (Refused 13) after
        unfolding preparing_fault written_of
        lacking t =
            let s : preparing_fault sheet text ≡ 13 = next_is (formula_fault text) _ fine ∙ rw (← names_are, t) refl in
            (rw s refl, placed)

-- after the sheet's faults
pub judged : (sheet text codes old : List ℕ) (answer : Written) (f : ℕ) → f ≡ sheet_fault sheet → f ≡ 0
    → PreparesFor sheet text old answer codes → JudgesAndPrepares sheet text old answer codes
unfolding judged_fault judged_code
judged sheet text codes old answer f e z p =
    let ok : sheet_fault sheet ≡ 0 = sym e ∙ z in
    (rw (next_is (sheet_fault sheet) (preparing_fault sheet text) ok) p.0, rw (eq-eqb (sheet_fault sheet) 0 ok) p.1)

pub faulty : (sheet text codes : List ℕ) (f : ℕ) → f ≡ sheet_fault sheet → (f ≡ 0 → ⊥)
    → JudgesAndPrepares sheet text codes (Refused f) codes
unfolding judged_fault judged_code written_of
faulty sheet text codes f e z =
    let x : sheet_fault sheet ≡ 0 → ⊥ = λ w. z (e ∙ w) in (
      rw (first_is (sheet_fault sheet) (preparing_fault sheet text) x, ne_eqb (sheet_fault sheet) 0 x, e),
      rw
          (ne_eqb (sheet_fault sheet) 0 x),
    )
