-- A formula read for a sheet that is accepted: 10, 11, 8, 12, 13, or the code words of its parts with the places of its names.
use Prim.Native.Nat.{ℕ, ◌≤◌}
use native.Mathlib.Omega.{arith}
use mathlib.Core.Path.{◌≡◌, sym, ◌∙◌, ap}
use mathlib.Core.List.{List, ◌++◌}
use mathlib.Core.Logic.{◌⊎◌, inl, inr}
use lib.ListN.{length, take, drop, length-map, length-append}
use lib.Seq.{take_at}
use borrow.Author.Tests.{eq-eqb}
use Rattle.slices.specs.Bytes.{Bytes}
use Rattle.signals.specs.Answers.{first_of}
use Rattle.signals.specs.declared.Written.{Written}
use Rattle.signals.specs.declared.Written.TheVariants.{Count, Refused}
use Rattle.signals.proofs.FirstFault.{both_none, first_is, next_is}
use Rattle.grammar.specs.Formula.{formula_fault, code_of}
use Rattle.format.specs.Reading.{sheet_fault}
use Rattle.calls.specs.Calls.{reading_fault}
use Rattle.calls.proofs.FirstFault.{zero_or_not}
use Rattle.machine.specs.Machine.{placed_word, placed_codes, Coded}
use Rattle.machine.proofs.Preparing.{names_found_lem}
use Rattle.machine.proofs.FormulaRan.{read_fine}
use Rattle.machine.proofs.Answers.{counted, refused_by}
use Rattle.preparing.specs.Preparing.{preparing_fault, placed_after, PreparesFor, judged_fault, judged_code, JudgesAndPrepares}

module _ (sheet text : List ℕ) (bytes : Bytes sheet) (ok : sheet_fault sheet ≡ 0) where
  same : preparing_fault sheet text ≡ reading_fault sheet text
  unfolding preparing_fault reading_fault
  same = go (zero_or_not (formula_fault text))
    where
      go : (formula_fault text ≡ 0) ⊎ (¬ (formula_fault text ≡ 0)) → preparing_fault sheet text ≡ reading_fault sheet text
      go (inl z) = rw (names_found_lem sheet text ok bytes z)
      go (inr x) = first_is (formula_fault text) _ x ∙ sym (first_is (formula_fault text) _ x)

  module _ (codes old : List ℕ) (answer : Written) (p : PreparesFor sheet text old answer codes) where
    pub read_refused : (f : ℕ) → answer ≡ Refused f → (reading_fault sheet text ≡ f) × (f ≡ 0 → ⊥)
    read_refused f e =
        let q = refused_by (preparing_fault sheet text) (code_of text) f (sym p.0 ∙ e) in
        (sym same ∙ q.0, q.1)

    module _ (n : ℕ) (e : answer ≡ Count n) where
      pub read_none : reading_fault sheet text ≡ 0
      read_none = sym same ∙ (counted (preparing_fault sheet text) (code_of text) n (sym p.0 ∙ e)).0

      count : n ≡ length (code_of text)
      count = (counted (preparing_fault sheet text) (code_of text) n (sym p.0 ∙ e)).1

      stored : codes ≡ placed_codes sheet text ++ drop (length (code_of text)) old
      unfolding placed_after
      stored = p.1 ∙ rw (eq-eqb (formula_fault text) 0 (read_fine sheet text read_none).0)

      pub few_codes : n ≤ length codes
      few_codes =
          let l = ap length stored ∙ length-append (placed_codes sheet text) (drop (length (code_of text)) old) in
          omega (arith, count, length-map (code_of text) (placed_word sheet text))

      pub coded : Coded sheet text (take n codes)
      coded =
          let long : n ≡ length (placed_codes sheet text) = count ∙ sym (length-map (code_of text) (placed_word sheet text)) in
          record {
            read = read_none;
            placed = ap (take n) stored ∙ take_at (placed_codes sheet text) (drop (length (code_of text)) old) n (sym long);
          }

-- the same after the sheet's faults
module _ (sheet text : List ℕ) (bytes : Bytes sheet) (codes old : List ℕ) (answer : Written)
    (p : JudgesAndPrepares sheet text old answer codes) where
  pub judged_refused : (f : ℕ) → answer ≡ Refused f → (first_of (sheet_fault sheet) (reading_fault sheet text) ≡ f) × (f ≡ 0 → ⊥)
  unfolding judged_fault
  judged_refused f e =
      let q = refused_by (judged_fault sheet text) (code_of text) f (sym p.0 ∙ e) in
      (go (zero_or_not (sheet_fault sheet)) ∙ q.0, q.1)
    where
      go : (sheet_fault sheet ≡ 0) ⊎ (¬ (sheet_fault sheet ≡ 0))
          → first_of (sheet_fault sheet) (reading_fault sheet text) ≡ judged_fault sheet text
      go (inl z) = ap (first_of (sheet_fault sheet)) (sym (same sheet text bytes z))
      go (inr x) = first_is (sheet_fault sheet) _ x ∙ sym (first_is (sheet_fault sheet) (preparing_fault sheet text) x)

  module _ (n : ℕ) (e : answer ≡ Count n) where
    pub sheet_fine : sheet_fault sheet ≡ 0
    unfolding judged_fault
    sheet_fine = (both_none (sheet_fault sheet) (preparing_fault sheet text)
        (counted (judged_fault sheet text) (code_of text) n (sym p.0 ∙ e)).0).0

    prepares : PreparesFor sheet text old answer codes
    unfolding judged_fault judged_code
    prepares = (
      rw (next_is (sheet_fault sheet) (preparing_fault sheet text) sheet_fine) at p.0,
      rw (eq-eqb (sheet_fault sheet) 0 sheet_fine) at p.1,
    )

    pub judged_few : n ≤ length codes
    judged_few = few_codes sheet text bytes sheet_fine codes old answer prepares n e

    pub judged_coded : Coded sheet text (take n codes)
    judged_coded = coded sheet text bytes sheet_fine codes old answer prepares n e
