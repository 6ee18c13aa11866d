-- What the column's call gives, and its answer's reading and giving.
use Prim.Native.Nat.{ℕ, zero, suc, ◌<◌}
use native.Mathlib.Omega.{arith}
use mathlib.Core.Path.{◌≡◌, refl, ◌∙◌, ap}
use mathlib.Core.Bool.{cond}
use mathlib.Core.List.{List, [], ◌∷◌, ◌++◌, map}
use mathlib.Core.Logic.{inl, inr, ◌↔◌}
use lib.Dec.{ltb}
use lib.ListN.{length, get_or, drop, length-map}
use borrow.Author.Tests.{eq-eqb, ne_eqb}
use Rattle.signals.specs.Words.{list_fault, signal_of}
use Rattle.signals.specs.Answers.{first_of, output_of}
use Rattle.signals.specs.declared.Told.TheVariants as told
use Rattle.signals.proofs.FirstFault.{first_is, both_none}
use Rattle.signals.proofs.AnswersSay.{by_fault, is_fault}
use Rattle.columns.specs.Numbers.{moment_of}
use Rattle.columns.specs.Columns.{order_fault, moment_fault, moments_fault, column_word, column_words, words_passed, column_fault}
use Rattle.columns.specs.Columns.{column_for}
use Rattle.columns.specs.Columns.{column_answer, fault_of_column, count_of_column, passed_of_column, CallOfColumn}
use Rattle.columns.specs.Sentences.{Breaks20, Breaks9, ColumnFaultIs, single_call, Gives, ColumnGives, GivenColumn, ColumnSays}
use Rattle.columns.specs.declared.Column.{Column}
use Rattle.columns.specs.declared.Column.TheVariants.{Filled, Refused}
use Rattle.columns.proofs.CallFaults.{column_faults_exact}
use Rattle.columns.proofs.PassedWords.{passed_by, passed_only}
use Rattle.columns.proofs.FineCalls.{fine}
use Rattle.columns.proofs.SingleCalls.{single_calls, single_column, single_listed, single_value, single_outside}

each_none : (ms : List ℕ) → moments_fault ms ≡ 0 → (i : ℕ) → i < length ms → moment_fault (get_or ms i 0) ≡ 0
unfolding moments_fault
each_none [] z i l = absurd (omega (arith, l))
each_none (m ∷ ms) z zero l = (both_none (moment_fault m) (moments_fault ms) z).0
each_none (m ∷ ms) z (suc i) l = each_none ms (both_none (moment_fault m) (moments_fault ms) z).1 i (omega (arith, l))

pub each_word : (f : ℕ → ℕ) (ms : List ℕ) (i : ℕ) → i < length ms → get_or (map f ms) i 0 ≡ f (get_or ms i 0)
each_word f [] i l = absurd (omega (arith, l))
each_word f (m ∷ ms) zero l = refl
each_word f (m ∷ ms) (suc i) l = each_word f ms i (omega (arith, l))

gives : (l ms out : List ℕ) (answer : Column) (after : List ℕ) → CallOfColumn l ms out answer after
    → column_fault l ms (length out) ≡ 0 → Gives l ms out answer after
unfolding column_answer column_for output_of column_words column_word
gives l ms out answer after call z =
    let f = fine l ms (length out) z in
    record {
      passed = words_passed l ms;
      counted = passed_by l ms f.list;
      few = f.few;
      answered = rw (eq-eqb _ 0 z) at call.0;
      words = column_words l ms;
      many = length-map ms (column_word l);
      fits = f.fits;
      most = f.most;
      written =
          (rw (eq-eqb _ 0 z) at call.1) ∙ ap (λ (n : ℕ). column_words l ms ++ drop n out) (length-map ms (column_word l));
      single = λ i h. (
        signal_of l (moment_of (get_or ms i 0)),
        single_value l (get_or ms i 0) f.list (each_none ms f.moments i h),
        each_word (column_word l) ms i h,
      );
    }

refused : (l ms out : List ℕ) (answer : Column) (after : List ℕ) → CallOfColumn l ms out answer after
    → ¬ (column_fault l ms (length out) ≡ 0) → (answer ≡ Refused (column_fault l ms (length out))) × (after ≡ out)
unfolding column_answer column_for output_of
refused l ms out answer after call n = (rw (ne_eqb _ 0 n) at call.0, rw (ne_eqb _ 0 n) at call.1)

listed : (l ms : List ℕ) (room : ℕ) → ¬ (list_fault l ≡ 0) → column_fault l ms room ≡ list_fault l
unfolding column_fault
listed l ms room n = first_is (list_fault l) (first_of (order_fault ms) (first_of (moments_fault ms) (cond (ltb room (length ms)) 7 0))) n

-- rising moments of an accepted list are refused with 9 for those outside alone
nine : (l ms : List ℕ) (room : ℕ) → list_fault l ≡ 0 → ¬ Breaks20 ms → (column_fault l ms room ≡ 9) ↔ Breaks9 ms
nine l ms room z o = (
  λ e. to ((column_faults_exact l ms room 9).0 e),
  λ b. (column_faults_exact l ms room 9).1 (inr ((λ n. n z), inr (o, inl (b, refl)))),
)
  where
    to : ColumnFaultIs l ms room 9 → Breaks9 ms
    to (inl (n, e)) = absurd (n z)
    to (inr (a, inl (b, e))) = absurd (omega (arith, e))
    to (inr (a, inr (b, inl (c, e)))) = c
    to (inr (a, inr (b, inr (c, inl (d, e))))) = absurd (omega (arith, e))
    to (inr (a, inr (b, inr (c, inr (d, e))))) = absurd (omega (arith, e))

outside : (l ms : List ℕ) (room : ℕ) → list_fault l ≡ 0 → ¬ Breaks20 ms
    → (column_fault l ms room ≡ 9) ↔ ((i : ℕ) × (i < length ms) × (single_call l (get_or ms i 0) ≡ told.Refused 9))
outside l ms room z o = (
  λ e. let (i, h, b) = (nine l ms room z o).0 e in (i, h, (single_outside l (get_or ms i 0) z).0 b),
  λ (i, h, e). (nine l ms room z o).1 (i, h, (single_outside l (get_or ms i 0) z).1 e),
)

pub column_gives : ColumnGives
column_gives =
    record {
      gives = gives;
      refused = refused;
      only = passed_only;
      calls = single_calls;
      one = single_column;
      listed = λ l ms m room n. (single_listed l m n, listed l ms room n);
      outside = outside;
    }

every_answer : (answer : Column) → GivenColumn answer
    → column_for (fault_of_column answer) (count_of_column answer) (passed_of_column answer) ≡ answer
unfolding column_for
every_answer (Filled count passed) h = refl
every_answer (Refused f) h = rw (is_fault f h)

pub column_says : ColumnSays
unfolding column_for
column_says =
    record {
      fault = λ f count passed. by_fault (λ g x. fault_of_column x ≡ g) f (Filled count passed) Refused refl (λ g l. refl);
      value = λ count passed. (refl, refl);
      refused = λ f count passed l. rw (is_fault f l) (refl, refl);
      given = λ f count passed. by_fault (λ g x. GivenColumn x) f (Filled count passed) Refused tt (λ g l. l);
      every = every_answer;
    }
