-- What the up-time call gives, and its answer's reading and giving.
use Prim.Native.Nat.{ℕ, ◌≤◌}
use mathlib.Core.Path.{◌≡◌, refl, ◌∙◌, ap}
use mathlib.Core.List.{List}
use lib.ListN.{length}
use borrow.Author.Tests.{eq-eqb, ne_eqb}
use Rattle.slices.specs.Bytes.{Bytes}
use Rattle.signals.specs.Words.{most_words}
use Rattle.signals.specs.Answers.{output_of}
use Rattle.signals.proofs.AnswersSay.{by_fault, is_fault}
use Rattle.format.specs.Reading.{signals_on, list_named, environment_on}
use Rattle.format.specs.Calls.{lookup_fault}
use Rattle.format.proofs.Theorems.{lookup_gives_the_list}
use Rattle.stretches.specs.Stretches.{stretches_before}
use Rattle.stretches.specs.Calls.{fault_of_up_time, count_of_up_time, total_of_up_time, up_time_for, stretches_on, up_time_words}
use Rattle.stretches.specs.Calls.{up_time_fault}
use Rattle.stretches.specs.Calls.{CallOfUpTime}
use Rattle.stretches.specs.Sentences.{Gives, UpTimeGives, GivenUpTime, UpTimeSays}
use Rattle.stretches.specs.declared.UpTime.{UpTime}
use Rattle.stretches.specs.declared.UpTime.TheVariants.{Told, Refused}
use Rattle.stretches.proofs.LongestRuns.{stretches_of}
use Rattle.stretches.proofs.FewStretches.{few_words}
use Rattle.stretches.proofs.Totals.{totals}

gives : (sheet name : List ℕ) (H : ℕ) (out : List ℕ) (answer : UpTime) (after : List ℕ) → CallOfUpTime sheet name H out answer after
    → up_time_fault sheet name H (length out) ≡ 0 → Gives sheet name H out answer after
unfolding up_time_for output_of up_time_words stretches_on
gives sheet name H out answer after call z =
    record {
      stretches = stretches_before (environment_on sheet name) H;
      those = stretches_of (environment_on sheet name) H;
      answered =
          (rw (eq-eqb _ 0 z) at call.0)
          ∙ ap (Told (length (up_time_words sheet name H))) (totals.total (environment_on sheet name) H);
      written = rw (eq-eqb _ 0 z) at call.1;
    }

refused : (sheet name : List ℕ) (H : ℕ) (out : List ℕ) (answer : UpTime) (after : List ℕ) → CallOfUpTime sheet name H out answer after
    → ¬ (up_time_fault sheet name H (length out) ≡ 0) → (answer ≡ Refused (up_time_fault sheet name H (length out))) × (after ≡ out)
unfolding up_time_for output_of
refused sheet name H out answer after call z = (rw (ne_eqb _ 0 z) at call.0, rw (ne_eqb _ 0 z) at call.1)

-- the words of a name that is found are few
pub suffices : (sheet name : List ℕ) (H : ℕ) → Bytes sheet → lookup_fault sheet name ≡ 0 → length (up_time_words sheet name H) ≤ most_words
unfolding up_time_words stretches_on environment_on
suffices sheet name H b z = few_words (list_named name (signals_on sheet)) H (lookup_gives_the_list sheet name b z).listed

pub up_time_gives : UpTimeGives
up_time_gives = record { gives = gives; refused = refused; suffices = suffices }

every_answer : (answer : UpTime) → GivenUpTime answer
    → up_time_for (fault_of_up_time answer) (count_of_up_time answer) (total_of_up_time answer) ≡ answer
unfolding up_time_for
every_answer (Told count total) h = refl
every_answer (Refused f) h = rw (is_fault f h)

pub up_time_says : UpTimeSays
unfolding up_time_for
up_time_says =
    record {
      fault = λ f count total. by_fault (λ g x. fault_of_up_time x ≡ g) f (Told count total) Refused refl (λ g l. refl);
      value = λ count total. (refl, refl);
      refused = λ f count total l. rw (is_fault f l) (refl, refl);
      given = λ f count total. by_fault (λ g x. GivenUpTime x) f (Told count total) Refused tt (λ g l. l);
      every = every_answer;
    }
