-- From what the up-time call answers to what is printed.
use Prim.Native.Nat.{ℕ, ◌≤◌}
use native.Mathlib.Decide.{ℕ_discrete}
use native.Mathlib.Omega.{arith}
use mathlib.Core.Path.{◌≡◌, refl, sym, ap, ◌∙◌, subst}
use mathlib.Core.Bool.{Bool, true, false, cond}
use mathlib.Core.List.{List, ◌++◌}
use lib.Dec.{ltb, eqb}
use lib.ListN.{length, take, drop}
use lib.Seq.{take_at}
use borrow.Author.Tests.{eqb-true, eq-eqb, ne_eqb, le-ltb}
use Rattle.slices.specs.Bytes.{Bytes}
use Rattle.signals.specs.Words.{most_words}
use Rattle.signals.specs.Answers.{first_of, output_of}
use Rattle.signals.specs.declared.Verdict.TheVariants.{Refused as Verdict-as-Refused}
use Rattle.signals.proofs.FirstFault.{first_is, first_with_none, both_none}
use Rattle.format.specs.Calls.{lookup_fault}
use Rattle.stretches.specs.Stretches.{sum_of_ticks}
use Rattle.stretches.specs.Calls.{fault_of_up_time, count_of_up_time, total_of_up_time, up_time_for, stretches_on}
use Rattle.stretches.specs.Calls.{horizon_fault, up_time_words, up_time_fault, CallOfUpTime}
use Rattle.stretches.specs.Sentences.{GivenUpTime}
use Rattle.stretches.specs.declared.UpTime.{UpTime}
use Rattle.stretches.specs.declared.UpTime.TheVariants.{Told, Refused}
use Rattle.stretches.proofs.CallGives.{suffices, up_time_says}
use Rattle.texts.specs.Lengths.{value}
use Rattle.inputs.specs.Input.{first_line, second_line, sheet_in}
use Rattle.verdict_line.specs.Line.{line_of}
use Rattle.uptime_page.specs.Page.{total_line, page_text}
use Rattle.uptime_page.specs.Printing.{horizon_text_fault, page_fault, printed}
use Rattle.uptime_page.specs.Words.{word_lines, words_page, horizon_in, fault_on, page_on}
use Rattle.uptime_page.proofs.HorizonRead.{horizon_fault_lem, horizon_value}
use Rattle.uptime_page.proofs.PageSays.{lines_of}

-- the call with room for as many words as a list may have: 7 cannot come
call_fault_lem : (sheet name : List ℕ) (H room : ℕ) → Bytes sheet → room ≡ most_words → up_time_fault sheet name H room ≡ fault_on sheet
    name H
unfolding up_time_fault fault_on
call_fault_lem sheet name H room b r = go (ℕ_discrete (lookup_fault sheet name) 0)
  where
    short : ℕ
    short = cond (ltb room (length (up_time_words sheet name H))) 7 0

    go : Dec (lookup_fault sheet name ≡ 0)
        → first_of (lookup_fault sheet name) (first_of (horizon_fault H) short) ≡ first_of (lookup_fault sheet name) (horizon_fault H)
    go (no o) = first_is (lookup_fault sheet name) _ o ∙ sym (first_is (lookup_fault sheet name) _ o)
    go (yes z) =
        let long : short ≡ 0 = rw (le-ltb room (length (up_time_words sheet name H)) (omega (arith, r, suffices sheet name H b z))) in
        ap (first_of (lookup_fault sheet name)) (ap (first_of (horizon_fault H)) long ∙ first_with_none (horizon_fault H))

-- an output with that room, and what the call answers
module _
    (sheet name : List ℕ) (H : ℕ) (out after : List ℕ) (answer : UpTime) (bytes : Bytes sheet) (room : length out ≡ most_words)
    (call : CallOfUpTime sheet name H out answer after)
  where
    abbrev words : List ℕ
    words = up_time_words sheet name H

    abbrev total : ℕ
    total = sum_of_ticks (stretches_on sheet name H)

    told_fault : fault_of_up_time answer ≡ up_time_fault sheet name H (length out)
    told_fault = ap fault_of_up_time call.0 ∙ up_time_says.fault (up_time_fault sheet name H (length out)) (length words) total

    own_fault : fault_of_up_time answer ≡ fault_on sheet name H
    own_fault = told_fault ∙ call_fault_lem sheet name H (length out) bytes room

    pub refusal_on : (fault : ℕ) → answer ≡ Refused fault → line_of (Verdict-as-Refused fault) ≡ page_on sheet name H
    unfolding page_on
    refusal_on fault e =
        let f : fault ≡ fault_on sheet name H = sym (ap fault_of_up_time e) ∙ own_fault in
        let some : 1 ≤ fault = subst GivenUpTime (sym call.0 ∙ e) (up_time_says.given _ (length words) total) in
        rw (ne_eqb (fault_on sheet name H) 0 (λ z. omega (arith, f, z, some)), f)

    -- stretches, with so many words and this sum
    module _ (count sum : ℕ) (e : answer ≡ Told count sum) where
      none : fault_on sheet name H ≡ 0
      none = sym own_fault ∙ ap fault_of_up_time e

      told : Told count sum ≡ up_time_for 0 (length words) total
      told = sym e ∙ call.0 ∙ ap (λ (f : ℕ). up_time_for f (length words) total) (sym told_fault ∙ ap fault_of_up_time e)

      count_is : count ≡ length words
      count_is = ap count_of_up_time told ∙ (up_time_says.value (length words) total).0

      sum_is : sum ≡ total
      sum_is = ap total_of_up_time told ∙ (up_time_says.value (length words) total).1

      after_is : after ≡ words ++ drop (length words) out
      unfolding output_of
      after_is = rw (eq-eqb (up_time_fault sheet name H (length out)) 0 (sym told_fault ∙ ap fault_of_up_time e)) at call.1

      words_are : take count after ≡ words
      words_are = ap (take count) after_is ∙ take_at words (drop (length words) out) count (sym count_is)

      pub few_told : count ≤ most_words
      unfolding fault_on
      few_told = omega (arith, count_is, suffices sheet name H bytes (both_none (lookup_fault sheet name) (horizon_fault H) none).0)

      pub page_on_lem : words_page (take count after) sum ≡ page_on sheet name H
      unfolding words_page page_text up_time_words page_on
      page_on_lem =
          ap (λ (ws : List ℕ). word_lines ws ++ total_line sum) words_are
          ∙ ap (λ (n : ℕ). word_lines words ++ total_line n) sum_is
          ∙ ap (λ (l : List ℕ). l ++ total_line total) (lines_of (stretches_on sheet name H))
          ∙ rw (eq-eqb (fault_on sheet name H) 0 none)

-- the page of the parts of an input
pub printed_on : (input sheet name text : List ℕ) → sheet ≡ sheet_in input → name ≡ first_line input → text ≡ second_line input
    → page_on sheet name (horizon_in text) ≡ printed input
unfolding page_on printed fault_on page_fault
printed_on input sheet name text s m t =
    rw (s, m, t)
    (rw (horizon_fault_lem (second_line input)) (go (eqb (page_fault input) 0) refl))
  where
    P : ℕ → List ℕ
    P H = page_text (stretches_on (sheet_in input) (first_line input) H)

    go : (b : Bool) → eqb (page_fault input) 0 ≡ b
        → cond b (P (horizon_in (second_line input))) (line_of (Verdict-as-Refused (page_fault input)))
        ≡ cond b (P (value (second_line input))) (line_of (Verdict-as-Refused (page_fault input)))
    go false e = refl
    go true e =
        let none = both_none (lookup_fault (sheet_in input) (first_line input)) (horizon_text_fault (second_line input)) in
        ap P (horizon_value (second_line input) (none (eqb-true (page_fault input) 0 e)).1)
