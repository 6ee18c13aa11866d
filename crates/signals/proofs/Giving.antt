-- A call without a fault gives the one normal list of a signal, for every operation on lists.
use Prim.Native.Nat.{ℕ, zero, suc, ◌≤◌}
use native.Mathlib.Omega.{arith}
use mathlib.Core.Path.{◌≡◌, refl, sym, ◌∙◌, ap}
use mathlib.Core.Bool.{Bool, true, false, cond}
use mathlib.Core.List.{List, ◌++◌}
use lib.Dec.{eqb}
use lib.ListN.{length, drop}
use lib.Seq.{drop-append_seam}
use Rattle.signals.specs.Moment.{M}
use Rattle.signals.specs.Signal.{Signal, num}
use Rattle.signals.specs.Words.{signal_of, list_of}
use Rattle.signals.specs.Settled.{Same}
use Rattle.signals.specs.Normal.{Accepted}
use Rattle.signals.specs.Answers.{fault_in, count_in, written_of, output_of}
use Rattle.signals.specs.Giving.{WithinM, Gives}
use Rattle.signals.specs.declared.Written.{Written}
use Rattle.signals.specs.declared.Written.TheVariants.{Count, Refused}
use Rattle.signals.proofs.WordFacts.{date_bounds, num_le}
use Rattle.signals.proofs.Scan.{scan_dates}
use Rattle.signals.proofs.Normal.{unique_accepted}
use Rattle.signals.proofs.AnswersSay.{written_says}

-- the list of a signal up to a date up to M has no word dated after M
pub within : (s : Signal) (n : ℕ) → n ≤ M → WithinM (list_of s n)
unfolding list_of
within s n h zero l = omega (arith, date_bounds (num (s 0)), num_le (s 0))
within s n h (suc i) l = omega (arith, (scan_dates s n 0 i (omega arith)).1)

-- an answer and an output of a fault and words: past the count the output is the old one
pub past_stays : (fault : ℕ) (words out : List ℕ) → drop (count_in (written_of fault words)) (output_of fault words out)
    ≡ drop (count_in (written_of fault words)) out
unfolding written_of output_of
past_stays fault words out = go (eqb fault 0)
  where
    go : (t : Bool) → drop (count_in (cond t (Count (length words)) (Refused fault))) (cond t (words ++ drop (length words) out) out)
        ≡ drop (count_in (cond t (Count (length words)) (Refused fault))) out
    go true = drop-append_seam words (drop (length words) out)
    go false = refl

-- a call with this fault and these words
module _ (fault : ℕ) (words out : List ℕ) (answer : Written) (after : List ℕ)
    (call : (answer ≡ written_of fault words) × (after ≡ output_of fault words out))
  where
    pub no_fault : fault_in answer ≡ 0 → fault ≡ 0
    no_fault z = sym (written_says.fault fault words) ∙ ap fault_in (sym call.0) ∙ z

    pub gives : (signal : Signal) → fault ≡ 0 → length words ≤ length out → Accepted words → WithinM words → Same (signal_of words) signal
        → Gives signal out answer after
    unfolding written_of output_of
    gives signal z fits accepted dated denotes =
        record {
          words = words;
          answered = rw z at call.0;
          fits = fits;
          written = rw z at call.1;
          accepted = accepted;
          dated = dated;
          denotes = denotes;
          only = λ l a same. unique_accepted l words a accepted (λ t. same t ∙ sym (denotes t));
        }
