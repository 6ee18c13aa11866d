-- What calls of tidying come to.
use Prim.Native.Nat.{ℕ, ◌≤◌}
use native.Mathlib.Omega.{arith}
use mathlib.Core.Path.{◌≡◌, sym, ◌∙◌, ap}
use mathlib.Core.List.{List, ◌++◌}
use lib.ListN.{length, take, drop}
use lib.Seq.{take-append_seam}
use borrow.Author.Tests.{le-ltb}
use Rattle.signals.specs.Words.{tidy_fault, tidied, signal_of}
use Rattle.signals.specs.Settled.{Same}
use Rattle.signals.specs.Answers.{first_of, fault_in, count_in, written_of, output_of}
use Rattle.signals.specs.declared.Written.{Written}
use Rattle.signals.proofs.AnswersSay.{written_says}
use Rattle.signals.proofs.Tidying.{tidying}
use Rattle.signals.proofs.Giving.{no_fault, past_stays}
use Rattle.tidying.specs.Calls.{tidying_fault, CallOfTidying}
use Rattle.tidying.specs.TidyingSays.{Tidies, TidyingSays}
use Rattle.tidying.proofs.Keeps.{kept_exact}
use Rattle.tidying.proofs.TidyingGives.{tidied_fits}

-- what a call that is not refused gave
record Gave (l : List ℕ) (answer : Written) (after : List ℕ) : Type 0 where
  pub accepts : tidy_fault l ≡ 0
  pub count : count_in answer ≡ length (tidied l)
  pub front : take (count_in answer) after ≡ tidied l

gave : (l out after : List ℕ) (answer : Written) → Tidies l out answer after → Gave l answer after
unfolding written_of output_of
gave l out after answer (call, z) =
    let none : tidying_fault l (length out) ≡ 0 = no_fault (tidying_fault l (length out)) (tidied l) out answer after call z in
    let counted : count_in answer ≡ length (tidied l) = ap count_in (rw none at call.0) in
    let written : after ≡ tidied l ++ drop (length (tidied l)) out = rw none at call.1 in
    record {
      accepts = (tidied_fits l (length out) none).0;
      count = counted;
      front = rw (counted, written) (take-append_seam (tidied l) (drop (length (tidied l)) out));
    }

room_enough : (l : List ℕ) (n : ℕ) → tidy_fault l ≡ 0 → length l ≤ n → tidying_fault l n ≡ 0
unfolding tidying_fault first_of
room_enough l n z h = rw (z, le-ltb n (length (tidied l)) (omega (arith, tidying.shorter l z)))

by_words : (l m : List ℕ) (n : ℕ) → tidy_fault l ≡ tidy_fault m → tidied l ≡ tidied m → tidying_fault l n ≡ tidying_fault m n
unfolding tidying_fault
by_words l m n f e = rw (f, e)

-- what the calls of two lists give is by what they are tidied to
same_call : (l m out after later : List ℕ) (a b : Written) → tidy_fault l ≡ 0 → tidy_fault m ≡ 0 → tidied l ≡ tidied m
    → CallOfTidying l out a after → CallOfTidying m out b later → (a ≡ b) × (after ≡ later)
same_call l m out after later a b y z e p q =
    let fault : tidying_fault l (length out) ≡ tidying_fault m (length out) = by_words l m (length out) (y ∙ sym z) e in
    (p.0 ∙ rw (fault, e) (sym q.0), p.1 ∙ rw (fault, e) (sym q.1))

same_words : (l m : List ℕ) → tidy_fault l ≡ 0 → tidy_fault m ≡ 0 → tidied l ≡ tidied m → Same (signal_of l) (signal_of m)
same_words l m y z e t = sym (tidying.denotes l y t) ∙ ap (λ k. signal_of k t) e ∙ tidying.denotes m z t

pub tidying_says : TidyingSays
tidying_says =
    record {
      one =
          λ l m out other after later a b p q same.
          let x = gave l out after a p in
          let y = gave m other later b q in
          let e : tidied l ≡ tidied m = tidying.one l m x.accepts y.accepts same in
          (x.count ∙ ap length e ∙ sym y.count, x.front ∙ e ∙ sym y.front);
      alike = λ l m out after later a b y z same p q. same_call l m out after later a b y z (tidying.one l m y z same) p q;
      only =
          λ l m out other after later a b p q e.
          let x = gave l out after a p in
          let y = gave m other later b q in
          same_words l m x.accepts y.accepts (sym x.front ∙ e ∙ y.front);
      words =
          λ l out after a p.
          let x = gave l out after a p in
          let e = kept_exact l x.accepts in
          (x.count ∙ ap length e, x.front ∙ e);
      fewer = λ l out after a p. let x = gave l out after a p in omega (arith, x.count, tidying.shorter l x.accepts);
      enough =
          λ l out after a z h call.
          ap fault_in call.0 ∙ written_says.fault (tidying_fault l (length out)) (tidied l) ∙ room_enough l (length out) z h;
      past = λ l out after a call. rw (call.0, call.1) (past_stays (tidying_fault l (length out)) (tidied l) out);
    }
