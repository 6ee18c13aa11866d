-- A formula or two worked out on a stack: 18, 5 or 6, or the lists where they stand.
use Prim.Native.Nat.{ℕ}
use native.Mathlib.Omega.{arith}
use mathlib.Core.Path.{◌≡◌, refl, ◌∙◌, ap}
use mathlib.Core.List.{List, [], ◌++◌, append-nil}
use lib.ListN.{get_or}
use Rattle.signals.specs.declared.Written.{Written}
use Rattle.signals.specs.declared.Written.TheVariants as written
use Rattle.signals.specs.declared.Verdict.{Verdict}
use Rattle.signals.specs.declared.Verdict.TheVariants as verdict
use Rattle.slices.specs.Bytes.{Bytes}
use Rattle.building.specs.Building.{HandsOver}
use Rattle.comparing.specs.Finding.{FoundAt}
use Rattle.comparing.proofs.ImpliesExact.{implies_exact}
use Rattle.format.specs.Reading.{sheet_fault}
use Rattle.calls.specs.Calls.{words_on}
use Rattle.code_words.specs.CodeWords.{constants}
use Rattle.machine.specs.Machine.{placed_codes, Coded, Run, Judged}
use Rattle.machine.specs.Stack.{RanOut}
use Rattle.machine.proofs.Calling.{on_top_lem, run_refused, run_handed}
use Rattle.machine.proofs.Claiming.{judge_refused, stands, judge_done}
use Rattle.working.specs.Standing.{list_of, fault_of, WorkedOut}
use Rattle.working.specs.declared.Tops.{Tops}
use Rattle.std.proofs.Common.{Result, Ok, Err}

-- one formula
module _ (sheet text codes before after : List ℕ) (ok : sheet_fault sheet ≡ 0) (bytes : Bytes sheet) (c : Coded sheet text codes) where
  out : (ran : Result Tops ℕ) (w : WorkedOut sheet (codes ++ []) before ran after)
      → RanOut sheet (placed_codes sheet text) before after (fault_of ran) w.end
  out ran w = rw (← c.placed, ← (append-nil codes)) w.out

  pub formula_refused : (fault : ℕ) → WorkedOut sheet (codes ++ []) before (Err fault) after
      → (o : List ℕ) → Run sheet text before o (written.Refused fault) o after
  formula_refused fault w o = run_refused sheet text before after ok bytes c.read fault w.end (out (Err fault) w) w.faulty o

  pub formula_handed : (tops : Tops) → WorkedOut sheet (codes ++ []) before (Ok tops) after
      → (o o' : List ℕ) (a : Written) → HandsOver (list_of sheet after tops.top) o a o' → Run sheet text before o a o' after
  formula_handed tops w o o' a h =
      let e = on_top_lem sheet text before after ok bytes c.read 0 w.end (out (Ok tops) w) refl in
      let t : list_of sheet after tops.top ≡ words_on sheet text = w.top_is (rw e (omega arith)) ∙ ap (λ st. get_or st 0 []) e in
      run_handed sheet text before after ok bytes c.read 0 w.end (out (Ok tops) w) refl o o' a (rw t at h)

-- two formulas
module _ (sheet f g fs gs before after : List ℕ) (ok : sheet_fault sheet ≡ 0) (bytes : Bytes sheet) (cf : Coded sheet f fs)
    (cg : Coded sheet g gs) where
  both : (ran : Result Tops ℕ) (w : WorkedOut sheet (fs ++ gs) before ran after)
      → RanOut sheet (placed_codes sheet f ++ placed_codes sheet g) before after (fault_of ran) w.end
  both ran w = rw (← cf.placed, ← cg.placed) w.out

  pub claim_refused : (fault : ℕ) → WorkedOut sheet (fs ++ gs) before (Err fault) after
      → Judged sheet f g before (verdict.Refused fault) after
  claim_refused fault w =
      judge_refused sheet f g before after ok bytes cf.read cg.read fault w.end (both (Err fault) w) w.faulty

  pub claim_judged : (tops : Tops) → WorkedOut sheet (fs ++ gs) before (Ok tops) after
      → (v : Verdict) → FoundAt sheet constants constants after tops.below tops.top v → Judged sheet f g before v after
  claim_judged tops w v h =
      let s = stands sheet f g before after ok bytes cf.read cg.read 0 w.end (both (Ok tops) w) refl in
      let t : list_of sheet after tops.top ≡ words_on sheet g = w.top_is (rw s.0 (omega arith)) ∙ ap (λ st. get_or st 0 []) s.0 in
      let b : list_of sheet after tops.below ≡ words_on sheet f = w.below_is (rw s.0 (omega arith)) ∙ ap (λ st. get_or st 1 [])
      s.0 in
      judge_done sheet f g before after ok bytes cf.read cg.read 0 w.end (both (Ok tops) w) refl v
      (implies_exact (words_on sheet f) (words_on sheet g) v s.1 s.2 s.3 s.4 (rw (b, t) at h))
