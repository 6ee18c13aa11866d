-- The formula call and the claim from their pieces: the faults in document 01's order, the words, the verdict.
use Prim.Native.Nat.{ℕ}
use native.Mathlib.Decide.{ℕ_discrete}
use mathlib.Core.Logic.{◌⊎◌, inl, inr}
use native.Mathlib.Omega.{arith}
use mathlib.Core.Path.{◌≡◌, refl, sym, ◌∙◌, ap}
use mathlib.Core.List.{List, [], ◌∷◌}
use lib.ListN.{length}
use Rattle.signals.specs.Answers.{written_of, output_of}
use Rattle.signals.specs.declared.Written.{Written}
use Rattle.signals.specs.declared.Written.TheVariants as written
use Rattle.building.specs.Building.{HandsOver}
use Rattle.operations.proofs.JudgedCalls.{refused, passes_on}
use Rattle.format.specs.Reading.{sheet_fault}
use Rattle.calls.specs.Calls.{needed_work, reading_fault, work_fault, working_fault, words_on, call_fault, call_answer, call_output}
use Rattle.operations.specs.Calls.{room_fault}
use Rattle.machine.specs.Machine.{placed_codes, run_fault, Run}
use Rattle.machine.specs.Stack.{Runs, area_fault, RanOut}
use Rattle.slices.specs.Bytes.{Bytes}
use Rattle.calls.specs.Work.{KeptWhen}
use Rattle.machine.proofs.FormulaRan.{Left, formula_ran}
use Rattle.calls.specs.Work.{first_fault}
use Rattle.signals.specs.Answers.{first_of}
use Rattle.signals.proofs.FirstFault.{first_is, next_is, first_assoc}

-- the fault of a formula's parts, after 18
unfoldable pub worked_fault : List ℕ → List ℕ → ℕ → ℕ
worked_fault sheet text work = first_of (work_fault sheet work) (working_fault sheet text)

-- 18 is the call's
pub area_is : (sheet : List ℕ) (words : ℕ) → area_fault words ≡ work_fault sheet words
unfolding area_fault work_fault needed_work
area_is sheet words = refl

-- a work area that was short, or was worked in
abbrev pub Outcome : (sheet codes before after : List ℕ) (fault : ℕ) (end : List (List ℕ)) → Type 0
Outcome sheet codes before after fault end =
    ((work_fault sheet (length before) ≡ 0 → ⊥) × (fault ≡ work_fault sheet (length before)) × (after ≡ before))
    ⊎ ((work_fault sheet (length before) ≡ 0) × Runs sheet codes [] fault end)

pub outcome : (sheet codes before after : List ℕ) (fault : ℕ) (end : List (List ℕ)) → RanOut sheet codes before after fault end
    → Outcome sheet codes before after fault end
outcome sheet codes before after fault end r = go (ℕ_discrete (work_fault sheet (length before)) 0)
  where
    go : Dec (work_fault sheet (length before) ≡ 0)
        → ((work_fault sheet (length before) ≡ 0 → ⊥) × (fault ≡ work_fault sheet (length before)) × (after ≡ before))
        ⊎ ((work_fault sheet (length before) ≡ 0) × Runs sheet codes [] fault end)
    go (yes z) = inr (z, r.runs (area_is sheet (length before) ∙ z))
    go (no x) =
        let q = r.short (λ z. x (sym (area_is sheet (length before)) ∙ z)) in
        inl (x, q.0 ∙ area_is sheet (length before), q.1)

-- a formula that was worked out
module _ (sheet text before after : List ℕ) (ok : sheet_fault sheet ≡ 0) (bytes : Bytes sheet) (read : reading_fault sheet text ≡ 0)
    (fault : ℕ) (end : List (List ℕ)) (r : RanOut sheet (placed_codes sheet text) before after fault end) where
  left : Runs sheet (placed_codes sheet text) [] fault end → Left sheet text [] fault end
  left q = formula_ran sheet text ok bytes read [] (omega arith) fault end q

  pub worked_fault_lem : fault ≡ worked_fault sheet text (length before)
  unfolding worked_fault
  worked_fault_lem = go (outcome sheet _ before after fault end r)
    where
      go : Outcome sheet (placed_codes sheet text) before after fault end → fault ≡ first_of (work_fault sheet (length before))
          (working_fault sheet text)
      go (inl h) = h.1 ∙ sym (first_is _ _ h.0)
      go (inr h) = (left h.1).fault_is ∙ sym (next_is _ _ h.0)

  pub worked_kept : KeptWhen (work_fault sheet (length before)) before after
  worked_kept x = go (outcome sheet _ before after fault end r)
    where
      go : Outcome sheet (placed_codes sheet text) before after fault end → after ≡ before
      go (inl h) = h.2
      go (inr h) = absurd (x h.0)

  pub on_top_lem : fault ≡ 0 → end ≡ words_on sheet text ∷ []
  on_top_lem z = go (outcome sheet _ before after fault end r)
    where
      go : Outcome sheet (placed_codes sheet text) before after fault end → end ≡ words_on sheet text ∷ []
      go (inl h) = absurd (h.0 (sym h.1 ∙ z))
      go (inr h) = (left h.1).stack_is z

  whole : (room : ℕ) → first_of (worked_fault sheet text (length before)) (room_fault (words_on sheet text) room)
      ≡ run_fault sheet text (length before) room
  unfolding run_fault worked_fault
  whole room = first_assoc (work_fault sheet (length before)) (working_fault sheet text) (room_fault (words_on sheet text) room)

  ran : (out out' : List ℕ) (a : Written)
      → (a ≡ written_of (first_of (worked_fault sheet text (length before)) (room_fault (words_on sheet text) (length out)))
      (words_on sheet text))
      × (out' ≡ output_of (first_of (worked_fault sheet text (length before)) (room_fault (words_on sheet text) (length out)))
      (words_on sheet text) out)
      → Run sheet text before out a out' after
  ran out out' a h = let q = rw (whole (length out)) at h in record { answer_is = q.0; output_is = q.1; kept = worked_kept }

  pub run_refused : (fault ≡ 0 → ⊥) → (out : List ℕ) → Run sheet text before out (written.Refused fault) out after
  run_refused x out = ran out out (written.Refused fault) (refused (worked_fault sheet text (length before)) _
      (words_on sheet text) out fault worked_fault_lem x)

  pub run_handed : fault ≡ 0 → (out out' : List ℕ) (a : Written) → HandsOver (words_on sheet text) out a out'
      → Run sheet text before out a out' after
  run_handed z out out' a h =
      ran out out' a (passes_on (worked_fault sheet text (length before)) (room_fault (words_on sheet text) (length out))
      (words_on sheet text) out a out' (sym worked_fault_lem ∙ z) h)

-- the call
module _ (sheet formula work out : List ℕ) where
  abbrev pub Called : Written → List ℕ → List ℕ → Type 0
  Called r out' work' =
      (r ≡ call_answer sheet formula (length work) out)
      × (out' ≡ call_output sheet formula (length work) out)
      × ((first_fault sheet formula (length work) ≡ 0 → ⊥) → work' ≡ work)

  abbrev pub Answers : ℕ → Written → List ℕ → Type 0
  Answers fault r out' = (r ≡ written_of fault (words_on sheet formula)) × (out' ≡ output_of fault (words_on sheet formula) out)

  -- a fault of the sheet or of the reading
  pub call_refused : (f : ℕ) → first_of (sheet_fault sheet) (reading_fault sheet formula) ≡ f → (f ≡ 0 → ⊥)
      → Called (written.Refused f) out work
  unfolding call_answer call_output call_fault
  call_refused f e n =
      let a = refused (first_of (sheet_fault sheet) (reading_fault sheet formula)) _ (words_on sheet formula) out f (sym e) n in
      let s = first_assoc (sheet_fault sheet) (reading_fault sheet formula) _ in (
        a.0 ∙ ap (λ k. written_of k (words_on sheet formula)) s,
        a.1 ∙ ap (λ k. output_of k (words_on sheet formula) out) s,
        λ x. refl,
      )

  module _ (ok : sheet_fault sheet ≡ 0) where
    from_sheet : (rest : ℕ) (r : Written) (out' : List ℕ) → Answers rest r out' → Answers (first_of (sheet_fault sheet) rest) r out'
    from_sheet rest r out' h = passes_on (sheet_fault sheet) rest (words_on sheet formula) out r out' ok h

    module _ (read : reading_fault sheet formula ≡ 0) where
      from_reading : (rest : ℕ) (r : Written) (out' : List ℕ) → Answers rest r out' → Answers
          (first_of (sheet_fault sheet) (first_of (reading_fault sheet formula) rest)) r out'
      from_reading rest r out' h = from_sheet _ r out' (passes_on (reading_fault sheet formula) rest
          (words_on sheet formula) out r out' read h)

      pub call_run : (r : Written) (out' work' : List ℕ) → Run sheet formula work out r out' work' → Called r out' work'
      unfolding call_answer call_output call_fault run_fault first_fault
      call_run r out' work' x =
          let a = from_reading _ r out' (x.answer_is, x.output_is) in (
            a.0,
            a.1,
            λ n. x.kept (λ z. n (next_is (sheet_fault sheet) _ ok ∙ next_is (reading_fault sheet formula) _ read ∙ z)),
          )
