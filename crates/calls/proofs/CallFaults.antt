-- The faults of the formula call and of the claim, as tabled and in document 01's order.
use Prim.Native.Nat.{ℕ, ◌<◌}
use native.Mathlib.Omega.{arith}
use mathlib.Core.Path.{◌≡◌, refl, sym, ◌∙◌, ap, subst}
use mathlib.Core.Bool.{Bool, true, false, cond}
use mathlib.Core.Logic.{inl, inr}
use mathlib.Core.List.{List}
use lib.Dec.{ltb}
use lib.ListN.{length}
use borrow.Author.Tests.{ltb-true, ltb-false}
use Rattle.grammar.specs.Tree.{Tree}
use Rattle.grammar.specs.Grammar.{Writes}
use Rattle.grammar.specs.Formula.{formula_tree}
use Rattle.grammar.proofs.Reading.{tree_of_lem}
use Rattle.grammar.specs.Parts.{parts, part_at}
use Rattle.format.specs.Reading.{sheet_fault}
use Rattle.calls.specs.OnSheet.{signal_on, exact_on}
use Rattle.calls.specs.Calls.{needed_work, reading_fault, work_fault, parts_fault, working_fault, words_on, call_fault, claim_fault}
use Rattle.operations.specs.Calls.{room_fault}
use Rattle.calls.specs.NormalLists.{ListFor}
use Rattle.calls.specs.Tabled.{Breaks18, Meets5, Meets6, FineBefore, Breaks5, Breaks6, Breaks7, ReadingChecks, WorkingChecks}
use Rattle.calls.specs.Tabled.{CallFaultIs, ClaimFaultIs}
use Rattle.signals.specs.Checks.{Check, NoFault}
use Rattle.signals.proofs.Checks.{check_by, fault_check}
use Rattle.calls.proofs.Settles.{exact_for_lem, one_for}
use Rattle.calls.proofs.PartFaults.{parts_fault_lem}
use Rattle.calls.proofs.ReadingFaults.{derived, text_fine, reading_fault_lem}
use Rattle.signals.specs.Answers.{first_of}
use Rattle.signals.proofs.FirstFault.{first_with_none, next_is, first_some}

-- the part found first
abbrev At5 : List ℕ → Tree → Type 0
At5 sheet t = (i : ℕ) × (i < length (parts t)) × FineBefore sheet t i × Meets5 (signal_on sheet (part_at t i))

abbrev At6 : List ℕ → Tree → Type 0
At6 sheet t =
    (i : ℕ) × (i < length (parts t)) × FineBefore sheet t i × (¬ Meets5 (signal_on sheet (part_at t i)))
    × Meets6 (signal_on sheet (part_at t i))

tree_parts : (sheet : List ℕ) → sheet_fault sheet ≡ 0 → (t : Tree)
    → Check 5 (At5 sheet t) (Check 6 (At6 sheet t) NoFault) (parts_fault sheet (parts t))
unfolding part_at
tree_parts sheet ok t = parts_fault_lem sheet ok t (parts t)

-- the tree that the grammar gives is the one that is worked out
same_tree : (formula : List ℕ) (t u : Tree) (d e : ℕ) → Writes formula t d → Writes formula u e → u ≡ t
same_tree formula t u d e w v = sym (tree_of_lem formula u e v) ∙ tree_of_lem formula t d w

pub working_fault_lem : (sheet formula : List ℕ) (later : ℕ → Type 0) (rest : ℕ) → sheet_fault sheet ≡ 0 → (t : Tree) (d : ℕ)
    → Writes formula t d
    → (working_fault sheet formula ≡ 0 → later rest) → WorkingChecks sheet formula later (first_of (working_fault sheet formula) rest)
unfolding working_fault
working_fault_lem sheet formula later rest ok t d w next = rw (tree_of_lem formula t d w) (go (tree_parts sheet ok t))
  where
    n : ℕ
    n = parts_fault sheet (parts t)

    found : parts_fault sheet (parts (formula_tree formula)) ≡ n
    found = ap (λ (x : Tree). parts_fault sheet (parts x)) (tree_of_lem formula t d w)

    no5 : (¬ At5 sheet t) → ¬ Breaks5 sheet formula
    no5 a h = a (subst (At5 sheet) (same_tree formula t h.0 d h.1 w h.2) h.3)

    no6 : (¬ At6 sheet t) → ¬ Breaks6 sheet formula
    no6 a h = a (subst (At6 sheet) (same_tree formula t h.0 d h.1 w h.2) h.3)

    go : Check 5 (At5 sheet t) (Check 6 (At6 sheet t) NoFault) n → WorkingChecks sheet formula later (first_of n rest)
    go (inl a) = inl ((t, d, w, a.0), first_some n rest 5 a.1 (omega arith))
    go (inr (a, inl b)) = inr (no5 a, inl ((t, d, w, b.0), first_some n rest 6 b.1 (omega arith)))
    go (inr (a, inr b)) = inr (no5 a, inr (no6 b.0, rw (next_is n rest b.1) (next (found ∙ b.1))))

-- 18
work_fault_lem : (sheet : List ℕ) (work : ℕ) (later : ℕ → Type 0) (rest : ℕ) → later rest
    → Check 18 (Breaks18 sheet work) later (first_of (work_fault sheet work) rest)
unfolding work_fault
work_fault_lem sheet work later rest next = go (ltb work (needed_work sheet)) refl
  where
    go : (b : Bool) → ltb work (needed_work sheet) ≡ b → Check 18 (Breaks18 sheet work) later (first_of (cond b 18 0) rest)
    go true q = inl (ltb-true work (needed_work sheet) q, first_some 18 rest 18 refl (omega arith))
    go false q = inr (λ h. omega (arith, ltb-false work (needed_work sheet) q, h), rw (next_is 0 rest refl) next)

-- 7
room_fault_lem : (sheet formula : List ℕ) (room : ℕ) → sheet_fault sheet ≡ 0 → (t : Tree) (d : ℕ) → Writes formula t d
    → Check 7 (Breaks7 sheet formula room) NoFault (room_fault (words_on sheet formula) room)
unfolding room_fault words_on
room_fault_lem sheet formula room ok t d w =
    check_by 7 0 (Breaks7 sheet formula room) NoFault (ltb room (length l))
    (λ e. (t, d, w, (l, rw (← same) (exact_for_lem sheet ok (formula_tree formula)), ltb-true room (length l) e)))
    (λ e h.
    let q : h.0 ≡ formula_tree formula = sym (tree_of_lem formula h.0 h.1 h.2) in
    let k : ListFor (signal_on sheet (formula_tree formula)) h.3.0 = rw (← q) h.3.1 in
    let z : length h.3.0 ≡ length l = ap length (one_for k (exact_for_lem sheet ok (formula_tree formula))) in
    omega (arith, ltb-false room (length l) e, h.3.2))
    (λ e. refl)
  where
    l : List ℕ
    l = exact_on sheet (formula_tree formula)

    same : formula_tree formula ≡ t
    same = tree_of_lem formula t d w

-- what is checked, and what is given, after the sheet and after the formula
abbrev AfterText : List ℕ → List ℕ → ℕ → ℕ → ℕ → Type 0
AfterText sheet formula work room =
    Check 18 (Breaks18 sheet work) (WorkingChecks sheet formula (Check 7 (Breaks7 sheet formula room) NoFault))

abbrev room_of : List ℕ → List ℕ → ℕ → ℕ
room_of sheet formula room = room_fault (words_on sheet formula) room

abbrev after_text : List ℕ → List ℕ → ℕ → ℕ → ℕ
after_text sheet formula work room = first_of (work_fault sheet work) (first_of (working_fault sheet formula) (room_of sheet formula room))

pub call_fault_lem : (sheet formula : List ℕ) (work room : ℕ) → CallFaultIs sheet formula work room (call_fault sheet formula work room)
unfolding call_fault
call_fault_lem sheet formula work room =
    fault_check
    (sheet_fault sheet)
    (first_of (reading_fault sheet formula) (after_text sheet formula work room))
    (ReadingChecks sheet formula (AfterText sheet formula work room))
    (λ ok.
    reading_fault_lem sheet formula (AfterText sheet formula work room) (after_text sheet formula work room) (λ r.
    let w = derived formula (text_fine sheet formula r) in
    work_fault_lem
    sheet
    work
    (WorkingChecks sheet formula (Check 7 (Breaks7 sheet formula room) NoFault))
    (first_of (working_fault sheet formula) (room_of sheet formula room))
    (working_fault_lem
    sheet
    formula
    (Check 7 (Breaks7 sheet formula room) NoFault)
    (room_of sheet formula room)
    ok
    w.0
    w.1
    w.2
    (λ z. room_fault_lem sheet formula room ok w.0 w.1 w.2))))

-- the same for a claim
abbrev AfterTexts : List ℕ → List ℕ → List ℕ → ℕ → ℕ → Type 0
AfterTexts sheet F G work = Check 18 (Breaks18 sheet work) (WorkingChecks sheet F (WorkingChecks sheet G NoFault))

abbrev after_texts : List ℕ → List ℕ → List ℕ → ℕ → ℕ
after_texts sheet F G work = first_of (work_fault sheet work) (first_of (working_fault sheet F) (working_fault sheet G))

last_parts : (sheet G : List ℕ) → sheet_fault sheet ≡ 0 → (t : Tree) (d : ℕ) → Writes G t d
    → WorkingChecks sheet G NoFault (working_fault sheet G)
last_parts sheet G ok t d w =
    subst (WorkingChecks sheet G NoFault) (first_with_none (working_fault sheet G))
    (working_fault_lem sheet G NoFault 0 ok t d w (λ y. refl))

pub claim_fault_lem : (sheet F G : List ℕ) (work : ℕ) → ClaimFaultIs sheet F G work (claim_fault sheet F G work)
unfolding claim_fault
claim_fault_lem sheet F G work =
    fault_check
    (sheet_fault sheet)
    (first_of (reading_fault sheet F) (first_of (reading_fault sheet G) (after_texts sheet F G work)))
    (ReadingChecks sheet F (ReadingChecks sheet G (AfterTexts sheet F G work)))
    (λ ok.
    reading_fault_lem
    sheet
    F
    (ReadingChecks sheet G (AfterTexts sheet F G work))
    (first_of (reading_fault sheet G) (after_texts sheet F G work))
    (λ r.
    let w = derived F (text_fine sheet F r) in
    reading_fault_lem sheet G (AfterTexts sheet F G work) (after_texts sheet F G work) (λ s.
    let v = derived G (text_fine sheet G s) in
    work_fault_lem
    sheet
    work
    (WorkingChecks sheet F (WorkingChecks sheet G NoFault))
    (first_of (working_fault sheet F) (working_fault sheet G))
    (working_fault_lem
    sheet
    F
    (WorkingChecks sheet G NoFault)
    (working_fault sheet G)
    ok
    w.0
    w.1
    w.2
    (λ z. last_parts sheet G ok v.0 v.1 v.2)))))
