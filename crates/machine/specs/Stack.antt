-- Mirrored: Code words worked out one after the other on a stack of lists, topmost first, whatever they are. What that is for those of a
-- formula says `formula_ran` (machine/proofs/FormulaRan).
use Rattle.std.specs.Prelude.{ℕ, ◌-◌, ◌≤◌, ◌<◌, ◌≡◌, cond, List, [], ◌∷◌, ltb, length, drop, get_or}
use Rattle.signals.specs.Answers.{fault_in}
use Rattle.signals.specs.declared.Written.{Written}
use Rattle.calls.specs.Calls.{work_words}
use Rattle.sources.specs.Sources.{list_at}
use Rattle.code_words.specs.CodeWords.{constants, leaf_source, operands_of}
use Rattle.applying.specs.Applied.{Applied}

-- the list of a part without operands: a name's as it stands on the sheet, or a constant's
unfoldable pub leaf_list : List ℕ → ℕ → List ℕ
leaf_list sheet w = list_at sheet constants constants [] (leaf_source w)

-- the operands of a part that takes so many: the first, and the last, which is on top
abbrev pub first_taken : ℕ → List (List ℕ) → List ℕ
first_taken taken st = get_or st (taken - 1) []

abbrev pub on_top : List (List ℕ) → List ℕ
on_top st = get_or st 0 []

-- One part worked out on a stack, then what comes later: the fault that ends it all. 12, which no formula meets, where the part takes more
-- lists than there are, or a list would be put on more than 17 others.
pub data Worked (sheet : List ℕ) (w : ℕ) (st : List (List ℕ)) (fault : ℕ) (later : List (List ℕ) → Type 0) : Type 0 where
  lacking : length st < operands_of w → fault ≡ 12 → Worked sheet w st fault later
  high : operands_of w ≡ 0 → 17 < length st → fault ≡ 12 → Worked sheet w st fault later
  leaf : operands_of w ≡ 0 → length st ≤ 17 → later (leaf_list sheet w ∷ st) → Worked sheet w st fault later
  made : (answer : Written) (l : List ℕ) → 1 ≤ operands_of w → operands_of w ≤ length st
      → Applied w (first_taken (operands_of w) st) (on_top st) answer l → fault_in answer ≡ 0 → later (l ∷ drop (operands_of w) st)
      → Worked sheet w st fault later
  refused : (answer : Written) (l : List ℕ) → 1 ≤ operands_of w → operands_of w ≤ length st
      → Applied w (first_taken (operands_of w) st) (on_top st) answer l → fault_in answer ≡ fault → (fault ≡ 0 → ⊥)
      → Worked sheet w st fault later

-- all the code words: the fault of the first that meets one, 0 for none, and then the stack after them
abbrev pub Runs : List ℕ → List ℕ → List (List ℕ) → ℕ → List (List ℕ) → Type 0
Runs sheet [] st fault end = (fault ≡ 0) × (end ≡ st)
Runs sheet (w ∷ ws) st fault end = Worked sheet w st fault (λ next. Runs sheet ws next fault end)

-- 18 where the work area is short
unfoldable pub area_fault : ℕ → ℕ
area_fault words = cond (ltb words work_words) 18 0

-- Code words worked out in a work area: 18, which leaves it as it was; else their fault and the stack after them.
pub record RanOut (sheet codes before after : List ℕ) (fault : ℕ) (end : List (List ℕ)) : Type 0 where
  pub short : (area_fault (length before) ≡ 0 → ⊥) → (fault ≡ area_fault (length before)) × (after ≡ before)
  pub runs : area_fault (length before) ≡ 0 → Runs sheet codes [] fault end
