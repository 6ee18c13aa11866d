-- Statement: Demand 2 as a predicate of an engine, sentence by sentence.
use Rattle.std.specs.Prelude.{ℕ, ◌≤◌, ◌≡◌, true, List, ◌++◌, ◌↔◌, length, drop}
use Rattle.signals.specs.Answers.{fault_in}
use Rattle.signals.specs.Earliest.{JudgedAs}
use Rattle.signals.specs.Implication.{fault_of_verdict}
use Rattle.signals.specs.Settled.{Same}
use Rattle.signals.specs.declared.Written.TheVariants.{Count}
use Rattle.grammar.specs.Tree.{Tree}
use Rattle.grammar.specs.Grammar.{Writes}
use Rattle.slices.specs.Bytes.{Bytes, Words}
use Rattle.format.specs.Names.{among}
use Rattle.format.specs.Reading.{sheet_fault, signals_on, names, list_named, environment_on}
use Rattle.format.specs.Sentences.{SheetFaultIs}
use Rattle.format.specs.Calls.{append_fault, appended}
use Rattle.calls.specs.OnSheet.{signal_on}
use Rattle.calls.specs.Calls.{needed_work}
use Rattle.calls.specs.Engine.{Engine}
use Rattle.calls.specs.NormalLists.{TheList}
use Rattle.calls.specs.Tabled.{CallFaultIs, ClaimFaultIs}

-- a call gave these words: their count is its answer, they stand first in the output, and those past the count are the old ones
pub record Delivered (E : Engine) (sheet formula : List ℕ) (work : ℕ) (old words : List ℕ) : Type 0 where
  pub count : E.answer sheet formula work old ≡ Count (length words)
  pub room : length words ≤ length old
  pub output : E.output sheet formula work old ≡ words ++ drop (length words) old

-- "Each accepted formula gives the one normal list of the signal defined in document 01 after Roussel and Faure's algebra, at every
-- instant and in every gap": what a call without a fault gives, the grammar giving the formula's tree
pub record GivesTheList (E : Engine) (sheet formula : List ℕ) (work : ℕ) (old : List ℕ) : Type 0 where
  pub words : List ℕ
  pub delivered : Delivered E sheet formula work old words
  pub tree : Tree
  pub depth : ℕ
  pub writes : Writes formula tree depth
  pub the_list : TheList (signal_on sheet tree) words

-- "each accepted list is read back as the signal it was written from"
pub record ReadsBack (E : Engine) : Type 0 where
  -- the words that a call gave, which some sheet then has under a name, are there the signal that they were written from
  pub written : (sheet formula : List ℕ) (work : ℕ) (old words : List ℕ) → fault_in (E.answer sheet formula work old) ≡ 0
      → Delivered E sheet formula work old words → (tree : Tree) (depth : ℕ) → Writes formula tree depth
      → (later name : List ℕ) → list_named name (signals_on later) ≡ words → Same (environment_on later name) (signal_on sheet tree)
  -- an accepted sheet's list, asked for by its name as the formula, comes back word by word
  pub named : (sheet name : List ℕ) → Bytes sheet → sheet_fault sheet ≡ 0 → among name (names (signals_on sheet)) ≡ true
      → (work : ℕ) (old : List ℕ) → needed_work sheet ≤ work → length (list_named name (signals_on sheet)) ≤ length old
      → Delivered E sheet name work old (list_named name (signals_on sheet))
  -- so does a list that append wrote to a sheet
  pub appends : (sheet name list : List ℕ) (room : ℕ) → Bytes sheet → Words list → append_fault sheet name list room ≡ 0
      → (work : ℕ) (old : List ℕ) → needed_work (appended sheet name list) ≤ work → length list ≤ length old
      → Delivered E (appended sheet name list) name work old list

-- "a claim holds exactly when no instant or gap refutes it, and otherwise the earliest one is shown": what a claim without a fault says,
-- with the last moment of the unbroken run that begins there, or that it never ends (document 02, request 4)
pub record GivesTheVerdict (E : Engine) (sheet F G : List ℕ) (work : ℕ) : Type 0 where
  pub tree_f : Tree
  pub tree_g : Tree
  pub depth_f : ℕ
  pub depth_g : ℕ
  pub writes_f : Writes F tree_f depth_f
  pub writes_g : Writes G tree_g depth_g
  pub judged : JudgedAs (signal_on sheet tree_f) (signal_on sheet tree_g) (E.claim sheet F G work)

pub record Demand2 (E : Engine) : Type 0 where
  pub lists : (sheet formula : List ℕ) (work : ℕ) (old : List ℕ) → fault_in (E.answer sheet formula work old) ≡ 0
      → GivesTheList E sheet formula work old
  pub read_back : ReadsBack E
  pub claims : (sheet F G : List ℕ) (work : ℕ) → fault_of_verdict (E.claim sheet F G work) ≡ 0 → GivesTheVerdict E sheet F G work
  -- "each fault being given only as tabled"
  pub call_faults : (sheet formula : List ℕ) (work : ℕ) (old : List ℕ)
      → CallFaultIs sheet formula work (length old) (fault_in (E.answer sheet formula work old))
  pub claim_faults : (sheet F G : List ℕ) (work : ℕ) → ClaimFaultIs sheet F G work (fault_of_verdict (E.claim sheet F G work))
  -- 14 to 17 on a sheet of bytes, by their sentences
  pub sheet_faults : (sheet formula : List ℕ) (work : ℕ) (old : List ℕ) → Bytes sheet → (n : ℕ) → 14 ≤ n → n ≤ 17
      → (fault_in (E.answer sheet formula work old) ≡ n) ↔ SheetFaultIs sheet n
  pub claim_sheet_faults : (sheet F G : List ℕ) (work : ℕ) → Bytes sheet → (n : ℕ) → 14 ≤ n → n ≤ 17
      → (fault_of_verdict (E.claim sheet F G work) ≡ n) ↔ SheetFaultIs sheet n
  -- a refused call writes nothing to the caller's output
  pub refused_keeps : (sheet formula : List ℕ) (work : ℕ) (old : List ℕ) → ¬ (fault_in (E.answer sheet formula work old) ≡ 0)
      → E.output sheet formula work old ≡ old
