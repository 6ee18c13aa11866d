-- Mirrored: A formula's code words with the places of its names on a sheet, and the calls from the reading on.
use Rattle.std.specs.Prelude.{ℕ, ◌+◌, ◌*◌, ◌/◌, ◌%◌, ◌≡◌, Bool, true, cond, not, ◌&&◌, List, [], ◌∷◌, map, eqb, length}
use Rattle.signals.specs.Answers.{first_of, written_of, output_of, verdict_for}
use Rattle.signals.specs.declared.Written.{Written}
use Rattle.signals.specs.declared.Verdict.{Verdict}
use Rattle.grammar.specs.Kinds as kinds
use Rattle.grammar.specs.Formula.{code_of, formula_tree}
use Rattle.grammar.specs.PartWords.{name_at}
use Rattle.format.specs.Calls.{first_byte, byte_count, place_judged}
use Rattle.format.specs.declared.Place.{Place}
use Rattle.calls.specs.Calls.{reading_fault, work_fault, working_fault, words_on, claim_fails}
use Rattle.calls.specs.Work.{KeptWhen}
use Rattle.operations.specs.Calls.{room_fault}

-- the code word of a name whose words stand at a place: the first byte in 32 bits, the number of words in nine, which is 0 when refused
unfoldable pub placed_name : Place → ℕ
placed_name p = (first_byte p % 4294967296 * 512 + byte_count p / 4 % 512) * 16 + kinds.NAME

-- a code word of a text with the place of its name on the sheet, if it is one, in place of that in the text
unfoldable pub placed_word : List ℕ → List ℕ → ℕ → ℕ
placed_word sheet text w =
    cond (eqb (w % 16) kinds.NAME) (placed_name (place_judged sheet (name_at text (w / 256) (w / 16 % 16)))) w

abbrev pub placed_codes : List ℕ → List ℕ → List ℕ
placed_codes sheet text = map (placed_word sheet text) (code_of text)

-- the name of such a word, if it is one, has words
unfoldable pub word_found : ℕ → Bool
word_found w = not (eqb (w % 16) kinds.NAME && eqb (w / 16 % 512) 0)

unfoldable pub all_found : List ℕ → Bool
all_found [] = true
all_found (w ∷ ws) = word_found w && all_found ws

-- code words with places stand for the parts of the formula that the text is
pub record Coded (sheet text codes : List ℕ) : Type 0 where
  pub read : reading_fault sheet text ≡ 0
  pub placed : codes ≡ placed_codes sheet text

-- the faults that come once a formula is read: 18, then 5 or 6, then 7
unfoldable pub run_fault : List ℕ → List ℕ → ℕ → ℕ → ℕ
run_fault sheet text work room =
    first_of (work_fault sheet work) (first_of (working_fault sheet text) (room_fault (words_on sheet text) room))

-- its answer, the output after it, and the work area, as it was where it is refused with 18
pub record Run (sheet text work out : List ℕ) (answer : Written) (outAfter after : List ℕ) : Type 0 where
  pub answer_is : answer ≡ written_of (run_fault sheet text (length work) (length out)) (words_on sheet text)
  pub output_is : outAfter ≡ output_of (run_fault sheet text (length work) (length out)) (words_on sheet text) out
  pub kept : KeptWhen (work_fault sheet (length work)) work after

-- the faults of a claim once both formulas are read: 18, then F's parts before G's
unfoldable pub judge_fault : List ℕ → List ℕ → List ℕ → ℕ → ℕ
judge_fault sheet F G work = first_of (work_fault sheet work) (first_of (working_fault sheet F) (working_fault sheet G))

pub record Judged (sheet F G work : List ℕ) (answer : Verdict) (after : List ℕ) : Type 0 where
  pub answer_is : answer ≡ verdict_for (judge_fault sheet F G (length work)) (claim_fails sheet (formula_tree F) (formula_tree G))
  pub kept : KeptWhen (work_fault sheet (length work)) work after

-- the claim from G's reading on
unfoldable pub claim_on_fault : List ℕ → List ℕ → List ℕ → ℕ → ℕ
claim_on_fault sheet F G work = first_of (reading_fault sheet G) (judge_fault sheet F G work)

pub record ClaimOn (sheet F G work : List ℕ) (answer : Verdict) (after : List ℕ) : Type 0 where
  pub answer_is : answer ≡ verdict_for (claim_on_fault sheet F G (length work)) (claim_fails sheet (formula_tree F) (formula_tree G))
  pub kept : KeptWhen (first_of (reading_fault sheet G) (work_fault sheet (length work))) work after
