-- A list copied word by word from where it stands, and handed over.
use Prim.Native.Nat.{ℕ, ◌+◌, ◌%◌, ◌≤◌, ◌<◌}
use native.Mathlib.Omega.{arith}
use mathlib.Core.Path.{◌≡◌, ◌∙◌}
use mathlib.Core.List.{List, ◌++◌}
use lib.ListN.{length, take, drop, get_or, set}
use borrow.Author.Tests.{lt-ltb, le-ltb}
use Rattle.signals.specs.Answers.{written_of, output_of}
use Rattle.signals.specs.declared.Written.TheVariants.{Count, Refused}
use Rattle.slices.specs.Bytes.{Words}
use Rattle.operations.specs.Calls.{room_fault}
use Rattle.building.specs.Building.{HandsOver}
use Rattle.building.proofs.Delivering.{copy_next}
use Rattle.sources.specs.Sources.{next_word}
use Rattle.sources.proofs.SourceWords.{word_left}

-- the next word of a list, cut to 32 bits
word_is : (l : List ℕ) (i word : ℕ) → Words l → i < length l → word ≡ next_word l i → word % 4294967296 ≡ get_or l i 0
word_is l i word w h e = let q = e ∙ word_left l i h in omega (arith, w i)

pub copied : (l old out : List ℕ) (i word : ℕ) → Words l → i < length l → i < length old → out ≡ take i l ++ drop i old
    → word ≡ next_word l i → set out i (word % 4294967296) ≡ take (i + 1) l ++ drop (i + 1) old
copied l old out i word w h k e q = rw (word_is l i word w h q) (copy_next l old out i e h k)

-- 7, or the whole list
pub no_room : (l out : List ℕ) (n : ℕ) → n ≡ length l → length out < n → HandsOver l out (Refused 7) out
unfolding room_fault written_of output_of
no_room l out n e h = (rw (← e, lt-ltb (length out) n h), rw (← e, lt-ltb (length out) n h))

pub handed : (l out after : List ℕ) (n : ℕ) → n ≡ length l → n ≤ length out → after ≡ l ++ drop n out → HandsOver l out (Count n) after
unfolding room_fault written_of output_of
handed l out after n e h c = (rw (← e, le-ltb (length out) n h), c ∙ rw (← e, le-ltb (length out) n h))
