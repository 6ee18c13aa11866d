-- Mirrored: how an answer is built word by word in a slot, and handed over.
use Rattle.std.specs.Prelude.{ℕ, ◌+◌, ◌%◌, ◌≡◌, Bool, false, not, cond, ◌&&◌, ◌||◌, List, [], ◌∷◌, ◌++◌, ltb, length, take, drop, set}
use Rattle.std.specs.Bool.{beq}
use Rattle.signals.specs.Moment.{M}
use Rattle.signals.specs.Signal.{num}
use Rattle.signals.specs.Words.{date_of, most_words, word}
use Rattle.signals.specs.Answers.{written_of, output_of}
use Rattle.signals.specs.declared.Written.{Written}
use Rattle.operations.specs.Calls.{room_fault}
use Rattle.building.specs.declared.Made.{Made}

-- a word of these values after the value before changes nothing
unfoldable pub idle : Bool → Bool → Bool → Bool
idle before at after = beq at before && beq after before

-- a count goes round at 2^32
abbrev pub one_more : ℕ → ℕ
one_more count = (count + 1) % 4294967296

-- late from a word dated after M on
abbrev pub late_with : Bool → ℕ → Bool
late_with late date = late || ltb M date

-- what a word adds to the answer being built: counted always
unfoldable pub emitted : Made → ℕ → Bool → Bool → Made
emitted made date at after =
    cond (idle made.value at after)
    made
    (record { value = after; count = one_more made.count; late = late_with made.late date })

-- where it is stored: in the slot's next place, if it has one, and not when late
unfoldable pub stores : List ℕ → Made → ℕ → Bool
stores slot made date = not (late_with made.late date) && ltb made.count (length slot)

unfoldable pub emitted_in : List ℕ → Made → ℕ → Bool → Bool → List ℕ
emitted_in slot made date at after =
    cond (idle made.value at after) slot (cond (stores slot made date) (set slot made.count (word date at after)) slot)

abbrev pub Emits : Made → ℕ → Bool → Bool → List ℕ → Made → List ℕ → Type 0
Emits made date at after slot next slot' = (next ≡ emitted made date at after) × (slot' ≡ emitted_in slot made date at after)

-- the answer with its first word
unfoldable pub begun : Bool → Made
begun value = record { value = value; count = 1; late = false }

abbrev pub Begins : Bool → List ℕ → Made → List ℕ → Type 0
Begins value slot made slot' = (made ≡ begun value) × (slot' ≡ set slot 0 (num value))

-- the words up to the first that is dated after M
unfoldable pub up_to_m : List ℕ → List ℕ
up_to_m [] = []
up_to_m (w ∷ ws) = cond (ltb M (date_of w)) [] (w ∷ up_to_m ws)

-- those of them that n places hold
unfoldable pub fitting : ℕ → List ℕ → List ℕ
fitting n l = take n (up_to_m l)

-- the slot after the words of l were put into it
unfoldable pub slot_with : List ℕ → List ℕ → List ℕ
slot_with l old = fitting (length old) l ++ drop (length (fitting (length old) l)) old

-- a list handed to an output: 7 where that is shorter, which then stays as it was
abbrev pub HandsOver : List ℕ → List ℕ → Written → List ℕ → Type 0
HandsOver words out answer after =
    (answer ≡ written_of (room_fault words (length out)) words) × (after ≡ output_of (room_fault words (length out)) words out)

-- 5, 6, 7 of an answer in a slot of s words, for an output of n: one that the slot does not hold whole is too long as well
unfoldable pub made_fault : Made → ℕ → ℕ → ℕ
made_fault made s n =
    cond (ltb most_words made.count || ltb s made.count) 5 (cond made.late 6 (cond (ltb n made.count) 7 0))

abbrev pub Delivers : Made → List ℕ → List ℕ → Written → List ℕ → Type 0
Delivers made slot out answer after =
    (answer ≡ written_of (made_fault made (length slot) (length out)) (take made.count slot))
    × (after ≡ output_of (made_fault made (length slot) (length out)) (take made.count slot) out)
