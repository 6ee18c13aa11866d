-- Believed: Document 01, "Time and words": words, lists, which lists are accepted, what a list denotes, and the one list of a signal.
use Rattle.std.specs.Prelude.{ℕ, zero, suc, ◌+◌, ◌*◌, ◌/◌, ◌%◌, Bool, false, cond, ◌&&◌, List, [], ◌∷◌, leb, ltb, eqb, length}
use Rattle.std.specs.Bool.{beq}
use Rattle.signals.specs.Moment.{gap, instant}
use Rattle.signals.specs.Signal.{Signal, num}
use Rattle.signals.specs.Answers.{first_of}

-- A later word is 4 × date + 2 × (value at it) + (value after it).
unfoldable pub word : ℕ → Bool → Bool → ℕ
word date at after = 4 * date + 2 * num at + num after

unfoldable pub date_of : ℕ → ℕ
date_of w = w / 4

unfoldable pub value_at : ℕ → Bool
value_at w = eqb (w / 2 % 2) 1

unfoldable pub value_after : ℕ → Bool
value_after w = eqb (w % 2) 1

-- The first word is 0 or 1, the value from gap 0 on.
unfoldable pub head_value : ℕ → Bool
head_value h = eqb h 1

-- both values of the word equal the value before it
unfoldable pub changes_nothing : Bool → ℕ → Bool
changes_nothing before w = beq (value_at w) before && beq (value_after w) before

-- The fault of the words after the first, 0 for none: word by word 3, then 4. `last` is the date before, `before` the value before.
unfoldable pub words_fault : ℕ → Bool → List ℕ → ℕ
words_fault last before [] = 0
words_fault last before (w ∷ ws) =
    cond (leb (date_of w) last) 3 (cond (changes_nothing before w) 4 (words_fault (date_of w) (value_after w) ws))

-- the words after the first with 4 skipped, as tidying does
unfoldable pub dates_fault : ℕ → List ℕ → ℕ
dates_fault last [] = 0
dates_fault last (w ∷ ws) = cond (leb (date_of w) last) 3 (dates_fault (date_of w) ws)

-- the most words that a list has
abbrev pub most_words : ℕ
most_words = 256

-- The fault of a list, 0 for an accepted one: 1 empty or over 256 words, 2 first word above 1, then 3 and 4 word by word.
unfoldable pub list_fault : List ℕ → ℕ
list_fault [] = 1
list_fault (h ∷ ws) = cond (ltb most_words (length (h ∷ ws))) 1 (cond (ltb 1 h) 2 (words_fault 0 (head_value h) ws))

-- The fault of a list to be tidied: 1, 2, 3.
unfoldable pub tidy_fault : List ℕ → ℕ
tidy_fault [] = 1
tidy_fault (h ∷ ws) = cond (ltb most_words (length (h ∷ ws))) 1 (cond (ltb 1 h) 2 (dates_fault 0 ws))

-- The fault of two lists, first operand first.
unfoldable pub pair_fault : List ℕ → List ℕ → ℕ
pair_fault a b = first_of (list_fault a) (list_fault b)

-- What the words after the first denote, `before` being the value before them: before its date a word says nothing, at its
-- date it gives its first value, from the gap after it on its second, until the next word's date.
unfoldable pub value_from : Bool → List ℕ → Signal
value_from before [] t = before
value_from before (w ∷ ws) t =
    cond (ltb t (instant (date_of w))) before (cond (eqb t (instant (date_of w))) (value_at w) (value_from (value_after w) ws t))

-- The signal that a list denotes.
unfoldable pub signal_of : List ℕ → Signal
signal_of [] t = false
signal_of (h ∷ ws) t = value_from (head_value h) ws t

-- the date of the last word, 0 for the first: a list's signal is constant from that gap on
unfoldable pub last_from : ℕ → List ℕ → ℕ
last_from last [] = last
last_from last (w ∷ ws) = last_from (date_of w) ws

unfoldable pub last_date : List ℕ → ℕ
last_date [] = 0
last_date (h ∷ ws) = last_from 0 ws

-- The words of a signal for the n dates after date k: a word for each date at which, or after which, the value is not
-- that of the gap before.
unfoldable pub words_of : Signal → ℕ → ℕ → List ℕ
words_of s k zero = []
words_of s k (suc n) =
    cond
    (beq (s (gap k + 1)) (s (gap k)) && beq (s (gap k + 2)) (s (gap k)))
    (words_of s (suc k) n)
    (word (suc k) (s (gap k + 1)) (s (gap k + 2)) ∷ words_of s (suc k) n)

-- The normal list of a signal that is constant from gap n on.
unfoldable pub list_of : Signal → ℕ → List ℕ
list_of s n = num (s 0) ∷ words_of s 0 n

-- The words that tidying gives: the normal list of the signal that a list denotes.
unfoldable pub tidied : List ℕ → List ℕ
tidied l = list_of (signal_of l) (last_date l)
