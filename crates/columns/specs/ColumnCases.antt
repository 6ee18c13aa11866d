-- Statement: Document 02, request 5: cases at the edges, each with its answer or its fault.
use Rattle.std.specs.Prelude.{ℕ, zero, suc, ◌+◌, ◌-◌, ◌≡◌, true, false, List, [], ◌∷◌}
use Rattle.signals.specs.Moment.{M}
use Rattle.signals.specs.Words.{word}
use Rattle.columns.specs.Numbers.{instant_number, gap_number}
use Rattle.signals.specs.Answers.{output_of}
use Rattle.columns.specs.Columns.{column_words, words_passed, column_fault, column_answer}
use Rattle.columns.specs.declared.Column.TheVariants.{Filled, Refused}

-- down, up only at 5, up after 9
abbrev pub spiked : List ℕ
spiked = 0 ∷ word 5 true false ∷ word 9 false true ∷ []

-- up at and after M
abbrev pub late : List ℕ
late = 0 ∷ word M true true ∷ []

-- n gaps, from gap k on
unfoldable pub gaps_from : ℕ → ℕ → List ℕ
gaps_from k zero = []
gaps_from k (suc n) = gap_number k ∷ gaps_from (suc k) n

pub record ColumnCases : Type 0 where
  -- before, at, between and after the words
  pub values : column_words spiked
      (gap_number 0 ∷ gap_number 4 ∷ instant_number 5 ∷ gap_number 5 ∷ instant_number 9 ∷ gap_number 9 ∷ instant_number 10 ∷ gap_number
      M ∷ [])
      ≡ 0 ∷ 0 ∷ 1 ∷ 0 ∷ 0 ∷ 1 ∷ 1 ∷ 1 ∷ []
  -- words passed: none for no moments, the first by gap 0, and a word by the instant and by the gap of its date
  pub none : words_passed spiked [] ≡ 0
  pub first : words_passed spiked (gap_number 0 ∷ []) ≡ 1
  pub before : words_passed spiked (gap_number 0 ∷ gap_number 4 ∷ []) ≡ 1
  pub at : words_passed spiked (instant_number 5 ∷ []) ≡ 2
  pub after : words_passed spiked (gap_number 5 ∷ []) ≡ 2
  pub short : words_passed spiked (gap_number 8 ∷ []) ≡ 2
  pub all : words_passed spiked (instant_number 9 ∷ []) ≡ 3
  -- by the last moment
  pub by_last : words_passed spiked (gap_number 0 ∷ instant_number 5 ∷ instant_number 9 ∷ []) ≡ 3
  -- at M
  pub at_m : column_words late (gap_number (M - 1) ∷ instant_number M ∷ gap_number M ∷ []) ≡ 0 ∷ 1 ∷ 1 ∷ []
  pub before_m : words_passed late (gap_number (M - 1) ∷ []) ≡ 1
  pub by_m : words_passed late (instant_number M ∷ []) ≡ 2
  -- no moments need no room, and the signal's list is still judged
  pub empty : column_fault spiked [] 0 ≡ 0
  pub no_list : column_fault [] [] 0 ≡ 1
  -- gap k then instant k+1 rises; instant k after gap k and equal neighbours do not
  pub rising : column_fault spiked (gap_number 4 ∷ instant_number 5 ∷ []) 2 ≡ 0
  pub turned : column_fault spiked (gap_number 5 ∷ instant_number 5 ∷ []) 2 ≡ 20
  pub equal : column_fault spiked (instant_number 5 ∷ instant_number 5 ∷ []) 2 ≡ 20
  pub third : column_fault spiked (gap_number 0 ∷ gap_number 4 ∷ gap_number 4 ∷ []) 3 ≡ 20
  -- 1,000 and one more
  pub thousand : column_fault spiked (gaps_from 0 1000) 1000 ≡ 0
  pub one_more : column_fault spiked (gaps_from 0 1001) 1001 ≡ 20
  -- instant 0 first, and later
  pub zero_first : column_fault spiked (instant_number 0 ∷ gap_number 0 ∷ []) 2 ≡ 9
  pub zero_later : column_fault spiked (gap_number 0 ∷ instant_number 0 ∷ []) 2 ≡ 20
  -- instant M and gap M; a date above M, and with a fall after it
  pub instant_m : column_fault spiked (2147483646 ∷ []) 1 ≡ 0
  pub gap_m : column_fault spiked (2147483647 ∷ []) 1 ≡ 0
  pub instant_past_m : column_fault spiked (2147483648 ∷ []) 1 ≡ 9
  pub gap_past_m : column_fault spiked (gap_number 0 ∷ 2147483649 ∷ []) 2 ≡ 9
  pub late_falls : column_fault spiked (instant_number (M + 1) ∷ gap_number 0 ∷ []) 2 ≡ 20
  -- the list before 20, 20 and 9 before 7, one word too few
  pub list_first : column_fault (2 ∷ []) (gap_number 5 ∷ instant_number 5 ∷ []) 0 ≡ 2
  pub turned_short : column_fault spiked (gap_number 5 ∷ instant_number 5 ∷ []) 0 ≡ 20
  pub late_short : column_fault spiked (instant_number (M + 1) ∷ []) 0 ≡ 9
  pub too_short : column_fault spiked (gap_number 0 ∷ gap_number 4 ∷ []) 1 ≡ 7
  -- a whole call, the third word of its output kept, and a refused one
  pub filled : column_answer spiked (gap_number 4 ∷ instant_number 5 ∷ []) 3 ≡ Filled 2 2
  pub kept : output_of (column_fault spiked (gap_number 4 ∷ instant_number 5 ∷ []) 3)
      (column_words spiked (gap_number 4 ∷ instant_number 5 ∷ []))
      (7 ∷ 8 ∷ 9 ∷ [])
      ≡ 0 ∷ 1 ∷ 9 ∷ []
  pub refusal : column_answer spiked (gap_number 4 ∷ instant_number 5 ∷ []) 1 ≡ Refused 7
