-- The cases of columns, each computed.
use mathlib.Core.Path.{refl}
use Rattle.signals.specs.Words.{word, date_of, value_at, value_after, head_value, changes_nothing, words_fault, list_fault, value_from}
use Rattle.signals.specs.Words.{signal_of}
use Rattle.signals.specs.Answers.{first_of, output_of}
use Rattle.reading.specs.Dated.{count_by, dated_by}
use Rattle.questions.specs.Questions.{instant_fault, gap_fault}
use Rattle.columns.specs.Numbers.{is_gap_number, date_in, moment_of}
use Rattle.columns.specs.Columns.{not_after, not_rising, order_fault, moment_fault, moments_fault, column_word, column_words, words_passed}
use Rattle.columns.specs.Columns.{column_fault, column_for, column_answer}
use Rattle.columns.specs.ColumnCases.{gaps_from, ColumnCases}

pub column_cases : ColumnCases
unfolding word date_of value_at value_after head_value changes_nothing words_fault list_fault value_from signal_of first_of output_of
    count_by dated_by
    instant_fault gap_fault is_gap_number date_in moment_of not_after not_rising order_fault moment_fault moments_fault column_word
    column_words
    words_passed column_fault column_for column_answer gaps_from
column_cases =
    record {
      values = refl;
      none = refl;
      first = refl;
      before = refl;
      at = refl;
      after = refl;
      short = refl;
      all = refl;
      by_last = refl;
      at_m = refl;
      before_m = refl;
      by_m = refl;
      empty = refl;
      no_list = refl;
      rising = refl;
      turned = refl;
      equal = refl;
      third = refl;
      thousand = refl;
      one_more = refl;
      zero_first = refl;
      zero_later = refl;
      instant_m = refl;
      gap_m = refl;
      instant_past_m = refl;
      gap_past_m = refl;
      late_falls = refl;
      list_first = refl;
      turned_short = refl;
      late_short = refl;
      too_short = refl;
      filled = refl;
      kept = refl;
      refusal = refl;
    }
