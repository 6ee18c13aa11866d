-- The cases of pages, computed.
use mathlib.Core.Path.{refl}
use Rattle.slices.specs.Slices.{before, past}
use Rattle.slices.specs.Bytes.{low16, low32, bytes16, bytes32, words_in, word_bytes}
use Rattle.signals.specs.Answers.{first_of}
use Rattle.signals.specs.Words.{date_of, value_at, value_after, head_value, changes_nothing, value_from, signal_of}
use Rattle.names.specs.Names.{letter, digit, name_byte, all_of, well_named}
use Rattle.format.specs.Names.{padded, zeros, field_fits, same, among}
use Rattle.format.specs.Reading.{name_at, word_count, signal_size, later_words_fault, sheet_words_fault, signal_fault, signals_fault}
use Rattle.format.specs.Reading.{front_fault}
use Rattle.format.specs.Reading.{count_on, sheet_fault, signals_from, signals_on, names, list_named, environment_on}
use Rattle.format.specs.Writing.{entry_bytes, entries_bytes, sheet_bytes}
use Rattle.format.specs.Calls.{lookup_fault}
use Rattle.texts.specs.Lengths.{is_length, value_from as numberFrom, value}
use Rattle.texts.specs.Decimal.{leading, decimal}
use Rattle.stretches.specs.Stretches.{begins, up_for, stretches_from, stretches_before, sum_of_ticks}
use Rattle.stretches.specs.Calls.{stretches_on, horizon_fault}
use Rattle.inputs.specs.Input.{counted, first_line, second_line, sheet_in}
use Rattle.verdict_line.specs.Line.{refused_text, line, line_of}
use Rattle.uptime_page.specs.Page.{total_text, pair_line, stretch_lines, total_line, page_text}
use Rattle.uptime_page.specs.Printing.{horizon_text_fault, page_fault, printed}
use Rattle.uptime_page.specs.PageCases.{PageCases}

pub page_cases : PageCases
unfolding before past low16 low32 bytes16 bytes32 words_in word_bytes first_of date_of value_at value_after head_value changes_nothing
    value_from
    signal_of letter digit name_byte all_of well_named padded zeros field_fits same among name_at word_count signal_size later_words_fault
    sheet_words_fault signal_fault signals_fault front_fault count_on sheet_fault signals_from signals_on names list_named
    environment_on entry_bytes
    entries_bytes sheet_bytes lookup_fault is_length numberFrom value leading decimal begins up_for stretches_from stretches_before
    sum_of_ticks
    stretches_on horizon_fault counted first_line second_line sheet_in refused_text line line_of total_text pair_line stretch_lines
    total_line page_text
    horizon_text_fault page_fault printed
page_cases = record { f8 = refl; f0 = refl; f10 = refl; leading_zero = refl; missing = refl; unnamed = refl; no_sheet = refl }
