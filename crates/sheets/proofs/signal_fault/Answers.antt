-- `sheets::signal_fault` meets its contract: the tests that led to each return say which case of the definition holds.
use Rattle.std.proofs.Common.{◌≡◌, ℕ, ◌+◌, List, take, drop, sym, ap, ◌∙◌}
use Rattle.slices.proofs.Steps.{part_rest}
use Rattle.format.specs.Names.{field_fits, among}
use Rattle.format.specs.Reading.{name_at, word_count, names, signals_from, sheet_words_fault}
use Rattle.format.proofs.Walking.{field_is, count_at}
use Rattle.format.proofs.Judging.{known_name, signal_cut, signal_malformed, signal_repeated, signal_no_count, signal_none, signal_many}
use Rattle.format.proofs.Judging.{signal_words}
use Rattle.sheets.proofs.signal_fault.Goals as goal
use Rattle.sheets.proofs.signal_fault.Goals.{After-field_fits, After-known, After-read16-words}
use Rattle.sheets.proofs.signal_fault.Goals.{then-not-field_fits-via-then-not-field_fits}
use Rattle.sheets.proofs.signal_fault.Goals.{then-not-field_fits-via-else-not-field_fits+then-known}
use Rattle.sheets.proofs.signal_fault.Goals.{then-words-eq0-via-then-words-eq0, then-words-eq0-via-else-words-eq0+then-words-gt-MOST_WORDS}

-- what was read: whether the field fits, whether its name is an earlier one, the word count
fits : (c : After-field_fits) → c.field_fits.result ≡ field_fits (take 8 (drop c.args.at c.args.sheet.now))
fits c = c.field_fits.ensures ∙ ap field_fits (field_is c.args.sheet.now c.args.at)

-- the names before
abbrev earlier : ℕ → List ℕ → List (List ℕ)
earlier count sheet = names (signals_from count (drop 7 sheet))

seen : (c : After-known)
    → c.known.result ≡ among (name_at (drop c.args.at c.args.sheet.now)) (earlier c.args.count c.args.sheet.now)
seen c =
    known_name _ _ (earlier c.args.count c.args.sheet.now) _ (field_is c.args.sheet.now c.args.at) c.name_in.ensures c.known.ensures

counted : (c : After-read16-words) → c.read16-words.result ≡ word_count (drop c.args.at c.args.sheet.now)
counted c = count_at c.args.sheet.now c.args.at c.read16-words.result c.read16-words.ensures.0

pub returns-then-left-lt-WORD_COUNT_AT : goal.returns-then-left-lt-WORD_COUNT_AT
returns-then-left-lt-WORD_COUNT_AT c =
    sym (signal_cut (earlier c.args.count c.args.sheet.now) c.args.sheet.now c.args.at c.if-left-lt-WORD_COUNT_AT.true)

pub returns-then-not-field_fits : goal.returns-then-not-field_fits
returns-then-not-field_fits c =
    let s = c.args.sheet.now in
    let e = earlier c.args.count s in
    let fit = fits (goal.at.returns-then-not-field_fits c).After-field_fits in
    elim c.then-not-field_fits.branch [
      | then-not-field_fits-via-then-not-field_fits w ↦
          sym (signal_malformed e s c.args.at c.if-left-lt-WORD_COUNT_AT.false _ fit w.if-not-field_fits.true)
      | then-not-field_fits-via-else-not-field_fits+then-known w ↦
          sym (signal_repeated e s c.args.at c.if-left-lt-WORD_COUNT_AT.false _ fit w.if-not-field_fits.false _
          (known_name _ _ e _ (field_is s c.args.at) w.name_in.ensures w.known.ensures) w.if-known.true)
    ]

pub returns-then-left-lt-WORDS_AT : goal.returns-then-left-lt-WORDS_AT
returns-then-left-lt-WORDS_AT c =
    let s = c.args.sheet.now in
    sym (signal_no_count (earlier c.args.count s) s c.args.at c.if-left-lt-WORD_COUNT_AT.false _
    (fits (goal.at.returns-then-left-lt-WORDS_AT c).After-field_fits) c.if-not-field_fits.false _
    (seen (goal.at.returns-then-left-lt-WORDS_AT c).After-known)
    c.if-known.false c.if-left-lt-WORDS_AT.true)

pub returns-then-words-eq0 : goal.returns-then-words-eq0
returns-then-words-eq0 c =
    let s = c.args.sheet.now in
    let e = earlier c.args.count s in
    let fit = fits (goal.at.returns-then-words-eq0 c).After-field_fits in
    let new = seen (goal.at.returns-then-words-eq0 c).After-known in
    let count = counted (goal.at.returns-then-words-eq0 c).After-read16-words in
    elim c.then-words-eq0.branch [
      | then-words-eq0-via-then-words-eq0 w ↦
          sym (signal_none e s c.args.at c.if-left-lt-WORD_COUNT_AT.false _ fit c.if-not-field_fits.false _ new c.if-known.false
          c.if-left-lt-WORDS_AT.false _ count w.if-words-eq0.true)
      | then-words-eq0-via-else-words-eq0+then-words-gt-MOST_WORDS w ↦
          sym (signal_many e s c.args.at c.if-left-lt-WORD_COUNT_AT.false _ fit c.if-not-field_fits.false _ new c.if-known.false
          c.if-left-lt-WORDS_AT.false _ count w.if-words-eq0.false w.if-words-gt-MOST_WORDS.true)
    ]

pub returns : goal.returns
returns c =
    let s = c.args.sheet.now in
    c.words_fault.ensures ∙ ap (sheet_words_fault c.read16-words.result) (part_rest s (c.args.at + 10))
    ∙ signal_words (earlier c.args.count s) s c.args.at c.if-left-lt-WORD_COUNT_AT.false _
    (fits (goal.at.returns c).After-field_fits) c.if-not-field_fits.false _ (seen (goal.at.returns c).After-known) c.if-known.false
    c.if-left-lt-WORDS_AT.false _ (counted (goal.at.returns c).After-read16-words) c.if-words-eq0.false c.if-words-gt-MOST_WORDS.false
