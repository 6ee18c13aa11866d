-- Each statement at its full path with its term, for the prover to check: written by `tests/statements --write`.

pub beginnings-Beginnings-StopsExact : Rattle.beginnings.specs.Beginnings.StopsExact
beginnings-Beginnings-StopsExact = Rattle.beginnings.proofs.Stopping.stops_exact

pub calls-Demand2-Demand2-defined : Rattle.calls.specs.Demand2.Demand2 Rattle.calls.specs.Engine.defined
calls-Demand2-Demand2-defined = Rattle.calls.proofs.Demand2.demand2

pub calls-Demand3-Demand3-defined : Rattle.calls.specs.Demand3.Demand3 Rattle.calls.specs.Engine.defined
calls-Demand3-Demand3-defined = Rattle.calls.proofs.Demand3.demand3

pub calls-NotRefused-NotRefused : Rattle.calls.specs.NotRefused.NotRefused
calls-NotRefused-NotRefused = Rattle.calls.proofs.NotRefused.not_refused

pub calls-OneEngine-AgreeingMeets : Rattle.calls.specs.OneEngine.AgreeingMeets
calls-OneEngine-AgreeingMeets = Rattle.calls.proofs.OneEngine.agreeing_meets

pub calls-OneEngine-OneEngine : Rattle.calls.specs.OneEngine.OneEngine
calls-OneEngine-OneEngine = Rattle.calls.proofs.OneEngine.one_engine

pub calls-OneEngine-OneEngineWhereAnswered : Rattle.calls.specs.OneEngine.OneEngineWhereAnswered
calls-OneEngine-OneEngineWhereAnswered = Rattle.calls.proofs.OneEngine.one_engine_where_answered

pub calls-OneFault-OneFault : Rattle.calls.specs.OneFault.OneFault
calls-OneFault-OneFault = Rattle.calls.proofs.OneEngine.one_fault

pub calls-Printed-Printed : Rattle.calls.specs.Printed.Printed
calls-Printed-Printed = Rattle.calls.proofs.Printed.printed

pub calls-TreesOnSheets-TreesOnSheets : Rattle.calls.specs.TreesOnSheets.TreesOnSheets
calls-TreesOnSheets-TreesOnSheets = Rattle.calls.proofs.NamedFormula.trees_on_sheets

pub calls-WrongEngines-EightShutOut : Rattle.calls.specs.WrongEngines.EightShutOut
calls-WrongEngines-EightShutOut = Rattle.calls.proofs.WrongEngines.eight_shut_out

pub calls-WrongEngines-ZeroObeysEveryLaw : Rattle.calls.specs.WrongEngines.ZeroObeysEveryLaw
calls-WrongEngines-ZeroObeysEveryLaw = Rattle.calls.proofs.ZeroObeys.zero_obeys

pub claim_line-OneLine-OneLine : Rattle.claim_line.specs.OneLine.OneLine
claim_line-OneLine-OneLine = Rattle.claim_line.proofs.OneLine.one_line

pub columns-ColumnCases-ColumnCases : Rattle.columns.specs.ColumnCases.ColumnCases
columns-ColumnCases-ColumnCases = Rattle.columns.proofs.ColumnCases.column_cases

pub columns-MomentNumbers-MomentNumbers : Rattle.columns.specs.MomentNumbers.MomentNumbers
columns-MomentNumbers-MomentNumbers = Rattle.columns.proofs.MomentNumbers.moment_numbers

pub columns-Sentences-ColumnFaultsExact : Rattle.columns.specs.Sentences.ColumnFaultsExact
columns-Sentences-ColumnFaultsExact = Rattle.columns.proofs.CallFaults.column_faults_exact

pub columns-Sentences-ColumnGives : Rattle.columns.specs.Sentences.ColumnGives
columns-Sentences-ColumnGives = Rattle.columns.proofs.CallGives.column_gives

pub columns-Sentences-ColumnSays : Rattle.columns.specs.Sentences.ColumnSays
columns-Sentences-ColumnSays = Rattle.columns.proofs.CallGives.column_says

pub format-LookupPlace-LookupPlace : Rattle.format.specs.LookupPlace.LookupPlace
format-LookupPlace-LookupPlace = Rattle.format.proofs.LookupPlace.lookup_place

pub format-PlaceSays-PlaceSays : Rattle.format.specs.PlaceSays.PlaceSays
format-PlaceSays-PlaceSays = Rattle.format.proofs.PlaceSays.place_says

pub format-Sentences-AppendFaultsExact : Rattle.format.specs.Sentences.AppendFaultsExact
format-Sentences-AppendFaultsExact = Rattle.format.proofs.ExactCalls.append_faults_exact

pub format-Sentences-LookupFaultsExact : Rattle.format.specs.Sentences.LookupFaultsExact
format-Sentences-LookupFaultsExact = Rattle.format.proofs.ExactCalls.lookup_faults_exact

pub format-Sentences-SheetFaultsExact : Rattle.format.specs.Sentences.SheetFaultsExact
format-Sentences-SheetFaultsExact = Rattle.format.proofs.ExactSheets.sheet_faults_exact

pub format-Theorems-AppendGivesNew : Rattle.format.specs.Theorems.AppendGivesNew
format-Theorems-AppendGivesNew = Rattle.format.proofs.Theorems.append_gives_new

pub format-Theorems-AppendKeepsOthers : Rattle.format.specs.Theorems.AppendKeepsOthers
format-Theorems-AppendKeepsOthers = Rattle.format.proofs.Theorems.append_keeps_others

pub format-Theorems-AppendKeepsSheet : Rattle.format.specs.Theorems.AppendKeepsSheet
format-Theorems-AppendKeepsSheet = Rattle.format.proofs.Theorems.append_keeps_sheet

pub format-Theorems-BegunReadsBack : Rattle.format.specs.Theorems.BegunReadsBack
format-Theorems-BegunReadsBack = Rattle.format.proofs.Theorems.begun_reads_back

pub format-Theorems-LookupGivesTheList : Rattle.format.specs.Theorems.LookupGivesTheList
format-Theorems-LookupGivesTheList = Rattle.format.proofs.Theorems.lookup_gives_the_list

pub format-Theorems-OneWriting : Rattle.format.specs.Theorems.OneWriting
format-Theorems-OneWriting = Rattle.format.proofs.Theorems.one_writing

pub format-Theorems-ReadWritesBack : Rattle.format.specs.Theorems.ReadWritesBack
format-Theorems-ReadWritesBack = Rattle.format.proofs.Theorems.read_writes_back

pub format-Theorems-WrittenReadsBack : Rattle.format.specs.Theorems.WrittenReadsBack
format-Theorems-WrittenReadsBack = Rattle.format.proofs.Theorems.written_reads_back

pub grammar-Exactness-AcceptedCode : Rattle.grammar.specs.Exactness.AcceptedCode
grammar-Exactness-AcceptedCode = Rattle.grammar.proofs.Coding.accepted_code

pub grammar-Exactness-CodeExact : Rattle.grammar.specs.Exactness.CodeExact
grammar-Exactness-CodeExact = Rattle.grammar.proofs.Coding.code_exact

pub grammar-Exactness-EveryTreeWritten : Rattle.grammar.specs.Exactness.EveryTreeWritten
grammar-Exactness-EveryTreeWritten = Rattle.grammar.proofs.Writing.every_tree_written

pub grammar-Exactness-FaultsExact : Rattle.grammar.specs.Exactness.FaultsExact
grammar-Exactness-FaultsExact = Rattle.grammar.proofs.Faults.faults_exact

pub grammar-Exactness-OneTree : Rattle.grammar.specs.Exactness.OneTree
grammar-Exactness-OneTree = Rattle.grammar.proofs.Reading.one_tree

pub grammar-Exactness-PartsExact : Rattle.grammar.specs.Exactness.PartsExact
grammar-Exactness-PartsExact = Rattle.grammar.proofs.Reading.parts_exact

pub grammar-Exactness-ReaderExact : Rattle.grammar.specs.Exactness.ReaderExact
grammar-Exactness-ReaderExact = Rattle.grammar.proofs.Reading.reader_exact

pub grammar-Places-CodeDetermines : Rattle.grammar.specs.Places.CodeDetermines
grammar-Places-CodeDetermines = Rattle.grammar.proofs.Working.code_determines

pub grammar-Places-EveryPartIsPlaced : Rattle.grammar.specs.Places.EveryPartIsPlaced
grammar-Places-EveryPartIsPlaced = Rattle.grammar.proofs.Places.every_part_is_placed

pub grammar-Places-EveryPlaceIsAPart : Rattle.grammar.specs.Places.EveryPlaceIsAPart
grammar-Places-EveryPlaceIsAPart = Rattle.grammar.proofs.Places.every_place_is_a_part

pub grammar-Places-OnePartEnds : Rattle.grammar.specs.Places.OnePartEnds
grammar-Places-OnePartEnds = Rattle.grammar.proofs.Segments.one_part_ends

pub grammar-Places-SegmentReplaced : Rattle.grammar.specs.Places.SegmentReplaced
grammar-Places-SegmentReplaced = Rattle.grammar.proofs.Segments.segment_replaced

pub laws-Laws-NumberOfLaws : Rattle.laws.specs.Laws.NumberOfLaws
laws-Laws-NumberOfLaws = Rattle.laws.proofs.Table.number_of_laws

pub laws-Places-RewritingGoesBack : Rattle.laws.specs.Places.RewritingGoesBack
laws-Places-RewritingGoesBack = Rattle.laws.proofs.Places.rewriting_goes_back

pub laws-Places-RewritingReachesEveryPart : Rattle.laws.specs.Places.RewritingReachesEveryPart
laws-Places-RewritingReachesEveryPart = Rattle.laws.proofs.Places.rewriting_reaches_every_part

pub laws-Printed-EverySubstitutionWritten : Rattle.laws.specs.Printed.EverySubstitutionWritten
laws-Printed-EverySubstitutionWritten = Rattle.laws.proofs.Substitutions.every_substitution_written

pub laws-Printed-RowsAsPrinted : Rattle.laws.specs.Printed.RowsAsPrinted
laws-Printed-RowsAsPrinted = Rattle.laws.proofs.Printed.rows_as_printed

pub laws-Printed-RowsWithFormulas : Rattle.laws.specs.Printed.RowsWithFormulas
laws-Printed-RowsWithFormulas = Rattle.laws.proofs.Printed.rows_with_formulas

pub laws-Soundness-EveryLawHolds : Rattle.laws.specs.Soundness.EveryLawHolds
laws-Soundness-EveryLawHolds = Rattle.laws.proofs.Table.every_law_holds

pub laws-Soundness-RewritingKeepsTheList : Rattle.laws.specs.Soundness.RewritingKeepsTheList
laws-Soundness-RewritingKeepsTheList = Rattle.laws.proofs.Consequences.rewriting_keeps_the_list

pub laws-Soundness-RewritingKeepsTheSignal : Rattle.laws.specs.Soundness.RewritingKeepsTheSignal
laws-Soundness-RewritingKeepsTheSignal = Rattle.laws.proofs.Soundness.rewriting_keeps_the_signal

pub laws-Soundness-RewritingKeepsVerdicts : Rattle.laws.specs.Soundness.RewritingKeepsVerdicts
laws-Soundness-RewritingKeepsVerdicts = Rattle.laws.proofs.Consequences.rewriting_keeps_verdicts

pub laws-Substitutions-SubstitutionsExact : Rattle.laws.specs.Substitutions.SubstitutionsExact
laws-Substitutions-SubstitutionsExact = Rattle.laws.proofs.Substitutions.substitutions_exact

pub laws-WrongTurns-WrongTurns : Rattle.laws.specs.WrongTurns.WrongTurns
laws-WrongTurns-WrongTurns = Rattle.laws.proofs.WrongTurns.wrong_turns

pub machine-Enough-SlotsSuffice : Rattle.machine.specs.Enough.SlotsSuffice
machine-Enough-SlotsSuffice = Rattle.machine.proofs.SlotsSuffice.slots_suffice

pub names-Sentence-NamesExact : Rattle.names.specs.Sentence.NamesExact
names-Sentence-NamesExact = Rattle.names.proofs.NamesExact.names_exact

pub operations-CallFaults-CallFaultsExact : Rattle.operations.specs.CallFaults.CallFaultsExact
operations-CallFaults-CallFaultsExact = Rattle.operations.proofs.CallFaults.call_faults_exact

pub operations-CallFaults-ChangeIsWord : Rattle.operations.specs.CallFaults.ChangeIsWord
operations-CallFaults-ChangeIsWord = Rattle.operations.proofs.LateWords.change_is_word

pub operations-CallFaults-NeverMet : Rattle.operations.specs.CallFaults.NeverMet
operations-CallFaults-NeverMet = Rattle.operations.proofs.NeverMet.never_met

pub operations-OperationsGive-OperationsGive : Rattle.operations.specs.OperationsGive.OperationsGive
operations-OperationsGive-OperationsGive = Rattle.operations.proofs.OperationsGive.operations_give

pub packing-ColumnsPacked-ColumnsPacked : Rattle.packing.specs.ColumnsPacked.ColumnsPacked
packing-ColumnsPacked-ColumnsPacked = Rattle.packing.proofs.ColumnsPacked.columns_packed

pub packing-SpansPacked-SpansPacked : Rattle.packing.specs.SpansPacked.SpansPacked
packing-SpansPacked-SpansPacked = Rattle.packing.proofs.SmallSpans.spans_packed

pub packing-StopsPacked-StopsPacked : Rattle.packing.specs.StopsPacked.StopsPacked
packing-StopsPacked-StopsPacked = Rattle.packing.proofs.SmallStops.stops_packed

pub pulsing-FewWords-PulsesFew : Rattle.pulsing.specs.FewWords.PulsesFew
pulsing-FewWords-PulsesFew = Rattle.pulsing.proofs.FewWords.pulses_few

pub questions-Equality-Equality : Rattle.questions.specs.Equality.Equality
questions-Equality-Equality = Rattle.questions.proofs.Equality.equality

pub questions-Implication-Implication : Rattle.questions.specs.Implication.Implication
questions-Implication-Implication = Rattle.questions.proofs.Implication.implication

pub reading-ReaderSays-ReaderSays : Rattle.reading.specs.ReaderSays.ReaderSays
reading-ReaderSays-ReaderSays = Rattle.reading.proofs.ReaderSays.reader_says

pub signals-AnswersSay-AnswersSay : Rattle.signals.specs.AnswersSay.AnswersSay
signals-AnswersSay-AnswersSay = Rattle.signals.proofs.AnswersSay.answers_say

pub signals-AnswersSay-SumSays : Rattle.signals.specs.AnswersSay.SumSays
signals-AnswersSay-SumSays = Rattle.signals.proofs.AnswersSay.sum_says

pub signals-AnswersSay-ToldSays : Rattle.signals.specs.AnswersSay.ToldSays
signals-AnswersSay-ToldSays = Rattle.signals.proofs.AnswersSay.told_says

pub signals-AnswersSay-VerdictSays : Rattle.signals.specs.AnswersSay.VerdictSays
signals-AnswersSay-VerdictSays = Rattle.signals.proofs.AnswersSay.verdict_says

pub signals-AnswersSay-WrittenSays : Rattle.signals.specs.AnswersSay.WrittenSays
signals-AnswersSay-WrittenSays = Rattle.signals.proofs.AnswersSay.written_says

pub signals-Earliest-Earliest : Rattle.signals.specs.Earliest.Earliest
signals-Earliest-Earliest = Rattle.signals.proofs.Implication.earliest_fails

pub signals-LatchSteps-LatchSteps : Rattle.signals.specs.LatchSteps.LatchSteps
signals-LatchSteps-LatchSteps = Rattle.signals.proofs.LatchSteps.latch_steps

pub signals-ListFaults-ListFaultsExact : Rattle.signals.specs.ListFaults.ListFaultsExact
signals-ListFaults-ListFaultsExact = Rattle.signals.proofs.ListFaults.list_faults_exact

pub signals-ListFaults-TidyFaultsExact : Rattle.signals.specs.ListFaults.TidyFaultsExact
signals-ListFaults-TidyFaultsExact = Rattle.signals.proofs.TidyFaults.tidy_faults_exact

pub signals-Normal-AcceptedNormal : Rattle.signals.specs.Normal.AcceptedNormal
signals-Normal-AcceptedNormal = Rattle.signals.proofs.Normal.accepted_normal

pub signals-Normal-DatesRise : Rattle.signals.specs.Normal.DatesRise
signals-Normal-DatesRise = Rattle.signals.proofs.Normal.dates_rise

pub signals-Normal-ListOfSignal : Rattle.signals.specs.Normal.ListOfSignal
signals-Normal-ListOfSignal = Rattle.signals.proofs.Normal.list_of_signal

pub signals-Normal-ReadBack : Rattle.signals.specs.Normal.ReadBack
signals-Normal-ReadBack = Rattle.signals.proofs.Normal.read_back_lem

pub signals-Normal-Unique : Rattle.signals.specs.Normal.Unique
signals-Normal-Unique = Rattle.signals.proofs.Normal.unique

pub signals-Normal-UniqueAccepted : Rattle.signals.specs.Normal.UniqueAccepted
signals-Normal-UniqueAccepted = Rattle.signals.proofs.Normal.unique_accepted

pub signals-PulseCases-PulseCases : Rattle.signals.specs.PulseCases.PulseCases
signals-PulseCases-PulseCases = Rattle.signals.proofs.PulseCases.pulse_cases

pub signals-PulseSteps-PulseSteps : Rattle.signals.specs.PulseSteps.PulseSteps
signals-PulseSteps-PulseSteps = Rattle.signals.proofs.PulseSteps.pulse_steps

pub signals-Pulses-Pulses : Rattle.signals.specs.Pulses.Pulses
signals-Pulses-Pulses = Rattle.signals.proofs.Pulses.pulses

pub signals-Quantified-Agreement : Rattle.signals.specs.Quantified.Agreement
signals-Quantified-Agreement = Rattle.signals.proofs.Agreed.agreement

pub signals-Settling-Settling : Rattle.signals.specs.Settling.Settling
signals-Settling-Settling = Rattle.signals.proofs.Settling.settling

pub signals-Starred-Starred : Rattle.signals.specs.Starred.Starred
signals-Starred-Starred = Rattle.signals.proofs.Starred.starred

pub signals-Tables-Tables : Rattle.signals.specs.Tables.Tables
signals-Tables-Tables = Rattle.signals.proofs.Tables.tables

pub signals-Tidying-Tidying : Rattle.signals.specs.Tidying.Tidying
signals-Tidying-Tidying = Rattle.signals.proofs.Tidying.tidying

pub signals-Wording-Moments : Rattle.signals.specs.Wording.Moments
signals-Wording-Moments = Rattle.signals.proofs.Wording.moments

pub signals-Wording-Spans : Rattle.signals.specs.Wording.Spans
signals-Wording-Spans = Rattle.signals.proofs.Wording.spans

pub signals-Wording-Tests : Rattle.signals.specs.Wording.Tests
signals-Wording-Tests = Rattle.signals.proofs.Wording.tests

pub signals-Wording-Wording : Rattle.signals.specs.Wording.Wording
signals-Wording-Wording = Rattle.signals.proofs.Wording.wording

pub stretches-LongestRuns-LongestRuns : Rattle.stretches.specs.LongestRuns.LongestRuns
stretches-LongestRuns-LongestRuns = Rattle.stretches.proofs.LongestRuns.longest_runs

pub stretches-Sentences-UpTimeFaultsExact : Rattle.stretches.specs.Sentences.UpTimeFaultsExact
stretches-Sentences-UpTimeFaultsExact = Rattle.stretches.proofs.CallFaults.up_time_faults_exact

pub stretches-Sentences-UpTimeGives : Rattle.stretches.specs.Sentences.UpTimeGives
stretches-Sentences-UpTimeGives = Rattle.stretches.proofs.CallGives.up_time_gives

pub stretches-Sentences-UpTimeSays : Rattle.stretches.specs.Sentences.UpTimeSays
stretches-Sentences-UpTimeSays = Rattle.stretches.proofs.CallGives.up_time_says

pub stretches-StretchCases-StretchCases : Rattle.stretches.specs.StretchCases.StretchCases
stretches-StretchCases-StretchCases = Rattle.stretches.proofs.StretchCases.stretch_cases

pub stretches-Totals-Totals : Rattle.stretches.specs.Totals.Totals
stretches-Totals-Totals = Rattle.stretches.proofs.Totals.totals

pub stretches-Walk-WalkExact : Rattle.stretches.specs.Walk.WalkExact
stretches-Walk-WalkExact = Rattle.stretches.proofs.Walking.walk_exact

pub texts-DecimalRight-DecimalRight : Rattle.texts.specs.DecimalRight.DecimalRight
texts-DecimalRight-DecimalRight = Rattle.texts.proofs.DecimalRight.decimal_right

pub tidying-Kept-KeptExact : Rattle.tidying.specs.Kept.KeptExact
tidying-Kept-KeptExact = Rattle.tidying.proofs.Keeps.kept_exact

pub tidying-TidyingFaults-TidyingFaultsExact : Rattle.tidying.specs.TidyingFaults.TidyingFaultsExact
tidying-TidyingFaults-TidyingFaultsExact = Rattle.tidying.proofs.TidyingFaults.tidying_faults_exact

pub tidying-TidyingGives-TidyingGives : Rattle.tidying.specs.TidyingGives.TidyingGives
tidying-TidyingGives-TidyingGives = Rattle.tidying.proofs.TidyingGives.tidying_gives

pub tidying-TidyingSays-TidyingSays : Rattle.tidying.specs.TidyingSays.TidyingSays
tidying-TidyingSays-TidyingSays = Rattle.tidying.proofs.TidyingSays.tidying_says

pub uptime_page-PageCases-PageCases : Rattle.uptime_page.specs.PageCases.PageCases
uptime_page-PageCases-PageCases = Rattle.uptime_page.proofs.PageCases.page_cases

pub uptime_page-PageSays-PageSays : Rattle.uptime_page.specs.PageSays.PageSays
uptime_page-PageSays-PageSays = Rattle.uptime_page.proofs.PageSays.page_says

pub verdict_line-LineCases-LineCases : Rattle.verdict_line.specs.LineCases.LineCases
verdict_line-LineCases-LineCases = Rattle.verdict_line.proofs.LineCases.line_cases

pub working-Layout-LayoutFits : Rattle.working.specs.Layout.LayoutFits
working-Layout-LayoutFits = Rattle.working.proofs.WorkLayout.layout_fits
