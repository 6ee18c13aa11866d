-- The bounds by which every packed number fits.
pub mod SmallAnswers
pub mod SmallLists
pub mod SmallOperations
pub mod SmallSheets
pub mod SmallCalls
pub mod SmallUpTimes
pub mod SmallSpans
pub mod SmallStops
pub mod ColumnsPacked
