-- A column of values: moments as numbers, what the call answers, and the statements on it.
pub mod Numbers
pub mod Columns
pub mod MomentNumbers
pub mod Sentences
pub mod ColumnCases
