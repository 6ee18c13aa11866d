-- Up stretches before a horizon, the statements on them, and the call.
pub mod Stretches
pub mod LongestRuns
pub mod Totals
pub mod StretchCases
pub mod Walk
pub mod Calls
pub mod Sentences
