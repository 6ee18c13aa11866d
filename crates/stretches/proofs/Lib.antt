-- What is proved of stretches and of the up-time call.
pub mod UpRuns
pub mod Listed
pub mod LongestRuns
pub mod Walking
pub mod FewStretches
pub mod Totals
pub mod StretchCases
pub mod CallFaults
pub mod CallGives
