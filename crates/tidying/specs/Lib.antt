-- What tidying answers and writes.
pub mod Calls
pub mod Kept
pub mod TidyingGives
pub mod TidyingSays
pub mod TidyingFaults
pub mod Counting
