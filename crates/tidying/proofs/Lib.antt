-- Proofs of the statements of specs/, and the lemmas that the proofs of functions share.
pub mod TidyingGives
pub mod Keeps
pub mod TidyingFaults
pub mod TidyingSays
pub mod Turns
pub mod Answered
