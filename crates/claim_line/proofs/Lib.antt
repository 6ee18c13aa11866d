-- What the proofs of the functions cite.
pub mod Telling
pub mod Refusals
pub mod OneLine
