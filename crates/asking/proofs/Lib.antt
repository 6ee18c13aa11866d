-- The lemmas that the proofs of functions share.
pub mod Telling
