-- The lemmas that the proofs of functions share.
pub mod Judging
pub mod Filling
pub mod Answering
