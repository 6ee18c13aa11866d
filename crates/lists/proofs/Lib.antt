-- The lemmas that the proofs of the list check and of tidying share.
pub mod Judging
