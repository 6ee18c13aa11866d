-- Definitions that only mirror the evaluator, not to be believed: its contracts are those of the crate `calls`.
pub mod Machine
pub mod Stack
pub mod Enough
