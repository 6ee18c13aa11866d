-- Lemmas of the stack machine that the evaluator is, without its code.
pub mod Answers
pub mod KnownParts
pub mod Exact
pub mod PartCodes
pub mod Leaves
pub mod Applying
pub mod Tracing
pub mod Running
pub mod Preparing
pub mod FormulaRan
pub mod Calling
pub mod Claiming
pub mod SlotsSuffice
