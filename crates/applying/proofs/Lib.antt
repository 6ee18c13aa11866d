-- The merge or delay that a part asks for, numbered as its part, and its exact answer.
pub mod Operators
pub mod Numbering
pub mod AppliedExact
mod PartsMade
pub mod Refusals
