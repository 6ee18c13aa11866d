-- What each question about lists answers, and the statements on equality and implication.
pub mod Questions
pub mod Equality
pub mod Implication
