-- Proofs of the statements of specs/.
pub mod LaterLast
pub mod Equality
pub mod Implication
