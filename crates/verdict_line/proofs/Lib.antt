-- What a line is, and what the proofs of the functions cite.
pub mod Lines
pub mod LineCases
pub mod Reading
pub mod Filling
pub mod Pushing
