-- Document 01, "Law table", as data, and the statements of the theorems about it.
pub mod Scheme
pub mod Laws
pub mod Texts
pub mod Printed
pub mod Substitutions
pub mod Rewriting
pub mod Places
pub mod Soundness
pub mod WrongTurns
