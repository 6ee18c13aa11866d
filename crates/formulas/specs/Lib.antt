-- What the contract of `read` and the private contracts of its readers cite.
pub mod Calls
pub mod Readers
