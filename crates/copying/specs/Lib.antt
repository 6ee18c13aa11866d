-- What copying gives.
pub mod Copied
