-- What the reader's steps leave: definitions that mirror the code.
pub mod Moves
