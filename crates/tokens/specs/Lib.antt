-- What stands in a text at a mark: definitions that mirror the code.
pub mod Tokens
