-- What a code word holds: definitions that mirror the code.
pub mod CodeWords
