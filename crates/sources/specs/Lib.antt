-- Where a list stands, and its words: definitions that mirror the code.
pub mod Sources
pub mod Lending
