-- Definitions that mirror the going along a list's words.
pub mod Turns
