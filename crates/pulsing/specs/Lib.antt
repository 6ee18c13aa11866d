-- Definitions that mirror how a pulse timer is built, and how many words it has.
pub mod Turns
pub mod FewWords
