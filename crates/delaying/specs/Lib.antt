-- Definitions that mirror how a delay is built.
pub mod Turns
