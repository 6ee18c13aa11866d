-- Definitions that mirror a delay.
pub mod Delay
