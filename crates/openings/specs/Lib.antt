-- What begins a factor: definitions that mirror the code.
pub mod Opening
