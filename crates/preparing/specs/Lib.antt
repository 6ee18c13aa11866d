-- What reading a formula for a sheet says: definitions that mirror the code.
pub mod Preparing
