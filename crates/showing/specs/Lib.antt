-- Definitions that mirror what the merge shows.
pub mod Showing
