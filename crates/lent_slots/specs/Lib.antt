-- Definitions that mirror an engine in a slot of the work area.
pub mod Lent
