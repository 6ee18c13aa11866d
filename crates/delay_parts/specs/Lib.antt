-- Definitions that mirror a delay in a slot of the work area.
pub mod DelayAt
