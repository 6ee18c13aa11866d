-- A delay in a slot of the work area, its operand read where it stands.
pub mod DelayRun
