-- The pulses of a list where it stands, in a slot of the work area.
pub mod PulseRun
