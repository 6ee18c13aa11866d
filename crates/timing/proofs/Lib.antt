-- A delay's state is what its signal does.
pub mod DelayCases
pub mod DelaySignals
pub mod DelayTiming
pub mod DelayTurn
