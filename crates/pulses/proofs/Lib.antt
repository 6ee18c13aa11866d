-- The call of the pulse timer.
pub mod PulseAnswers
