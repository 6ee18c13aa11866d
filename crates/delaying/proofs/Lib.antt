-- A delay built word by word is the list of its signal.
pub mod DelayUpcoming
pub mod DelayLoop
pub mod WordTests
pub mod DelayedExact
pub mod FewWords
