-- Where reading a formula stops: what was passed can be completed, and whatever begins a formula is passed.
pub mod Monotone
pub mod Still
pub mod Begun
pub mod Rules
pub mod Astray
pub mod Chains
pub mod Blocks
pub mod Completing
pub mod Fronts
pub mod Coming
pub mod ComingLeaves
pub mod ComingBlocks
pub mod ComingWords
pub mod Reaching
pub mod Stopping
