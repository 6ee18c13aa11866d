-- A stack of lists where they stand, and working code words out on it.
pub mod WorkLayout
mod OnStack
mod Standing
mod Slots
mod Stepping
mod Looping
