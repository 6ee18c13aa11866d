-- The proofs of the statements of specs/.
pub mod Letters
pub mod BothDown
pub mod Boolean
pub mod SetReset
pub mod ResetSet
pub mod Timers
pub mod Edges
pub mod Table
pub mod Printer
pub mod Printed
pub mod Substitutions
pub mod Places
pub mod Soundness
pub mod Consequences
pub mod WrongTurns
