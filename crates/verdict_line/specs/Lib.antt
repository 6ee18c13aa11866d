-- The line of a claim's answer, as definitions.
pub mod Line
pub mod Written
pub mod LineCases
pub mod Putting
