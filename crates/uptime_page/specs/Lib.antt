-- The up-time page of an input, as definitions and statements.
pub mod Page
pub mod Printing
pub mod Words
pub mod PageSays
pub mod PageCases
