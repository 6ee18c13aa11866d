-- Sheets as document 01 defines them, and the statements of the theorems about them.
pub mod Names
pub mod Reading
pub mod Writing
pub mod Calls
pub mod PlaceSays
pub mod LookupPlace
pub mod Walk
pub mod Theorems
pub mod Sentences
