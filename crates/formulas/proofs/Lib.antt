-- Lemmas on the reader's steps and paths.
pub mod MarkSteps
pub mod Doing
pub mod LeafPaths
pub mod ReaderPaths
pub mod ReaderChains
pub mod WholeRead
