-- How words are read.
pub mod Dated
pub mod Reading
pub mod Along
pub mod ReaderSays
