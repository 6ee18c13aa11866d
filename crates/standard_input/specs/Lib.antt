-- What can be said of a reading of standard input.
pub mod Reading
