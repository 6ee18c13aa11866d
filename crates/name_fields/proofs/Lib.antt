-- The tests of names and name fields in std's words.
pub mod Holding
