-- What `changes_nothing` needs of words.
pub mod Unchanged
