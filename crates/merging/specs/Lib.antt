-- The merge of two lists for every input: definitions that mirror the code.
pub mod Merging
