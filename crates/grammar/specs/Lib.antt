-- Document 01, "Formulas", as definitions; with the block TP of document 02's request 1.
pub mod Tree
pub mod Grammar
pub mod Code
pub mod Parts
pub mod Kinds
pub mod PartWords
pub mod Reader
pub mod Formula
pub mod Exactness
pub mod Places
