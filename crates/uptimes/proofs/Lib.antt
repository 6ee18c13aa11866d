-- What the proofs of the functions cite.
pub mod Turning
pub mod DoneWords
pub mod AlongWords
pub mod PartRead
pub mod Answering
