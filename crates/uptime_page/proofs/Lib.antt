-- What a page is, and what the proofs of the functions cite.
pub mod Sizes
pub mod Filling
pub mod HorizonRead
pub mod PageTells
pub mod PageFaults
pub mod PageSays
pub mod Answering
pub mod PageCases
