-- What the proofs of the functions cite.
pub mod Digits
pub mod DecimalRight
pub mod Parting
pub mod LengthReading
