-- What the contracts of this crate say of bytes.
pub mod Slices
pub mod Bytes
