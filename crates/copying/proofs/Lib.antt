-- Laws of copying.
pub mod Copying
