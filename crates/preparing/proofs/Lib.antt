-- What a formula read for a sheet gives, by the paths of `prepare`; on an accepted sheet, its parts and the faults 10, 11, 8, 12, 13.
mod Placing
mod Reading
pub mod OnSheet
