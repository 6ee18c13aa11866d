-- The packing of answers as definitions.
pub mod Packing
pub mod SpansPacked
pub mod StopsPacked
pub mod ColumnsPacked
