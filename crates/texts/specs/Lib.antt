-- Numbers and lines in texts, as definitions.
pub mod Lengths
pub mod Decimal
pub mod DecimalRight
pub mod LineFeeds
