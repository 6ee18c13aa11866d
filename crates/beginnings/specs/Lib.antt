-- Where reading a formula stops.
pub mod Beginnings
