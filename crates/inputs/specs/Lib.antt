-- What a program takes from its input, as definitions.
pub mod Input
