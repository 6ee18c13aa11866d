-- NOT and the edges word by word: definitions that mirror the code.
pub mod Turning
pub mod Edging
