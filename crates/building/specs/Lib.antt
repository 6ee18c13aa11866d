-- How an answer is built in a slot: definitions that mirror the code, and the calls in a slot that is lent.
pub mod Building
pub mod Slots
