-- The laws of an answer that is built in a slot.
pub mod BuildingLaws
pub mod Built
pub mod Scanning
pub mod Delivering
pub mod JudgedSlots
