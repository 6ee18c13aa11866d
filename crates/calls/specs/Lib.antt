-- Formula calls and claims of two formulas as document 01 defines them, and demands 2 and 3 as predicates of any engine.
pub mod OnSheet
pub mod Calls
pub mod Engine
pub mod Answered
pub mod NormalLists
pub mod TreesOnSheets
pub mod Tabled
pub mod OneFault
pub mod Demand2
pub mod Demand3
pub mod NotRefused
pub mod OneEngine
pub mod WrongEngines
pub mod Printed
pub mod Work
