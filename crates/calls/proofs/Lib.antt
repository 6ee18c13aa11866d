-- The proofs of the statements of specs/.
pub mod FirstFault
pub mod Settles
pub mod PartFaults
pub mod ReadingFaults
pub mod CallFaults
pub mod SheetNumbers
pub mod NotRefused
pub mod NamedFormula
pub mod Demand2
pub mod Demand3
pub mod OneEngine
pub mod SmallCases
pub mod WrongEngines
pub mod ZeroObeys
pub mod Printed
