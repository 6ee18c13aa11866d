-- The proofs of the statements of specs/, and the order of a call's faults.
pub mod JudgedCalls
pub mod CallFaults
pub mod LateWords
pub mod NeverMet
pub mod OperationsGive
pub mod DelayJudged
