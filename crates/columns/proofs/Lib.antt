-- Proofs of the statements of specs/.
pub mod MomentNumbers
pub mod RisingMoments
pub mod OutsideMoments
pub mod CallFaults
pub mod PassedWords
pub mod FineCalls
pub mod SingleCalls
pub mod CallGives
pub mod ColumnCases
