-- The calls on lists, as document 01 defines them; with TP of document 02's request 1.
pub mod Calls
pub mod CallFaults
pub mod OperationsGive
