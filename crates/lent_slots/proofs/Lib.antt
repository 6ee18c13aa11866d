-- Whether an engine begins, and what its loop keeps.
pub mod MayBuild
pub mod LentRuns
pub mod WordReaders
