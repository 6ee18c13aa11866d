-- The lemmas that the proofs of functions share, and the law of `implies_at`.
pub mod Scanning
pub mod Watching
pub mod FirstFound
pub mod Verdicts
mod Standing
pub mod ImpliesExact
