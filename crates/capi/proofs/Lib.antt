-- What the exports' proofs share.
pub mod Connected
