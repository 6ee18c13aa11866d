-- What this crate's contracts say beyond the format.
pub mod LookedUp
