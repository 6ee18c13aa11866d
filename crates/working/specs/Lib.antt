-- Lists on a stack, each where it stands: definitions that mirror the code.
pub mod Layout
pub mod Standing
