-- The merge of two lists builds the list of its signal.
pub mod MergeTurn
pub mod Along
mod MergeLoop
pub mod MergedExact
pub mod MergedCalls
pub mod OneOperand
