-- The calls of two lists.
mod FewWords
mod WordLoops
