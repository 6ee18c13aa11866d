-- A pulse timer built word by word is the exact answer of an accepted list; what its code puts into the slot; its loops of a word.
pub mod Ticks
pub mod PulsedExact
pub mod FewWords
pub mod PulseTests
pub mod PulseWords
pub mod PulseLoops
