-- The claim that the program's input makes, and the line that it prints, as definitions.
pub mod Printing
pub mod OneLine
