-- NOT and the edges of an accepted list are its exact answers.
pub mod NoFault
pub mod Turned
pub mod Edged
