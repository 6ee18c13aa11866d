-- What is shown is what the merge's signal does.
pub mod ShownHeld
