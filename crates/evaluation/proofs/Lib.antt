-- A formula or two worked out on a stack, and a list handed over where it stands.
mod OnStack
mod Copying
