-- Lemmas on names cut from a text.
mod CutNames
