-- Believed: Items copied to the front of an output.
use Rattle.std.specs.Prelude.{List, ◌++◌, length, take, drop}

-- the output with these items at its front, as many as it has room for
abbrev pub copied : {A : Type 0} → List A → List A → List A
copied items out = take (length out) items ++ drop (length items) out
