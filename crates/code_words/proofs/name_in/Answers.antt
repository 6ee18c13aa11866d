-- `code_words::name_in` gives a part of the text, the name of a code word, cut at its end.
use native.Mathlib.Nat.{add-sub_cancel_left}
use mathlib.Core.Path.{refl}
use Rattle.code_words.proofs.CutNames.{name_none, name_rest, name_whole}
use Rattle.code_words.proofs.name_in.Goals as goal

pub returns-then-text-place : goal.returns-then-text-place
returns-then-text-place c = name_none _ _ _ c.if-text-place.true

pub returns-then-text-place-2 : goal.returns-then-text-place-2
returns-then-text-place-2 c = name_rest _ _ _ _ (refl) c.if-text-place-2.true

pub returns : goal.returns
returns c = name_whole _ _ _ _ (add-sub_cancel_left _ _)
