-- The first bytes of an input that has as many as count, and the parts of these.
use Prim.Native.Nat.{ℕ, min}
use native.Mathlib.Omega.{arith}
use mathlib.Core.Path.{◌≡◌, sym, ap, ◌∙◌}
use mathlib.Core.List.{List}
use lib.ListN.{length, take, length-take}
use Rattle.std.proofs.lemmas.List.{take_all, take_min}
use Rattle.texts.specs.LineFeeds.{to_line_feed, past_line_feed}
use Rattle.inputs.specs.Input.{limit, counted, first_line, second_line, sheet_in, PartOfInput}

-- none of an input's first bytes is dropped when it has no more bytes than count
counted_first : (n : ℕ) (s : List ℕ) → length s ≡ limit → take n s ≡ counted (take n s)
unfolding counted
counted_first n s l = sym (take_all limit (take n s) (rw (length-take n s) (omega arith)))

-- the first n bytes, or all of them
pub first_counted : (n k : ℕ) (s : List ℕ) → length s ≡ limit → k ≡ min n limit → take k s ≡ counted (take n s)
first_counted n k s l e = ap (λ i. take i s) (e ∙ ap (min n) (sym l)) ∙ take_min n s ∙ counted_first n s l

module _ (input text : List ℕ) (n : ℕ) (t : PartOfInput counted input n text) where
  pub first_is : (r : List ℕ) → r ≡ to_line_feed text → PartOfInput first_line input n r
  unfolding first_line
  first_is r e = (t.0, e ∙ ap to_line_feed t.1)

  pub second_is : (after r : List ℕ) → after ≡ past_line_feed text → r ≡ to_line_feed after → PartOfInput second_line input n r
  unfolding second_line
  second_is after r a e = (t.0, e ∙ ap to_line_feed (a ∙ ap past_line_feed t.1))

  pub sheet_is : (after r : List ℕ) → after ≡ past_line_feed text → r ≡ past_line_feed after → PartOfInput sheet_in input n r
  unfolding sheet_in
  sheet_is after r a e = (t.0, e ∙ ap past_line_feed (a ∙ ap past_line_feed t.1))
