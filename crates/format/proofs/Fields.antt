-- Names and their fields: padding and its removal undo each other.
use Prim.Native.Nat.{ℕ, zero, suc, ◌-◌, ◌≤◌}
use native.Mathlib.Omega.{arith}
use mathlib.Core.Path.{◌≡◌, refl, sym, ap, ◌∙◌}
use mathlib.Core.Bool.{Bool, true, false, ◌||◌}
use mathlib.Core.List.{List, [], ◌∷◌, ◌++◌}
use lib.Dec.{leb, eqb}
use lib.ListN.{length, drop, replicate, length-drop, take-append-drop}
use lib.Seq.{drop-append_seam}
use borrow.Author.Tests.{eqb-true, ne_eqb, leb-true}
use Rattle.signals.proofs.Truth.{and_left, and_right}
use Rattle.format.proofs.Steps.{take_unpadded}
use Rattle.slices.specs.Slices.{before}
use Rattle.names.specs.Names.{letter, digit, all_of, name_byte, well_named}
use Rattle.format.specs.Names.{padded, unpadded, zeros, field_fits}

-- a character is no zero byte
letter_above : (b : ℕ) → letter b ≡ true → b ≡ 0 → ⊥
unfolding letter
letter_above b h e = let p = leb-true 97 b (and_left (leb 97 b) _ h) in omega arith

digit_above : (b : ℕ) → digit b ≡ true → b ≡ 0 → ⊥
unfolding digit
digit_above b h e = let p = leb-true 48 b (and_left (leb 48 b) _ h) in omega arith

character_above : (b : ℕ) → name_byte b ≡ true → b ≡ 0 → ⊥
unfolding name_byte
character_above b h e = go (letter b) refl h
  where
    go : (t : Bool) → letter b ≡ t → (t || digit b) ≡ true → ⊥
    go true p q = letter_above b p e
    go false p q = digit_above b q e

unpadded_padding : (k : ℕ) → unpadded (replicate k 0) ≡ []
unfolding before
unpadded_padding zero = refl
unpadded_padding (suc k) = refl

characters_unpadded : (n : List ℕ) (k : ℕ) → all_of name_byte n ≡ true → unpadded (n ++ replicate k 0) ≡ n
unfolding before all_of
characters_unpadded [] k h = unpadded_padding k
characters_unpadded (b ∷ bs) k h =
    rw (ne_eqb b 0 (character_above b (and_left (name_byte b) _ h)))
    (ap (λ (l : List ℕ). b ∷ l) (characters_unpadded bs k (and_right (name_byte b) _ h)))

pub named_characters : (n : List ℕ) → well_named n ≡ true → all_of name_byte n ≡ true
unfolding well_named all_of name_byte
named_characters [] h = refl
named_characters (b ∷ bs) h =
    let e = and_right (leb (suc (length bs)) 8) _ h in
    rw (and_left (letter b) _ e) (and_right (letter b) _ e)

pub named_short : (n : List ℕ) → well_named n ≡ true → length n ≤ 8
unfolding well_named
named_short [] h = omega arith
named_short (b ∷ bs) h = leb-true (suc (length bs)) 8 (and_left (leb (suc (length bs)) 8) _ h)

pub padded_unpadded : (n : List ℕ) → well_named n ≡ true → unpadded (padded n) ≡ n
unfolding padded
padded_unpadded n h = characters_unpadded n (8 - length n) (named_characters n h)

zeros_padding : (k : ℕ) → zeros (replicate k 0) ≡ true
unfolding zeros
zeros_padding zero = refl
zeros_padding (suc k) = zeros_padding k

pub padded_fits : (n : List ℕ) → well_named n ≡ true → field_fits (padded n) ≡ true
unfolding field_fits padded
padded_fits n h =
    rw (characters_unpadded n (8 - length n) (named_characters n h), h, drop-append_seam n (replicate (8 - length n) 0))
    (zeros_padding (8 - length n))

zeros_are : (l : List ℕ) → zeros l ≡ true → l ≡ replicate (length l) 0
unfolding zeros
zeros_are [] h = refl
zeros_are (b ∷ bs) h =
    rw (eqb-true b 0 (and_left (eqb b 0) _ h), ← zeros_are bs (and_right (eqb b 0) _ h))

pub fits_named : (f : List ℕ) → field_fits f ≡ true → well_named (unpadded f) ≡ true
unfolding field_fits
fits_named f h = and_left (well_named (unpadded f)) _ h

pub fits_padded : (f : List ℕ) → length f ≡ 8 → field_fits f ≡ true → padded (unpadded f) ≡ f
unfolding field_fits padded
fits_padded f e h =
    let z = zeros_are (drop (length (unpadded f)) f) (and_right (well_named (unpadded f)) _ h) in
    let k : length (drop (length (unpadded f)) f) ≡ 8 - length (unpadded f) = length-drop (length (unpadded f)) f
    ∙ ap (λ (m : ℕ). m - length (unpadded f)) e in
    ap (λ (m : ℕ). unpadded f ++ replicate m 0) (sym k)
    ∙ ap (λ (l : List ℕ). unpadded f ++ l) (sym z)
    ∙ ap (λ (l : List ℕ). l ++ drop (length (unpadded f)) f) (sym (take_unpadded f))
    ∙ take-append-drop (length (unpadded f)) f
