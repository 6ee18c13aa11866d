-- The test of names is the sentence that document 01 has for them.
use Prim.Native.Nat.{ℕ, zero, suc, ◌≤◌, ◌<◌}
use native.Mathlib.Omega.{arith}
use mathlib.Core.Path.{◌≡◌, refl, sym}
use mathlib.Core.Bool.{Bool, true, false, ◌&&◌, ◌||◌}
use mathlib.Core.List.{List, [], ◌∷◌}
use mathlib.Core.Logic.{◌⊎◌, inl, inr}
use lib.Dec.{leb}
use lib.ListN.{length, get_or}
use borrow.Author.Tests.{leb-true, le-leb}
use Rattle.signals.proofs.Truth.{true_false, and_left, and_right, and_of}
use Rattle.names.specs.Names.{letter, digit, name_byte, all_of, well_named}
use Rattle.names.specs.Sentence.{Letter, Digit, IsName, NamesExact}

letter_is : (b : ℕ) → letter b ≡ true → Letter b
unfolding letter
letter_is b h = (leb-true 97 b (and_left (leb 97 b) (leb b 122) h), leb-true b 122 (and_right (leb 97 b) (leb b 122) h))

is_letter : (b : ℕ) → Letter b → letter b ≡ true
unfolding letter
is_letter b l = and_of _ _ (le-leb 97 b l.0) (le-leb b 122 l.1)

digit_is : (b : ℕ) → digit b ≡ true → Digit b
unfolding digit
digit_is b h = (leb-true 48 b (and_left (leb 48 b) (leb b 57) h), leb-true b 57 (and_right (leb 48 b) (leb b 57) h))

is_digit : (b : ℕ) → Digit b → digit b ≡ true
unfolding digit
is_digit b l = and_of _ _ (le-leb 48 b l.0) (le-leb b 57 l.1)

character_is : (b : ℕ) → name_byte b ≡ true → Letter b ⊎ Digit b
unfolding name_byte
character_is b h = go (letter b) refl h
  where
    go : (t : Bool) → letter b ≡ t → (t || digit b) ≡ true → Letter b ⊎ Digit b
    go true p q = inl (letter_is b p)
    go false p q = inr (digit_is b q)

is_character : (b : ℕ) → Letter b ⊎ Digit b → name_byte b ≡ true
unfolding name_byte
is_character b (inl l) = rw (is_letter b l)
is_character b (inr d) = go (letter b) (is_digit b d)
  where
    go : (t : Bool) → digit b ≡ true → (t || digit b) ≡ true
    go true h = refl
    go false h = h

characters_are : (bs : List ℕ) → all_of name_byte bs ≡ true → (i : ℕ) → i < length bs → Letter (get_or bs i 0) ⊎ Digit (get_or bs i 0)
unfolding all_of
characters_are [] h i p = absurd (omega arith)
characters_are (b ∷ bs) h zero p = character_is b (and_left (name_byte b) (all_of name_byte bs) h)
characters_are (b ∷ bs) h (suc i) p = characters_are bs (and_right (name_byte b) (all_of name_byte bs) h) i (omega arith)

are_characters : (bs : List ℕ) → ((i : ℕ) → i < length bs → Letter (get_or bs i 0) ⊎ Digit (get_or bs i 0)) → all_of name_byte bs ≡ true
unfolding all_of
are_characters [] h = refl
are_characters (b ∷ bs) h = and_of _ _ (is_character b (h 0 (omega arith))) (are_characters bs (λ i p. h (suc i) (omega arith)))

named_is : (name : List ℕ) → well_named name ≡ true → IsName name
unfolding well_named
named_is [] h = true_false (sym h)
named_is (b ∷ bs) h =
    let e = and_right (leb (suc (length bs)) 8) (letter b && all_of name_byte bs) h in
    record {
      some = omega arith;
      most = leb-true (suc (length bs)) 8 (and_left (leb (suc (length bs)) 8) (letter b && all_of name_byte bs) h);
      first = letter_is b (and_left (letter b) (all_of name_byte bs) e);
      others = λ i. later i (characters_are bs (and_right (letter b) (all_of name_byte bs) e));
    }
  where
    later : (i : ℕ) → ((j : ℕ) → j < length bs → Letter (get_or bs j 0) ⊎ Digit (get_or bs j 0)) → 1 ≤ i → i < suc (length bs)
        → Letter (get_or (b ∷ bs) i 0) ⊎ Digit (get_or (b ∷ bs) i 0)
    later zero k p q = absurd (omega arith)
    later (suc j) k p q = k j (omega arith)

is_named : (name : List ℕ) → IsName name → well_named name ≡ true
unfolding well_named
is_named [] n = absurd (omega (arith, n.some))
is_named (b ∷ bs) n =
    and_of _ _ (le-leb (suc (length bs)) 8 n.most)
    (and_of _ _ (is_letter b n.first) (are_characters bs (λ i p. n.others (suc i) (omega arith) (omega arith))))

pub names_exact : NamesExact
names_exact name = (named_is name, is_named name)
