-- A field of a sheet holds one value, so checks on it give one fault; a name among names.
use Prim.Native.Nat.{ℕ, zero, suc, ◌<◌}
use native.Mathlib.Omega.{arith}
use mathlib.Core.Path.{◌≡◌, refl, sym, ap, subst, ◌∙◌}
use mathlib.Core.Bool.{Bool, true, false, ◌||◌}
use mathlib.Core.List.{List, [], ◌∷◌, ◌++◌}
use lib.ListN.{take, drop}
use lib.Seq.{take_at, drop_at}
use Rattle.signals.proofs.Checks.{Single}
use Rattle.names.specs.Sentence.{IsName}
use Rattle.names.proofs.NamesExact.{names_exact}
use Rattle.slices.specs.Bytes.{low16, low32, bytes16, bytes32}
use Rattle.format.proofs.Digits.{low16_written, low32_written, four_past}
use Rattle.signals.proofs.Truth.{true_false}
use Rattle.format.proofs.Steps.{same_equal, same_refl}
use Rattle.format.proofs.Fields.{padded_unpadded}
use Rattle.format.proofs.Filling.{length_padded, two}
use Rattle.format.specs.Names.{padded, unpadded, same, among}
use Rattle.format.specs.Sentences.{Field, NameField, NumberField, WordField, OneOf}

-- what is written at the front determines the value and the rest
abbrev Determines : {A : Type 0} → (A → Type 0) → (A → List ℕ) → Type 0
Determines {A} InRange written =
    (a b : A) (r s : List ℕ) → InRange a → InRange b → written a ++ r ≡ written b ++ s → (a ≡ b) × (r ≡ s)

field_single : {A : Type 0} (InRange : A → Type 0) (written : A → List ℕ) → Determines InRange written → (bytes : List ℕ)
    → (later : A → List ℕ → ℕ → Type 0) → ((a : A) (rest : List ℕ) → Single (later a rest)) → Single (Field InRange written bytes later)
field_single InRange written one bytes later single n m (a, r, f, p, x) (b, s, g, q, y) =
    let e = one a b r s f g (sym p ∙ q) in
    single b s n m (subst (λ (t : List ℕ). later b t n) e.1 (subst (λ c. later c r n) e.0 x)) y

numbers : Determines (λ n. n < 65536) bytes16
numbers a b r s f g e = (
  sym (low16_written a r f) ∙ ap low16 e ∙ low16_written b s g,
  sym (drop_at (bytes16 a) r 2 (two a)) ∙ ap (λ (l : List ℕ). drop 2 l) e ∙ drop_at (bytes16 b) s 2 (two b),
)

words : Determines (λ w. w < 4294967296) bytes32
words a b r s f g e = (
  sym (low32_written a r f) ∙ ap low32 e ∙ low32_written b s g,
  sym (four_past a r) ∙ ap (λ (l : List ℕ). drop 4 l) e ∙ four_past b s,
)

names : Determines IsName padded
names a b r s f g e = (
  sym (padded_unpadded a ((names_exact a).1 f)) ∙ ap unpadded front ∙ padded_unpadded b ((names_exact b).1 g),
  sym (drop_at (padded a) r 8 (length_padded a f.most))
      ∙ ap (λ (l : List ℕ). drop 8 l) e
      ∙ drop_at (padded b) s 8 (length_padded b g.most),
)
  where
    front : padded a ≡ padded b
    front = sym (take_at (padded a) r 8 (length_padded a f.most))
        ∙ ap (λ (l : List ℕ). take 8 l) e
        ∙ take_at (padded b) s 8 (length_padded b g.most)

pub number_single : (bytes : List ℕ) (later : ℕ → List ℕ → ℕ → Type 0) → ((n : ℕ) (rest : List ℕ) → Single (later n rest))
    → Single (NumberField bytes later)
number_single = field_single (λ n. n < 65536) bytes16 numbers

pub word_single : (bytes : List ℕ) (later : ℕ → List ℕ → ℕ → Type 0) → ((w : ℕ) (rest : List ℕ) → Single (later w rest))
    → Single (WordField bytes later)
word_single = field_single (λ w. w < 4294967296) bytes32 words

pub name_single : (bytes : List ℕ) (later : List ℕ → List ℕ → ℕ → Type 0) → ((name rest : List ℕ) → Single (later name rest))
    → Single (NameField bytes later)
name_single = field_single IsName padded names

-- a name is among names exactly when it is one of them
pub among_one : (name : List ℕ) (given : List (List ℕ)) → among name given ≡ true → OneOf given name
unfolding among
among_one name [] h = true_false (sym h)
among_one name (other ∷ given) h = go (same other name) refl h (among_one name given)
  where
    go : (t : Bool) → same other name ≡ t → t || among name given ≡ true → (among name given ≡ true → OneOf given name)
        → OneOf (other ∷ given) name
    go true p k again = (0, omega arith, same_equal other name p)
    go false p k again = let (i, l, e) = again k in (suc i, omega arith, e)

pub one_among : (name : List ℕ) (given : List (List ℕ)) → OneOf given name → among name given ≡ true
unfolding among
one_among name [] (i, l, e) = absurd (omega arith)
one_among name (other ∷ given) (zero, l, e) = rw (e, same_refl name)
one_among name (other ∷ given) (suc i, l, e) = go (same other name) (one_among name given (i, omega arith, e))
  where
    go : (t : Bool) → among name given ≡ true → t || among name given ≡ true
    go true h = refl
    go false h = h

pub not_one_lem : (name : List ℕ) (given : List (List ℕ)) → among name given ≡ false → ¬ OneOf given name
not_one_lem name given e o = true_false (sym (one_among name given o) ∙ e)
