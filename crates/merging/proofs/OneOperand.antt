-- An operation of one operand, as a merge with the list that is always down.
use Prim.Native.Nat.{ℕ, max}
use native.Mathlib.Omega.{arith}
use mathlib.Core.Path.{◌≡◌, refl}
use mathlib.Core.Bool.{Bool, true, false, not}
use mathlib.Core.List.{List, [], ◌∷◌}
use Rattle.signals.specs.Signal.{Signal, NOT, cell, connective}
use Rattle.signals.specs.Words.{list_fault, words_fault, pair_fault, signal_of, last_date, last_from}
use Rattle.signals.proofs.Scan.{list_of_ext}
use Rattle.operations.specs.Calls.{exact_of_one, exact_of_two}
use Rattle.signals.proofs.FirstFault.{first_with_none}

abbrev pub none : List ℕ
none = 0 ∷ []

none_accepted : list_fault none ≡ 0
unfolding list_fault words_fault
none_accepted = refl

none_last : last_date none ≡ 0
unfolding last_date last_from
none_last = refl

pub pair_of_one : (a : List ℕ) → pair_fault a none ≡ list_fault a
unfolding pair_fault
pair_of_one a = rw none_accepted (first_with_none (list_fault a))

module _ (one : Signal → Signal) (two : Signal → Signal → Signal) (same : (f g : Signal) (t : ℕ) → two f g t ≡ one f t) (a : List ℕ) where
  pub exact_of_one_lem : exact_of_two two a none ≡ exact_of_one one a
  unfolding exact_of_two exact_of_one
  exact_of_one_lem =
      let m : max (last_date a) (last_date none) ≡ last_date a = rw none_last (omega arith) in
      rw m (list_of_ext (two (signal_of a) (signal_of none)) (one (signal_of a)) (last_date a) (same (signal_of a) (signal_of none)))

pub inverted : (f g : Signal) (t : ℕ) → connective ((true ∷ true ∷ []) ∷ (false ∷ false ∷ []) ∷ []) f g t ≡ NOT f t
unfolding connective NOT cell
inverted f g t = go (f t) (g t)
  where
    go : (p q : Bool) → cell ((true ∷ true ∷ []) ∷ (false ∷ false ∷ []) ∷ []) p q ≡ not p
    go true true = refl
    go true false = refl
    go false true = refl
    go false false = refl
