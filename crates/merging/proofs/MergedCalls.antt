-- What `merge_at` answers, by its tests.
use Prim.Native.Nat.{ℕ, ◌+◌, ◌<◌}
use mathlib.Core.Path.{◌≡◌, refl, sym, ◌∙◌, ap}
use mathlib.Core.Bool.{Bool, true, false, and-false, ◌&&◌}
use mathlib.Core.List.{List}
use lib.ListN.{length}
use borrow.Author.Tests.{le-leb, lt-leb}
use Rattle.signals.specs.Signal.{Table}
use Rattle.signals.specs.Words.{most_words}
use Rattle.signals.proofs.Truth.{true_false}
use Rattle.building.specs.Slots.{made_answer}
use Rattle.building.specs.declared.Made.{Made}
use Rattle.building.specs.declared.SlotAnswer.{SlotAnswer}
use Rattle.building.specs.declared.SlotAnswer.TheVariants.{NotBegun}
use Rattle.showing.specs.declared.Operation.{Operation}
use Rattle.showing.specs.declared.Operation.TheVariants.{Connective}
use Rattle.sources.specs.Sources.{apart_from}
use Rattle.sources.specs.declared.Source.{Source}
use Rattle.merging.specs.Merging.{MayMerge, may_merge, BuiltAt, MergedAt}

pub may_merge_lem : (a b : Source) (at n : ℕ) → MayMerge a b at most_words n → may_merge a b at n ≡ true
unfolding may_merge
may_merge_lem a b at n (p, q, r) = rw (p, q, le-leb (at + most_words) n r)

module _ (o : Operation) (table : Table) (sheet left right work : List ℕ) (a b : Source) (at : ℕ) where
  may_not : may_merge a b at (length work) ≡ false → MergedAt o table sheet left right work a b at NotBegun work
  may_not e = record { refused = λ h. (refl, refl); built = λ h. true_false (sym h ∙ e) }

  pub first_touches : (t : Bool) → t ≡ apart_from a at most_words → t ≡ false → MergedAt o table sheet left right work a b at NotBegun work
  unfolding may_merge
  first_touches t e f = let z : apart_from a at most_words ≡ false = sym e ∙ f in may_not (rw z)

  pub second_touches : (t : Bool) → t ≡ apart_from b at most_words → t ≡ false → MergedAt o table sheet left right work a b at NotBegun work
  unfolding may_merge
  second_touches t e f = let z : apart_from b at most_words ≡ false = sym e ∙ f in may_not (rw z (and-false (apart_from a at most_words)))

  pub no_room : length work < at + most_words → MergedAt o table sheet left right work a b at NotBegun work
  unfolding may_merge
  no_room h = may_not (rw (lt-leb (at + most_words) (length work) h)
      (ap (λ (t : Bool). apart_from a at most_words && t) (and-false (apart_from b at most_words)) ∙ and-false
      (apart_from a at most_words)))

  pub begins : MayMerge a b at most_words (length work) → (made : Made) (after : List ℕ)
      → BuiltAt o table sheet left right work a b at most_words made after → (answer : SlotAnswer) → answer ≡ made_answer made
      → MergedAt o table sheet left right work a b at answer after
  begins may made after w answer e =
      record { refused = λ h. true_false (sym (may_merge_lem a b at (length work) may) ∙ h); built = λ h. (made, w, e) }

-- the loop of connectives
pub joined : (o : Operation) → o ≡ Connective → (table : Table) (sheet left right work : List ℕ) (a b : Source) (at room : ℕ) (made : Made)
    (after : List ℕ) → BuiltAt Connective table sheet left right work a b at room made after
    → BuiltAt o table sheet left right work a b at room made after
joined o e table sheet left right work a b at room made after w = rw e w
