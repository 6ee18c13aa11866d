-- What an engine in a slot of the work area answers, by whether it begins.
use Prim.Native.Nat.{ℕ, ◌+◌, ◌≤◌}
use mathlib.Core.Path.{◌≡◌, refl, sym, ◌∙◌}
use mathlib.Core.Bool.{Bool, true, false, ◌&&◌}
use mathlib.Core.List.{List}
use lib.Dec.{leb}
use lib.ListN.{length}
use borrow.Author.Tests.{leb-true}
use Rattle.signals.specs.Moment.{M}
use Rattle.signals.specs.Words.{most_words}
use Rattle.signals.proofs.Truth.{true_false, and_left, and_right}
use Rattle.building.specs.Slots.{made_answer}
use Rattle.building.specs.declared.Made.{Made}
use Rattle.building.specs.declared.SlotAnswer.{SlotAnswer}
use Rattle.building.specs.declared.SlotAnswer.TheVariants.{NotBegun}
use Rattle.sources.specs.Sources.{list_at, apart_from, slot_in}
use Rattle.sources.specs.declared.Source.{Source}
use Rattle.lent_slots.specs.Lent.{Engine, EndsIn, may_build, BuiltAt}

module _ (d : ℕ) (f : Source) (at room : ℕ) where
  pub may_all : may_build d f at room ≡ true → (d ≤ M) × (at + most_words ≤ room) × (apart_from f at most_words ≡ true)
  unfolding may_build
  may_all e =
      let fits = and_right (leb d M) (leb (at + most_words) room && apart_from f at most_words) e in (
        leb-true d M (and_left (leb d M) (leb (at + most_words) room && apart_from f at most_words) e),
        leb-true (at + most_words) room (and_left (leb (at + most_words) room) (apart_from f at most_words) fits),
        and_right (leb (at + most_words) room) (apart_from f at most_words) fits,
      )

-- the whole call, by whether it begins
module _ (engine : Engine) (d : ℕ) (sheet left right work : List ℕ) (f : Source) (at : ℕ) (begins : Bool)
    (e : begins ≡ may_build d f at (length work))
  where
    pub at_rest : begins ≡ false → BuiltAt engine d sheet left right work f at NotBegun work
    at_rest n = record { refused = λ z. (refl, refl); built = λ z. true_false (sym z ∙ sym e ∙ n) }

    pub at_work : begins ≡ true → (made : Made) (after : List ℕ)
        → EndsIn (engine (list_at sheet left right work f) (slot_in work at most_words)) work at most_words made after
        → (answer : SlotAnswer) → answer ≡ made_answer made → BuiltAt engine d sheet left right work f at answer after
    at_work y made after ran answer q =
        record { refused = λ z. true_false (sym y ∙ e ∙ z); built = λ z. (made, ran, q) }
