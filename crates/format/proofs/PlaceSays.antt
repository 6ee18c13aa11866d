-- Reading a place and giving it are one definition of its cases.
use mathlib.Core.Path.{◌≡◌, refl}
use Rattle.signals.proofs.AnswersSay.{by_fault, is_fault}
use Rattle.format.specs.Calls.{fault_of_place, first_byte, byte_count, place_for}
use Rattle.format.specs.PlaceSays.{GivenPlace, PlaceSays}
use Rattle.format.specs.declared.Place.{Place}
use Rattle.format.specs.declared.Place.TheVariants.{At, Refused}

every_place : (answer : Place) → GivenPlace answer → place_for (fault_of_place answer) (first_byte answer) (byte_count answer) ≡ answer
every_place (At start count) h = refl
every_place (Refused f) h = rw (is_fault f h)

pub place_says : PlaceSays
place_says =
    record {
      fault = λ f start count. by_fault (λ g x. fault_of_place x ≡ g) f (At start count) Refused refl (λ g l. refl);
      value = λ start count. (refl, refl);
      refused = λ f start count l. rw (is_fault f l) (refl, refl);
      given = λ f start count. by_fault (λ g x. GivenPlace x) f (At start count) Refused tt (λ g l. l);
      every = every_place;
    }
