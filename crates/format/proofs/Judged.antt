-- On a sheet that is judged already, a name is found among the signals as a lookup finds it.
use Prim.Native.Nat.{ℕ}
use mathlib.Core.Path.{◌≡◌, refl, sym, ◌∙◌, ap}
use mathlib.Core.Bool.{Bool, true, false, cond}
use mathlib.Core.List.{List}
use lib.Dec.{eqb}
use lib.ListN.{drop}
use native.Mathlib.Decide.{ℕ_discrete}
use borrow.Author.Tests.{eq-eqb, ne_eqb}
use Rattle.signals.proofs.Truth.{true_false}
use Rattle.slices.specs.Bytes.{low16}
use Rattle.names.specs.Names.{well_named}
use Rattle.format.specs.Reading.{sheet_fault, count_on, signals_on}
use Rattle.format.specs.Calls.{place_from, place_of, place_among, or_missing, place_judged}
use Rattle.format.specs.declared.Place.{Place}
use Rattle.format.specs.declared.Place.TheVariants.{At, Refused}
use Rattle.format.proofs.Walking.{wholes_all}
use Rattle.format.proofs.Judging.{found_in, found_known}
use Rattle.format.proofs.Locating.{count_is, sheet_whole, place_bad_name, place_refused, place_walked}
use Rattle.format.proofs.SheetLists.{sheet_sound, named_sound}

module _ (sheet name : List ℕ) where
  abbrev walked : Place
  walked = place_from name 7 (count_on sheet) (drop 7 sheet)

  -- a name that is found is one
  well : sheet_fault sheet ≡ 0 → found_in walked ≡ true → well_named name ≡ true
  unfolding signals_on
  well ok f = (named_sound name (signals_on sheet) (sheet_sound sheet ok) (sym (found_known name 7 (count_on sheet) (drop 7 sheet)) ∙ f)).0

  accepted : sheet_fault sheet ≡ 0 → or_missing (well_named name) walked ≡ place_of sheet name
  accepted ok = go (well_named name) walked refl refl
    where
      go : (w : Bool) (p : Place) → well_named name ≡ w → walked ≡ p → or_missing w p ≡ place_of sheet name
      go true (At start count) e q = sym q ∙ place_walked sheet name ok e
      go true (Refused fault) e q = sym (place_refused name 7 (count_on sheet) (drop 7 sheet) (ap found_in q)) ∙ place_walked sheet name
          ok e
      go false (At start count) e q = true_false (sym (well ok (ap found_in q)) ∙ e)
      go false (Refused fault) e q = place_bad_name sheet name ok e

  pub judged_place : (n : ℕ) → n ≡ low16 (drop 5 sheet) → or_missing (well_named name) (place_among name 7 n (drop 7 sheet))
      ≡ place_judged sheet name
  unfolding place_judged
  judged_place n e = go (ℕ_discrete (sheet_fault sheet) 0)
    where
      go : Dec (sheet_fault sheet ≡ 0) → or_missing (well_named name) (place_among name 7 n (drop 7 sheet))
          ≡ cond (eqb (sheet_fault sheet) 0) (place_of sheet name)
          (or_missing (well_named name) (place_among name 7 (count_on sheet) (drop 7 sheet)))
      go (yes ok) = rw (count_is sheet n e, eq-eqb _ _ ok, wholes_all _ _ (sheet_whole sheet ok)) (accepted ok)
      go (no x) = rw (count_is sheet n e, ne_eqb _ _ x)

-- on an accepted sheet that is a lookup's place
pub judged_accepted : (sheet name : List ℕ) → sheet_fault sheet ≡ 0 → place_judged sheet name ≡ place_of sheet name
unfolding place_judged
judged_accepted sheet name ok = rw (eq-eqb _ _ ok)

-- by the cases of the place found
module _ (sheet name : List ℕ) (n : ℕ) (en : n ≡ low16 (drop 5 sheet)) (place : Place)
    (e : place ≡ place_among name 7 n (drop 7 sheet)) where
  pub judged_found : (start count : ℕ) → place ≡ At start count → place ≡ place_judged sheet name
  judged_found start count q =
      q ∙ sym (ap (or_missing (well_named name)) q) ∙ ap (or_missing (well_named name)) e ∙ judged_place sheet name n en

  pub judged_missing : (fault : ℕ) (w : Bool) → place ≡ Refused fault → w ≡ well_named name → Refused (cond w 13 16) ≡ place_judged
      sheet name
  judged_missing fault w q ew =
      ap (λ b. Refused (cond b 13 16)) ew ∙ sym (ap (or_missing (well_named name)) q) ∙ ap (or_missing (well_named name)) e
      ∙ judged_place sheet name n en
