-- The answers of the call: refused by its first fault, or told of the part that the lookup gives.
use Prim.Native.Nat.{ℕ, ◌+◌, ◌-◌, ◌≤◌, ◌<◌}
use native.Mathlib.Omega.{arith}
use mathlib.Core.Path.{◌≡◌, refl, sym, ap, ◌∙◌, subst}
use mathlib.Core.Bool.{Bool, true, false, cond, true≢false}
use mathlib.Core.List.{List}
use lib.Dec.{leb, ltb}
use lib.ListN.{length, drop, take}
use borrow.Author.Tests.{lt-ltb, le-ltb, le-leb, leb-true, leb-false, ne_eqb}
use Rattle.slices.specs.Bytes.{Bytes}
use Rattle.signals.specs.Moment.{M}
use Rattle.signals.specs.Words.{most_words, list_fault, signal_of}
use Rattle.signals.specs.Normal.{Accepted}
use Rattle.signals.specs.Signal.{Signal}
use Rattle.signals.specs.Answers.{first_of, output_of}
use Rattle.signals.proofs.FirstFault.{first_is, first_some, next_is}
use Rattle.format.specs.Reading.{environment_on}
use Rattle.format.specs.Calls.{fault_of_place, lookup_fault, place_of}
use Rattle.format.specs.Theorems.{decoded}
use Rattle.format.specs.declared.Place.{Place}
use Rattle.format.specs.declared.Place.TheVariants as place
use Rattle.format.proofs.Locating.{place_fault, part_is}
use Rattle.format.proofs.Theorems.{lookup_gives_the_list}
use Rattle.stretches.specs.Stretches.{stretches_before, sum_of_ticks, stretch_words}
use Rattle.stretches.specs.Calls.{up_time_for, stretches_on, horizon_fault, up_time_words, up_time_fault, CallOfUpTime}
use Rattle.stretches.specs.declared.UpTime.{UpTime}
use Rattle.stretches.specs.declared.UpTime.TheVariants.{Told, Refused}
use Rattle.stretches.proofs.FewStretches.{few_words}
use Rattle.uptimes.specs.Turns.{FoundIn, fits_in, TellsUpTime}

-- refused with a fault, and nothing is written
refused_by : (f fault count total : ℕ) (words out : List ℕ) → fault ≡ f → (f ≡ 0 → ⊥)
    → (Refused f ≡ up_time_for fault count total) × (out ≡ output_of fault words out)
unfolding up_time_for output_of
refused_by f fault count total words out e n = rw (e, ne_eqb f 0 n) (refl, refl)

-- of a list's stretches: they fit, or the output is too short
module _ (l : List ℕ) (H : ℕ) where
  abbrev size : ℕ
  size = length (stretch_words (stretches_before (signal_of l) H))

  pub always_fit : Accepted l → (room : ℕ) → most_words ≤ room → true ≡ fits_in l H room
  unfolding fits_in
  always_fit a room h = sym (le-leb size room (omega (arith, h, few_words l H a)))

  pub counted_fit : (count total room : ℕ) (other after : List ℕ) → FoundIn l H count total other after → leb count room ≡ fits_in l H room
  unfolding fits_in
  counted_fit count total room other after f = ap (λ (n : ℕ). leb n room) f.0

  pub too_short_lem : (out : List ℕ) → fits_in l H (length out) ≡ false → TellsUpTime l H out (Refused 7) out
  unfolding fits_in
  too_short_lem out e =
      refused_by 7 _ _ _ _ out (rw (lt-ltb (length out) size (leb-false size (length out) e))) (λ z. omega (arith, z))

  pub all_told : (out : List ℕ) → fits_in l H (length out) ≡ true → (count total : ℕ) (after : List ℕ)
      → FoundIn l H count total out after → TellsUpTime l H out (Told count total) after
  unfolding up_time_for output_of fits_in
  all_told out e count total after f =
      let h : size ≤ length out = leb-true size (length out) e in
      rw (le-ltb (length out) size h, f.0, f.1) (refl, f.2 h)

-- a refusal has a number
is_refusal : Place → Bool
is_refusal (place.At start count) = false
is_refusal (place.Refused fault) = true

refusal_some : (sheet name : List ℕ) (fault : ℕ) → place_of sheet name ≡ place.Refused fault → lookup_fault sheet name ≡ 0 → ⊥
unfolding place_of is_refusal
refusal_some sheet name fault e z = true≢false (sym (ap is_refusal e) ∙ rw z)

-- what is told of a signal's stretches, 7 where the output is too short
abbrev Tells : Signal → ℕ → List ℕ → UpTime → List ℕ → Type 0
Tells s H out answer after =
    let ss = stretches_before s H in
    let fault : ℕ = cond (ltb (length out) (length (stretch_words ss))) 7 0 in
    (answer ≡ up_time_for fault (length (stretch_words ss)) (sum_of_ticks ss)) × (after ≡ output_of fault (stretch_words ss) out)

-- of a name on a sheet
module _ (sheet name : List ℕ) (H : ℕ) (out : List ℕ) where
  pub not_found : (fault : ℕ) → place_of sheet name ≡ place.Refused fault → CallOfUpTime sheet name H out (Refused fault) out
  unfolding up_time_fault
  not_found fault e =
      let f : lookup_fault sheet name ≡ fault = sym (place_fault sheet name) ∙ ap fault_of_place e in
      refused_by fault _ _ _ _ out (first_is (lookup_fault sheet name) _ (refusal_some sheet name fault e) ∙ f)
      (λ z. refusal_some sheet name fault e (f ∙ z))

  module _ (start count : ℕ) (e : place_of sheet name ≡ place.At start count) where
    found : lookup_fault sheet name ≡ 0
    found = sym (place_fault sheet name) ∙ ap fault_of_place e

    pub too_late : M < H → CallOfUpTime sheet name H out (Refused 19) out
    unfolding up_time_fault horizon_fault
    too_late h =
        let f : horizon_fault H ≡ 19 = rw (lt-ltb M H h) in
        refused_by 19 _ _ _ _ out (next_is (lookup_fault sheet name) _ found ∙ first_some (horizon_fault H) _ 19 f (omega arith))
        (λ z. omega (arith, z))

    -- the part is the bytes of an accepted list, that of the name's signal
    pub part_accepted : Bytes sheet → list_fault (decoded (take (start + count - start) (drop start sheet))) ≡ 0
    part_accepted b =
        let g = lookup_gives_the_list sheet name b found in
        ap (λ (part : List ℕ). list_fault (decoded part)) (part_is sheet name start count e) ∙ ap list_fault g.words ∙ g.listed

    pub told_of_lem : Bytes sheet → H ≤ M → (answer : UpTime) (after : List ℕ)
        → TellsUpTime (decoded (take (start + count - start) (drop start sheet))) H out answer after
        → CallOfUpTime sheet name H out answer after
    unfolding up_time_fault horizon_fault up_time_words stretches_on
    told_of_lem b h answer after t =
        let f : horizon_fault H ≡ 0 = rw (le-ltb M H h) in
        let g = (lookup_gives_the_list sheet name b found).denotes in
        let part = part_is sheet name start count e in
        let s : signal_of (decoded (take (start + count - start) (drop start sheet))) ≡ environment_on sheet name =
        ap (λ (p : List ℕ). signal_of (decoded p)) part ∙ g in
        let one : first_of (lookup_fault sheet name) (first_of (horizon_fault H) short) ≡ short =
        next_is (lookup_fault sheet name) _ found ∙ next_is (horizon_fault H) short f in
        rw one (subst (λ (x : Signal). Tells x H out answer after) s t)
      where
        short : ℕ
        short = cond (ltb (length out) (length (stretch_words (stretches_before (environment_on sheet name) H)))) 7 0
