-- The loops of two slices in a slot: where they begin, and what they have built at their end.
use Prim.Native.Nat.{ℕ, ◌≤◌, min}
use native.Mathlib.Omega.{arith}
use mathlib.Core.Path.{◌≡◌, subst}
use mathlib.Core.Bool.{Bool}
use mathlib.Core.List.{List}
use lib.ListN.{length}
use Rattle.slices.specs.Bytes.{Words}
use Rattle.signals.specs.Signal.{Table}
use Rattle.signals.specs.Words.{value_after, most_words}
use Rattle.building.specs.Building.{Begins}
use Rattle.building.specs.declared.Made.{Made}
use Rattle.showing.specs.Showing.{first_shown}
use Rattle.showing.specs.declared.Operation.{Operation}
use Rattle.showing.specs.declared.Shown.{Shown}
use Rattle.sources.specs.Sources.{start_of}
use Rattle.sources.specs.declared.Cursor.{Cursor}
use Rattle.sources.proofs.Readers.{Reading, reads_start, start_passed}
use Rattle.merging.specs.Merging.{State, Merges, BuiltIn}
use Rattle.merging.proofs.Along.{Along, reached, begun_is}

module _ (o : Operation) (table : Table) (a b : List ℕ) (wa : Words a) (wb : Words b)
    (short : (length a ≤ most_words) × (length b ≤ most_words)) (x y : Cursor) (ex : x ≡ start_of a) (ey : y ≡ start_of b) where
  gx : Reading a x
  gx = reads_start a wa (omega (arith, short.0)) x ex

  gy : Reading b y
  gy = reads_start b wb (omega (arith, short.1)) y ey

  -- the loop begins with no date passed
  pub words_start : (slot : List ℕ) (made : Made) (bit : Bool) (date : ℕ) → date ≡ min x.date y.date
      → Along o table a b (reached slot made bit x.passed y.passed) slot x y made bit date
  words_start slot made bit date ed = record { first = gx; second = gy; date_is = ed; on = λ end last w. w }

  -- what it builds from there is built from gap 0 on
  pub words_built : (first : Shown) → first ≡ first_shown o table (value_after x.last) (value_after y.last)
      → (old : List ℕ) (made₀ : Made) (slot₀ : List ℕ) → Begins first.after old made₀ slot₀ → (made : Made) (slot : List ℕ)
      → Merges o table a b slot made (reached slot₀ made₀ first.carried x.passed y.passed) → BuiltIn o table a b old made slot
  words_built first ef old made₀ slot₀ eb made slot w =
      subst (λ (s : State). Merges o table a b slot made s)
      (begun_is o table a b old x y gx gy (start_passed a x ex) (start_passed b y ey) first ef made₀ slot₀ eb) w
