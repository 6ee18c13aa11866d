-- Lists on a stack where they stand: found by their place, dropped, and as they were when a slot apart from theirs is written.
use Prim.Native.Nat.{ℕ, zero, suc, ◌+◌, ◌-◌, ◌≤◌, ◌<◌}
use native.Mathlib.Omega.{arith}
use native.Mathlib.Decide.{ℕ_discrete}
use mathlib.Core.Path.{◌≡◌, refl, sym, ◌∙◌, ap}
use mathlib.Core.Bool.{Bool, true, false, ◌||◌}
use mathlib.Core.List.{List, [], ◌∷◌}
use mathlib.Core.Logic.{◌⊎◌, inl, inr}
use lib.Dec.{leb}
use lib.ListN.{length, drop, get_or}
use borrow.Author.Tests.{le-leb}
use Rattle.signals.specs.Words.{most_words}
use Rattle.signals.proofs.Truth.{true_false}
use Rattle.sources.specs.Sources.{apart_from, apart_in, with_slot}
use Rattle.sources.specs.declared.Memory.{Memory}
use Rattle.sources.specs.declared.Memory.TheVariants.{Sheet, Work, Left, Right}
use Rattle.sources.specs.declared.Source.{Source}
use Rattle.sources.proofs.Sourcing.{apart_kept}
use Rattle.code_words.specs.CodeWords.{constants}
use Rattle.working.specs.Standing.{list_of, nowhere}
use Rattle.working.proofs.OnStack.{Stands, Stacked}

-- the list at a place of the stack
pub stands_at : (sheet work : List ℕ) (stack : List Source) (slots : List ℕ) (st : List (List ℕ)) → Stacked sheet work stack slots st
    → (k : ℕ) → k < length st → Stands sheet work (get_or stack k nowhere) (get_or slots k 0) (get_or st (length st - 1 - k) [])
stands_at sheet work stack slots [] s k h = absurd (omega arith)
stands_at sheet work stack slots (l ∷ st) s k h =
    go (ℕ_discrete k (length st)) (λ i. stands_at sheet work stack slots st s.1 k i)
  where
    go : Dec (k ≡ length st)
        → (k < length st → Stands sheet work (get_or stack k nowhere) (get_or slots k 0) (get_or st (length st - 1 - k) []))
        → Stands sheet work (get_or stack k nowhere) (get_or slots k 0) (get_or (l ∷ st) (suc (length st) - 1 - k) [])
    go (yes e) again =
        let z : suc (length st) - 1 - length st ≡ 0 = omega arith in
        rw (e, z) s.0
    go (no x) again =
        let z : suc (length st) - 1 - k ≡ suc (length st - 1 - k) = omega arith in
        rw z (again (omega arith))

pub stacked_drop : (sheet work : List ℕ) (stack : List Source) (slots : List ℕ) (n : ℕ) (st : List (List ℕ))
    → Stacked sheet work stack slots st → Stacked sheet work stack slots (drop n st)
stacked_drop sheet work stack slots zero st s = s
stacked_drop sheet work stack slots (suc n) [] s = tt
stacked_drop sheet work stack slots (suc n) (l ∷ st) s = stacked_drop sheet work stack slots n st s.1

-- a list that stands in its own slot is apart from every other slot
pub stands_apart : (sheet work : List ℕ) (s : Source) (slot : ℕ) (l : List ℕ) → Stands sheet work s slot l → (at : ℕ)
    → (slot + most_words ≤ at) ⊎ (at + most_words ≤ slot) → apart_from s at most_words ≡ true
stands_apart sheet work s slot l h at far = go s.memory refl
  where
    either : (a b : Bool) → (a ≡ true) ⊎ (b ≡ true) → (a || b) ≡ true
    either true b x = refl
    either false b (inl e) = absurd (true_false (sym e))
    either false b (inr e) = e

    go : (m : Memory) → s.memory ≡ m → apart_in m s.at s.count at most_words ≡ true
    go Sheet e = refl
    go Left e = refl
    go Right e = refl
    go Work e = either (leb (s.at + s.count) at) (leb (at + most_words) s.at) (side far)
      where
        side : (slot + most_words ≤ at) ⊎ (at + most_words ≤ slot)
            → (leb (s.at + s.count) at ≡ true) ⊎ (leb (at + most_words) s.at ≡ true)
        side (inl f) = inl (le-leb (s.at + s.count) at (omega (arith, (h.own e).0, (h.own e).1)))
        side (inr f) = inr (le-leb (at + most_words) s.at (omega (arith, (h.own e).0)))

-- a slot apart from all the stack's is written, and the sources of the stack's places are as they were
module _ (sheet work : List ℕ) (stack stack' : List Source) (slots slots' : List ℕ) (at : ℕ) (fits : at + most_words ≤ length work)
    (slot : List ℕ) (full : length slot ≡ most_words) where
  pub stacked_kept : (st : List (List ℕ)) → Stacked sheet work stack slots st
      → ((k : ℕ) → k < length st → (get_or stack' k nowhere ≡ get_or stack k nowhere) × (get_or slots' k 0 ≡ get_or slots k 0)
      × ((get_or slots k 0 + most_words ≤ at) ⊎ (at + most_words ≤ get_or slots k 0)))
      → Stacked sheet (with_slot work at most_words slot) stack' slots' st
  stacked_kept [] s h = tt
  stacked_kept (l ∷ st) s h = (top, stacked_kept st s.1 (λ k i. h k (omega arith)))
    where
      here : (get_or stack' (length st) nowhere ≡ get_or stack (length st) nowhere) ×
          (get_or slots' (length st) 0 ≡ get_or slots (length st) 0)
          × ((get_or slots (length st) 0 + most_words ≤ at) ⊎ (at + most_words ≤ get_or slots (length st) 0))
      here = h (length st) (omega arith)

      top : Stands sheet (with_slot work at most_words slot) (get_or stack' (length st) nowhere) (get_or slots' (length st) 0) l
      top =
          record {
            names =
                ap (list_of sheet (with_slot work at most_words slot)) here.0
                ∙ apart_kept work at most_words fits slot full sheet constants constants (get_or stack (length st) nowhere)
                (stands_apart sheet work _ _ l s.0 at here.2)
                ∙ s.0.names;
            own = rw (here.0, here.1) s.0.own;
          }

-- the same where nothing is written
pub stacked_same : (sheet work : List ℕ) (stack stack' : List Source) (slots slots' : List ℕ) (st : List (List ℕ))
    → Stacked sheet work stack slots st
    → ((k : ℕ) → k < length st → (get_or stack' k nowhere ≡ get_or stack k nowhere) × (get_or slots' k 0 ≡ get_or slots k 0))
    → Stacked sheet work stack' slots' st
stacked_same sheet work stack stack' slots slots' [] s h = tt
stacked_same sheet work stack stack' slots slots' (l ∷ st) s h = (
  rw ((h (length st) (omega arith)).0, (h (length st) (omega arith)).1) s.0,
  stacked_same sheet work stack stack' slots slots' st s.1 (λ k i. h k (omega arith)),
)
