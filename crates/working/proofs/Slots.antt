-- The slots that a stack uses: at first in their order, then exchanged two by two.
use Prim.Native.Nat.{ℕ, zero, suc, ◌+◌, ◌*◌, ◌≤◌, ◌<◌}
use native.Mathlib.Omega.{arith}
use native.Mathlib.Decide.{ℕ_discrete}
use mathlib.Core.Path.{◌≡◌, refl, sym, ◌∙◌, ap}
use mathlib.Core.Bool.{Bool, true, false, cond}
use mathlib.Core.List.{List, [], ◌∷◌}
use lib.Dec.{eqb, ltb}
use borrow.Author.Tests.{eq-eqb, ne_eqb, ltb-true, ltb-false}
use mathlib.Core.Logic.{◌⊎◌, inl, inr}
use lib.ListN.{length, get_or, set, length-set}
use lib.Seq.{get_or-set_same, get_or-set_other}
use Rattle.signals.specs.Words.{most_words}
use Rattle.working.specs.Layout.{slot_at}
use Rattle.working.proofs.OnStack.{Slotted}

-- two slots exchanged
abbrev pub exchanged : List ℕ → ℕ → ℕ → List ℕ
exchanged slots h p = set (set slots h (get_or slots p 0)) p (get_or slots h 0)

-- whose slot a place has then
pub other : ℕ → ℕ → ℕ → ℕ
other h p k = cond (eqb k p) h (cond (eqb k h) p k)

module _ (h p : ℕ) where
  is_p : (k : ℕ) → k ≡ p → other h p k ≡ h
  unfolding other
  is_p k e = rw (eq-eqb k p e)

  is_h : (k : ℕ) → (k ≡ p → ⊥) → k ≡ h → other h p k ≡ p
  unfolding other
  is_h k x e = rw (ne_eqb k p x, eq-eqb k h e)

  is_else : (k : ℕ) → (k ≡ p → ⊥) → (k ≡ h → ⊥) → other h p k ≡ k
  unfolding other
  is_else k x y = rw (ne_eqb k p x, ne_eqb k h y)

  twice : (k : ℕ) → other h p (other h p k) ≡ k
  twice k = go (ℕ_discrete k p) (ℕ_discrete k h)
    where
      back : k ≡ p → Dec (h ≡ p) → other h p h ≡ k
      back e (yes f) = is_p h f ∙ f ∙ sym e
      back e (no x) = is_h h x refl ∙ sym e

      go : Dec (k ≡ p) → Dec (k ≡ h) → other h p (other h p k) ≡ k
      go (yes e) d = ap (other h p) (is_p k e) ∙ back e (ℕ_discrete h p)
      go (no x) (yes e) = ap (other h p) (is_h k x e) ∙ is_p p refl ∙ sym e
      go (no x) (no y) = ap (other h p) (is_else k x y) ∙ is_else k x y

  module _ (slots : List ℕ) (x : h < length slots) (y : p < length slots) where
    pub exchanged_at : (k : ℕ) → get_or (exchanged slots h p) k 0 ≡ get_or slots (other h p k) 0
    exchanged_at k = go (ℕ_discrete k p) (ℕ_discrete k h)
      where
        once : List ℕ
        once = set slots h (get_or slots p 0)

        go : Dec (k ≡ p) → Dec (k ≡ h) → get_or (exchanged slots h p) k 0 ≡ get_or slots (other h p k) 0
        go (yes e) d =
            rw (is_p k e, e)
            (get_or-set_same (set slots h (get_or slots p 0)) p (get_or slots h 0) 0 (rw (length-set slots h (get_or slots p 0)) y))
        go (no n) (yes e) =
            get_or-set_other (set slots h (get_or slots p 0)) p k (get_or slots h 0) 0 n
            ∙ rw (is_h k n e, e) (get_or-set_same slots h (get_or slots p 0) 0 x)
        go (no n) (no m) =
            get_or-set_other (set slots h (get_or slots p 0)) p k (get_or slots h 0) 0 n
            ∙ get_or-set_other slots h k (get_or slots p 0) 0 m
            ∙ ap (λ i. get_or slots i 0) (sym (is_else k n m))

    below : (n k : ℕ) → h < n → p < n → k < n → other h p k < n
    below n k a b c = go (ℕ_discrete k p) (ℕ_discrete k h)
      where
        go : Dec (k ≡ p) → Dec (k ≡ h) → other h p k < n
        go (yes e) d = rw (is_p k e) a
        go (no m) (yes e) = rw (is_h k m e) b
        go (no m) (no o) = rw (is_else k m o) c

    pub exchanged_slotted : h < 20 → p < 20 → Slotted slots → Slotted (exchanged slots h p)
    exchanged_slotted a b s =
        record {
          long = length-set (set slots h (get_or slots p 0)) p (get_or slots h 0) ∙ length-set slots h (get_or slots p 0) ∙ s.long;
          within = λ k c. rw (exchanged_at k) (s.within (other h p k) (below 20 k a b c));
          apart = λ j k c d n. rw (exchanged_at j, exchanged_at k) (s.apart (other h p j) (other h p k) (below 20 j a b c)
              (below 20 k a b d)
              (λ e. n (sym (twice j) ∙ ap (other h p) e ∙ twice k)));
        }

    -- the places below both keep theirs
    pub exchanged_below : (k : ℕ) → k < p → k < h → get_or (exchanged slots h p) k 0 ≡ get_or slots k 0
    exchanged_below k a b = exchanged_at k ∙ ap (λ i. get_or slots i 0) (is_else k (λ e. absurd (omega arith)) (λ e. absurd (omega arith)))

    pub exchanged_top : get_or (exchanged slots h p) p 0 ≡ get_or slots h 0
    exchanged_top = exchanged_at p ∙ ap (λ i. get_or slots i 0) (is_p p refl)

-- at first
Firsts : ℕ → List ℕ → ℕ → Type 0
Firsts k [] n = Unit {0}
Firsts k (x ∷ xs) n = (x ≡ slot_at k) × Firsts (suc k) xs n

firsts_at : (k : ℕ) (l : List ℕ) → Firsts k l 0 → (i : ℕ) → i < length l → get_or l i 0 ≡ slot_at (k + i)
unfolding Firsts
firsts_at k [] f i h = absurd (omega arith)
firsts_at k (x ∷ xs) f zero h = f.0 ∙ (let e : most_words * k ≡ most_words * (k + 0) = omega arith in e)
firsts_at k (x ∷ xs) f (suc i) h =
    firsts_at (suc k) xs f.1 i (omega arith) ∙ (let e : most_words * (suc k + i) ≡ most_words * (k + suc i) = omega arith in e)

abbrev pub first_slots : List ℕ
first_slots =
    0 ∷ 256 ∷ 512 ∷ 768 ∷ 1024 ∷ 1280 ∷ 1536 ∷ 1792 ∷ 2048 ∷ 2304 ∷ 2560 ∷ 2816 ∷ 3072 ∷ 3328 ∷ 3584 ∷ 3840 ∷ 4096 ∷ 4352 ∷ 4608 ∷ 4864 ∷ []

in_order : Firsts 0 first_slots 0
unfolding Firsts
in_order = (
  refl,
  (
    refl,
    (
      refl,
      (
        refl,
        (
          refl,
          (
            refl,
            (
              refl,
              (
                refl,
                (
                  refl,
                  (
                    refl,
                    (
                      refl,
                      (
                        refl,
                        (
                          refl,
                          (
                            refl,
                            (
                              refl,
                              (
                                refl,
                                (
                                  refl,
                                  (
                                    refl,
                                    (
                                      refl,
                                      (refl, tt),
                                    ),
                                  ),
                                ),
                              ),
                            ),
                          ),
                        ),
                      ),
                    ),
                  ),
                ),
              ),
            ),
          ),
        ),
      ),
    ),
  ),
)

first_slot : (k : ℕ) → k < 20 → get_or first_slots k 0 ≡ most_words * k
first_slot k h = firsts_at 0 first_slots in_order k h ∙ (let e : most_words * (0 + k) ≡ most_words * k = omega arith in e)

pub first_slotted : Slotted first_slots
first_slotted =
    record {
      long = refl;
      within = λ k h. rw (first_slot k h) (omega arith);
      apart = λ j k g h n. rw (first_slot j g, first_slot k h) (go j k n (ltb j k) refl);
    }
  where
    go : (j k : ℕ) → (j ≡ k → ⊥) → (t : Bool) → ltb j k ≡ t
        → (most_words * j + most_words ≤ most_words * k) ⊎ (most_words * k + most_words ≤ most_words * j)
    go j k n true e = inl (let l = ltb-true j k e in omega arith)
    go j k n false e = inr (let l = ltb-false j k e in let d : j ≡ k → ⊥ = n in omega arith)
