-- Which stretches are listed: those that begin in the gaps looked at, each with the gaps that are up from there on.
use Prim.Native.Nat.{ℕ, zero, suc, ◌+◌, ◌-◌, ◌≤◌, ◌<◌}
use native.Mathlib.Omega.{arith}
use mathlib.Core.Path.{◌≡◌, refl, sym, ap, subst}
use mathlib.Core.Bool.{Bool, true, false, cond}
use mathlib.Core.List.{List, [], ◌∷◌}
use mathlib.Core.Logic.{◌⊎◌, inl, inr}
use Rattle.signals.specs.Signal.{Signal}
use Rattle.signals.specs.Quantified.{Up}
use Rattle.signals.proofs.Truth.{at_or_after, not_both_lem}
use Rattle.stretches.specs.Stretches.{Stretch, begins, up_for, stretches_from}
use Rattle.stretches.specs.LongestRuns.{IsAmong, InOrder}
use Rattle.stretches.proofs.UpRuns.{begins_down, up_for_up}

-- the stretch that begins with gap a, cut at H
abbrev pub cut_at : Signal → ℕ → ℕ → Stretch
cut_at f H a = record { first = a; ticks = up_for f a (H - a) }

-- s is that which begins with its first gap, in the gaps from k on and before H
pub record Begun (f : Signal) (k H : ℕ) (s : Stretch) : Type 0 where
  pub begun : Up (begins f s.first)
  pub from : k ≤ s.first
  pub before : s.first < H
  pub cut : s ≡ cut_at f H s.first

-- those listed are such
pub listed_begun : (f : Signal) (k n : ℕ) (s : Stretch) → IsAmong (stretches_from f k n) s → Begun f k (k + n) s
unfolding stretches_from
listed_begun f k zero s o = absurd o
listed_begun f k (suc n) s o = go (begins f k) refl o (listed_begun f (suc k) n s)
  where
    later : Begun f (suc k) (suc k + n) s → Begun f k (k + suc n) s
    later b =
        let e : suc k + n ≡ k + suc n = omega arith in
        let c = subst (λ (H : ℕ). Begun f (suc k) H s) e b in
        record { begun = c.begun; from = omega (arith, c.from); before = c.before; cut = c.cut }

    go : (b : Bool) → begins f k ≡ b
        → IsAmong (cond b ((record { first = k; ticks = up_for f k (suc n) }) ∷ stretches_from f (suc k) n) (stretches_from f (suc k) n)) s
        → (IsAmong (stretches_from f (suc k) n) s → Begun f (suc k) (suc k + n) s) → Begun f k (k + suc n) s
    go false e o r = later (r o)
    go true e (inr o) r = later (r o)
    go true e (inl q) r =
        let m : suc n ≡ k + suc n - k = omega arith in
        let c : Begun f k (k + suc n) (record { first = k; ticks = up_for f k (suc n) }) =
        record {
          begun = e;
          from = omega arith;
          before = omega arith;
          cut = ap (λ (i : ℕ). record { first = k; ticks = up_for f k i }) m;
        } in
        subst (Begun f k (k + suc n)) (sym q) c

-- and all such are listed
pub begun_listed : (f : Signal) (k n a : ℕ) → Up (begins f a) → k ≤ a → a < k + n → IsAmong (stretches_from f k n) (cut_at f (k + n) a)
unfolding stretches_from
begun_listed f k zero a u l h = absurd (omega arith)
begun_listed f k (suc n) a u l h = go (begins f k) refl (begun_listed f (suc k) n a u) (at_or_after (suc k) a)
  where
    later : IsAmong (stretches_from f (suc k) n) (cut_at f (suc k + n) a) → IsAmong (stretches_from f (suc k) n) (cut_at f (k + suc n) a)
    later o =
        let e : suc k + n ≡ k + suc n = omega arith in
        subst (λ (H : ℕ). IsAmong (stretches_from f (suc k) n) (cut_at f H a)) e o

    go : (b : Bool) → begins f k ≡ b
        → (suc k ≤ a → a < suc k + n → IsAmong (stretches_from f (suc k) n) (cut_at f (suc k + n) a)) → (suc k ≤ a) ⊎ (a < suc k)
        → IsAmong (cond b ((record { first = k; ticks = up_for f k (suc n) }) ∷ stretches_from f (suc k) n) (stretches_from f (suc k) n))
        (cut_at f (k + suc n) a)
    go false e r (inl c) = later (r c (omega arith))
    go true e r (inl c) = inr (later (r c (omega arith)))
    go false e r (inr c) = let q : k ≡ a = omega (arith, c) in not_both_lem (subst (λ (i : ℕ). Up (begins f i)) (sym q) u) e
    go true e r (inr c) =
        let q : k ≡ a = omega (arith, c) in
        let m : k + suc n - k ≡ suc n = omega arith in
        inl
        (subst (λ (i : ℕ). cut_at f (k + suc n) i ≡ record { first = k; ticks = up_for f k (suc n) }) q
        (ap (λ (i : ℕ). record { first = k; ticks = up_for f k i }) m))

-- one before all of the others is in order with them
pub in_order : (s : Stretch) (ss : List Stretch) → ((r : Stretch) → IsAmong ss r → s.first + s.ticks < r.first) → InOrder ss
    → InOrder (s ∷ ss)
in_order s [] h o = tt
in_order s (r ∷ rs) h o = (h r (inl refl), o)

-- a stretch that begins later begins after a gap that is down
pub apart : (f : Signal) (k n a : ℕ) → Up (begins f a) → suc k ≤ a → k + up_for f k n < a
apart f k n a u l = go (at_or_after a (k + up_for f k n))
  where
    go : (a ≤ k + up_for f k n) ⊎ (k + up_for f k n < a) → k + up_for f k n < a
    go (inr h) = h
    go (inl h) =
        let q : suc (a - 1) ≡ a = omega (arith, l) in
        not_both_lem (up_for_up f k n (a - 1) (omega (arith, l)) (omega (arith, l, h)))
        (begins_down f (a - 1) (subst (λ (i : ℕ). Up (begins f i)) (sym q) u))

pub listed_ordered : (f : Signal) (k n : ℕ) → InOrder (stretches_from f k n)
unfolding stretches_from
listed_ordered f k zero = tt
listed_ordered f k (suc n) = go (begins f k) (listed_ordered f (suc k) n)
  where
    go : (b : Bool) → InOrder (stretches_from f (suc k) n)
        → InOrder (cond b ((record { first = k; ticks = up_for f k (suc n) }) ∷ stretches_from f (suc k) n) (stretches_from f (suc k) n))
    go false o = o
    go true o =
        in_order (record { first = k; ticks = up_for f k (suc n) }) (stretches_from f (suc k) n)
        (λ r i. let b = listed_begun f (suc k) n r i in apart f k (suc n) r.first b.begun b.from) o
