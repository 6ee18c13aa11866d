-- The totals of stretches, and that gaps alone make them.
use Prim.Native.Nat.{ℕ, zero, suc, ◌+◌, ◌-◌, ◌≤◌, ◌<◌}
use native.Mathlib.Omega.{arith}
use mathlib.Core.Path.{◌≡◌, refl, ap, ◌∙◌, subst}
use mathlib.Core.Bool.{Bool, true, false, not, cond, ◌&&◌}
use mathlib.Core.List.{List, ◌∷◌}
use mathlib.Core.Logic.{◌⊎◌, inl, inr}
use Rattle.signals.specs.Moment.{gap}
use Rattle.signals.specs.Signal.{Signal, num, NOT}
use Rattle.signals.specs.Quantified.{Up, Down}
use Rattle.signals.proofs.Truth.{at_or_after, not_both_lem}
use Rattle.stretches.specs.Stretches.{Stretch, begins, up_for, stretches_from, stretches_before, sum_of_ticks}
use Rattle.stretches.specs.LongestRuns.{IsAmong}
use Rattle.stretches.specs.Totals.{up_gaps, down_gaps, Totals}
use Rattle.stretches.proofs.UpRuns.{up_for_most, back, back_most, back_up}
use Rattle.stretches.proofs.Listed.{cut_at, listed_begun}
use Rattle.stretches.proofs.LongestRuns.{listed_at, stretches_of}
use Rattle.stretches.proofs.FewStretches.{two_words, few_words}

-- whether the gap before gap k is up
inside : Signal → ℕ → Bool
inside f zero = false
inside f (suc k) = f (gap k)

-- a gap begins a stretch where it is up and the gap before it is not
begins_is : (f : Signal) (k : ℕ) → begins f k ≡ f (gap k) && not (inside f k)
unfolding begins inside
begins_is f zero = go (f (gap zero))
  where
    go : (b : Bool) → b ≡ b && true
    go true = refl
    go false = refl
begins_is f (suc k) = refl

-- the number of up gaps among the n gaps from gap k on
counted : Signal → ℕ → ℕ → ℕ
counted f k zero = 0
counted f k (suc n) = num (f (gap k)) + counted f (suc k) n

counted_on : (f : Signal) (k n : ℕ) → up_gaps f k + counted f k n ≡ up_gaps f (k + n)
unfolding counted up_gaps
counted_on f k zero = let e : k ≡ k + 0 = omega arith in let g = ap (up_gaps f) e in omega (arith, g)
counted_on f k (suc n) =
    let e : suc k + n ≡ k + suc n = omega arith in
    let g = ap (up_gaps f) e in
    let h = counted_on f (suc k) n in
    omega (arith, g, h)

-- they are those up to the end of the stretch that is under way, and the ticks of those that begin there
ticks_counted : (f : Signal) (k n : ℕ) → counted f k n ≡ cond (inside f k) (up_for f k n) 0 + sum_of_ticks (stretches_from f k n)
unfolding counted up_for stretches_from sum_of_ticks inside
ticks_counted f k zero = go (inside f k)
  where
    go : (b : Bool) → 0 ≡ cond b 0 0 + 0
    go true = refl
    go false = refl
ticks_counted f k (suc n) =
    rw (begins_is f k)
    (go (f (gap k)) (inside f k) (counted f (suc k) n) (up_for f (suc k) n) (stretches_from f (suc k) n) (ticks_counted f (suc k) n))
  where
    go : (u i : Bool) (c m : ℕ) (ss : List Stretch) → c ≡ cond u m 0 + sum_of_ticks ss
        → num u + c
        ≡ cond i (cond u (suc m) 0) 0
        + sum_of_ticks (cond (u && not i) ((record { first = k; ticks = cond u (suc m) 0 }) ∷ ss) ss)
    go true true c m ss h = omega (arith, h)
    go true false c m ss h = omega (arith, h)
    go false true c m ss h = omega (arith, h)
    go false false c m ss h = omega (arith, h)

total_is : (f : Signal) (H : ℕ) → sum_of_ticks (stretches_before f H) ≡ up_gaps f H
unfolding stretches_before inside up_gaps
total_is f H =
    let e : 0 + H ≡ H = omega arith in
    let g = ap (up_gaps f) e in
    omega (arith, ticks_counted f 0 H, counted_on f 0 H, g)

up_and_down : (f : Signal) (H : ℕ) → up_gaps f H + down_gaps f H ≡ H
unfolding up_gaps down_gaps
up_and_down f zero = refl
up_and_down f (suc k) = go (f (gap k)) (up_and_down f k)
  where
    go : (b : Bool) → up_gaps f k + down_gaps f k ≡ k → (up_gaps f k + num b) + (down_gaps f k + num (not b)) ≡ suc k
    go true h = omega (arith, h)
    go false h = omega (arith, h)

down_is : (f : Signal) (H : ℕ) → up_gaps (NOT f) H ≡ down_gaps f H
unfolding up_gaps down_gaps NOT
down_is f zero = refl
down_is f (suc k) = ap (λ (n : ℕ). n + num (not (f (gap k)))) (down_is f k)

-- signals that are the same in the gaps looked at
module _ (f g : Signal) (H : ℕ) (h : (k : ℕ) → k < H → f (gap k) ≡ g (gap k)) where
  same_begins : (k : ℕ) → k < H → begins f k ≡ begins g k
  unfolding begins
  same_begins zero l = h zero l
  same_begins (suc k) l = rw (h (suc k) l, h k (omega arith))

  same_up : (k n : ℕ) → k + n ≤ H → up_for f k n ≡ up_for g k n
  unfolding up_for
  same_up k zero l = refl
  same_up k (suc n) l = rw (h k (omega arith), same_up (suc k) n (omega arith))

  same_from : (k n : ℕ) → k + n ≤ H → stretches_from f k n ≡ stretches_from g k n
  unfolding stretches_from
  same_from k zero l = refl
  same_from k (suc n) l = rw (same_begins k (omega arith), same_up k (suc n) l, same_from (suc k) n (omega arith))

gaps_alone_lem : (f g : Signal) (H : ℕ) → ((k : ℕ) → k < H → f (gap k) ≡ g (gap k)) → stretches_before f H ≡ stretches_before g H
unfolding stretches_before
gaps_alone_lem f g H h = same_from f g H h 0 H (omega arith)

within : (f : Signal) (H : ℕ) (s : Stretch) → IsAmong (stretches_before f H) s → s.first + s.ticks ≤ H
unfolding stretches_before
within f H s o =
    let b = listed_begun f 0 H s o in
    let e : 0 + H ≡ H = omega arith in
    let c = ap (λ (x : Stretch). x.ticks) b.cut in
    omega (arith, c, b.before, up_for_most f s.first (0 + H - s.first))

no_line_lem : (f : Signal) (H k : ℕ) → Down (f (gap k)) → (s : Stretch) → IsAmong (stretches_before f H) s → s.first ≤ k
    → k < s.first + s.ticks → ⊥
no_line_lem f H k d s o a b =
    let (Q, l, c) = (stretches_of f H).each s o in
    not_both_lem (l.run.up k ((c.gaps k).1 (a, b)).0) d

unsplit : (f : Signal) (H i : ℕ) → 1 ≤ i → i < H → Up (f (gap (i - 1))) → Up (f (gap i))
    → (s : Stretch) × IsAmong (stretches_before f H) s × (s.first ≤ i - 1) × (i < s.first + s.ticks)
unsplit f H i one l a b =
    let (o, c) = listed_at f (i - 1) H a (omega arith) in
    let inside = (c.gaps i).0 ((omega (arith, back_most f (i - 1)), up), l) in
    (cut_at f H (back f (i - 1)), o, back_most f (i - 1), inside.1)
  where
    up : (j : ℕ) → back f (i - 1) ≤ j → j ≤ i → Up (f (gap j))
    up j x y = go (at_or_after j (i - 1))
      where
        go : (j ≤ i - 1) ⊎ (i - 1 < j) → Up (f (gap j))
        go (inl z) = back_up f (i - 1) a j x z
        go (inr z) = let q : i ≡ j = omega (arith, z, y, one) in subst (λ (m : ℕ). Up (f (gap m))) q b

pub totals : Totals
unfolding stretches_before stretches_from
totals =
    record {
      total = total_is;
      both = up_and_down;
      down = λ f H. total_is (NOT f) H ∙ down_is f H;
      lone = λ f g H i l h. gaps_alone_lem f g H (λ k x. h (gap k) (λ e. omega (arith, e)));
      gaps_alone = gaps_alone_lem;
      no_line = no_line_lem;
      unsplit = unsplit;
      none = λ f. refl;
      within = within;
      two = two_words;
      few = few_words;
    }
