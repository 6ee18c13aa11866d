-- Going along a list's words finds the stretches of its signal.
use Prim.Native.Nat.{ℕ, zero, suc, ◌+◌, ◌-◌, ◌≤◌, ◌<◌}
use native.Mathlib.Omega.{arith}
use mathlib.Core.Path.{◌≡◌, refl, sym, ap, ◌∙◌, subst}
use mathlib.Core.Bool.{Bool, true, false, cond}
use mathlib.Core.List.{List, [], ◌∷◌}
use mathlib.Core.Logic.{◌⊎◌, inl, inr}
use lib.Dec.{leb, ltb}
use borrow.Author.Tests.{leb-true, leb-false, lt-ltb, le-ltb}
use Rattle.signals.specs.Moment.{gap}
use Rattle.signals.specs.Signal.{Signal}
use Rattle.signals.specs.Words.{date_of, head_value, value_after, value_from, signal_of}
use Rattle.signals.specs.Normal.{Rising}
use Rattle.signals.specs.Quantified.{Up, Down}
use Rattle.signals.proofs.Truth.{at_or_after, true_false, down_of, not_both_lem}
use Rattle.signals.proofs.Operand.{value_none, value_before_lem, value_after_lem, value_held}
use Rattle.signals.proofs.Normal.{accepted_normal, dates_rise}
use Rattle.stretches.specs.Stretches.{Stretch, begins, up_for, stretches_from, stretches_before}
use Rattle.stretches.specs.Walk.{between, last_walked, walked, WalkExact}
use Rattle.stretches.proofs.UpRuns.{begins_up, begins_down, begins_of, up_for_is}

-- gaps that begin no stretch are passed over
skip : (f : Signal) (k m n : ℕ) → ((j : ℕ) → k ≤ j → j < k + m → Down (begins f j)) → stretches_from f k (m + n) ≡ stretches_from f
    (k + m) n
unfolding stretches_from
skip f k zero n h =
    let e : 0 + n ≡ n = omega arith in
    let g : k ≡ k + 0 = omega arith in
    ap (stretches_from f k) e ∙ ap (λ (i : ℕ). stretches_from f i n) g
skip f k (suc m) n h =
    let e : suc m + n ≡ suc (m + n) = omega arith in
    let g : suc k + m ≡ k + suc m = omega arith in
    ap (stretches_from f k) e ∙ one (begins f k) (h k (omega arith) (omega arith))
    ∙ skip f (suc k) m n (λ j a b. h j (omega arith) (omega arith)) ∙ ap (λ (i : ℕ). stretches_from f i n) g
  where
    one : (b : Bool) → Down b
        → cond b
        ((record { first = k; ticks = up_for f k (suc (m + n)) }) ∷ stretches_from f (suc k) (m + n))
        (stretches_from f (suc k) (m + n))
        ≡ stretches_from f (suc k) (m + n)
    one true e = true_false e
    one false e = refl

skip_to : (f : Signal) (k end H : ℕ) → k ≤ end → end ≤ H → ((j : ℕ) → k ≤ j → j < end → Down (begins f j))
    → stretches_from f k (H - k) ≡ stretches_from f end (H - end)
skip_to f k end H a b h =
    let e : H - k ≡ (end - k) + (H - end) = omega arith in
    let g : k + (end - k) ≡ end = omega arith in
    ap (stretches_from f k) e ∙ skip f k (end - k) (H - end) (λ j x y. h j x (omega (arith, y)))
    ∙ ap (λ (i : ℕ). stretches_from f i (H - end)) g

-- f has this value in the gaps from `from` to before `end`
abbrev Holds : Signal → ℕ → ℕ → Bool → Type 0
Holds f from end v = (j : ℕ) → from ≤ j → j < end → f (gap j) ≡ v

-- down until `end`: nothing begins
down_to : (f : Signal) (from end H : ℕ) → from ≤ end → end ≤ H → Holds f from end false
    → stretches_from f from (H - from) ≡ stretches_from f end (H - end)
down_to f from end H a b h = skip_to f from end H a b (λ j x y. down_of (begins f j) (λ u. not_both_lem (begins_up f j u) (h j x y)))

-- up until `end`, where it is down or H: one stretch
up_to : (f : Signal) (from end H : ℕ) → from < end → end ≤ H → Up (begins f from) → Holds f from end true → (end < H → Down (f (gap end)))
    → stretches_from f from (H - from) ≡ between from end ∷ stretches_from f end (H - end)
unfolding stretches_from
up_to f from end H a b u h d =
    let e : H - from ≡ suc (H - suc from) = omega arith in
    let g : from + (end - from) ≡ end = omega arith in
    let t : up_for f from (suc (H - suc from)) ≡ end - from =
    up_for_is f from (suc (H - suc from)) (end - from) (λ j x y. h j x (omega (arith, y))) (omega arith)
    (λ l. subst (λ (i : ℕ). Down (f (gap i))) (sym g) (d (omega (arith, l)))) in
    ap (stretches_from f from) e ∙ one (begins f from) u t
    ∙ ap (λ (ss : List Stretch). between from end ∷ ss) (skip_to f (suc from) end H (omega arith) b inside)
  where
    inside : (j : ℕ) → suc from ≤ j → j < end → Down (begins f j)
    inside j x y =
        let q : suc (j - 1) ≡ j = omega (arith, x) in
        down_of (begins f j)
        (λ v. not_both_lem (h (j - 1) (omega (arith, x)) (omega (arith, x, y)))
        (begins_down f (j - 1) (subst (λ (i : ℕ). Up (begins f i)) (sym q) v)))

    one : (v : Bool) → Up v → up_for f from (suc (H - suc from)) ≡ end - from
        → cond v
        ((record { first = from; ticks = up_for f from (suc (H - suc from)) }) ∷ stretches_from f (suc from) (H - suc from))
        (stretches_from f (suc from) (H - suc from))
        ≡ between from end ∷ stretches_from f (suc from) (H - suc from)
    one true v t = ap (λ (n : ℕ). (record { first = from; ticks = n }) ∷ stretches_from f (suc from) (H - suc from)) t
    one false v t = true_false (sym v)

none_after : (f : Signal) (k H : ℕ) → H ≤ k → stretches_from f k (H - k) ≡ []
unfolding stretches_from
none_after f k H h = let e : H - k ≡ 0 = omega arith in ap (stretches_from f k) e

-- one value from `from` on up to H
last_is : (f : Signal) (H : ℕ) (up : Bool) (from : ℕ) → begins f from ≡ up → Holds f from H up
    → last_walked H up from ≡ stretches_from f from (H - from)
unfolding last_walked
last_is f H up from b h = go (at_or_after H from) up b h
  where
    go : (H ≤ from) ⊎ (from < H) → (v : Bool) → begins f from ≡ v → Holds f from H v
        → cond v (cond (ltb from H) (between from H ∷ []) []) [] ≡ stretches_from f from (H - from)
    go (inl l) true b h = rw (le-ltb from H l) (sym (none_after f from H l))
    go (inl l) false b h = sym (none_after f from H l)
    go (inr l) true b h =
        rw (lt-ltb from H l)
        (sym (up_to f from H H l (omega arith) b h (λ x. absurd (omega (arith, x)))
        ∙ ap (λ (ss : List Stretch). between from H ∷ ss) (none_after f H H (omega arith))))
    go (inr l) false b h = sym (down_to f from H H (omega (arith, l)) (omega arith) h ∙ none_after f H H (omega arith))

-- what the words left say of the gaps from `from` on
abbrev Says : Signal → ℕ → Bool → List ℕ → Type 0
Says f from up ws = (j : ℕ) → from ≤ j → f (gap j) ≡ value_from up ws (gap j)

-- words dated later than one gap are dated later than an earlier one
pub rise_below : (k j : ℕ) (ws : List ℕ) → j ≤ k → Rising k ws → Rising j ws
rise_below k j [] l r = tt
rise_below k j (w ∷ ws) l r = (omega (arith, r.0), r.1)

-- the words left are walked rightly, whatever is held
abbrev Walks : Signal → ℕ → List ℕ → Type 0
Walks f H ws =
    (up : Bool) (from : ℕ) → Rising from ws → Says f from up ws → begins f from ≡ up → walked H up from ws ≡ stretches_from f from
    (H - from)

-- past one word more
module _ (f : Signal) (H : ℕ) (up : Bool) (from w : ℕ) (ws : List ℕ) (r : Rising from (w ∷ ws)) (s : Says f from up (w ∷ ws))
    (b : begins f from ≡ up) (rest : Walks f H ws)
  where
    held : Holds f from (date_of w) up
    held j x y = s j x ∙ value_before_lem up w ws (gap j) (omega (arith, y))

    -- what the others say from its date on
    past : (a : Bool) → value_after w ≡ a → Says f (date_of w) a ws
    past a q j x =
        s j (omega (arith, x, r.0)) ∙ value_after_lem up w ws (gap j) (omega (arith, r.0)) (omega (arith, x))
        ∙ ap (λ (v : Bool). value_from v ws (gap j)) q

    at : (a : Bool) → value_after w ≡ a → f (gap (date_of w)) ≡ a
    at a q = past a q (date_of w) (omega arith) ∙ value_held a (date_of w) ws (gap (date_of w)) r.1 (omega arith)

    -- up before it and after it
    through : up ≡ true → value_after w ≡ true → Says f from true ws
    through p a j x = by (at_or_after (date_of w) j)
      where
        by : (date_of w ≤ j) ⊎ (j < date_of w) → f (gap j) ≡ value_from true ws (gap j)
        by (inl y) = past true a j y
        by (inr y) = held j x y ∙ p ∙ sym (value_held true (date_of w) ws (gap j) r.1 (omega (arith, y)))

    turn : (p a : Bool) → up ≡ p → value_after w ≡ a → date_of w < H
        → cond p (cond a (walked H true from ws) (between from (date_of w) ∷ walked H false (date_of w) ws)) (walked H a (date_of w) ws)
        ≡ stretches_from f from (H - from)
    turn true true p a l =
        rest true from (rise_below (date_of w) from ws (omega (arith, r.0)) r.1) (through p a) (b ∙ p)
    turn true false p a l =
        ap (λ (ss : List Stretch). between from (date_of w) ∷ ss)
        (rest false (date_of w) r.1 (past false a)
        (down_of (begins f (date_of w)) (λ u. not_both_lem (begins_up f (date_of w) u) (at false a))))
        ∙ sym (up_to f from (date_of w) H r.0 (omega (arith, l)) (b ∙ p) (λ j x y. held j x y ∙ p) (λ x. at false a))
    turn false a p q l =
        rest a (date_of w) r.1 (past a q)
        (begins_of f (date_of w) (omega (arith, r.0)) (held (date_of w - 1) (omega (arith, r.0)) (omega (arith, r.0)) ∙ p) ∙ at a q)
        ∙ sym (down_to f from (date_of w) H (omega (arith, r.0)) (omega (arith, l)) (λ j x y. held j x y ∙ p))

    walk_on : walked H up from (w ∷ ws) ≡ stretches_from f from (H - from)
    unfolding walked
    walk_on = go (leb H (date_of w)) refl
      where
        go : (t : Bool) → leb H (date_of w) ≡ t
            → cond t (last_walked H up from)
            (cond up
            (cond (value_after w) (walked H true from ws) (between from (date_of w) ∷ walked H false (date_of w) ws))
            (walked H (value_after w) (date_of w) ws))
            ≡ stretches_from f from (H - from)
        go true e = last_is f H up from b (λ j x y. held j x (omega (arith, y, leb-true H (date_of w) e)))
        go false e = turn up (value_after w) refl refl (leb-false H (date_of w) e)

walk_is : (f : Signal) (H : ℕ) (ws : List ℕ) → Walks f H ws
unfolding walked
walk_is f H [] up from r s b = last_is f H up from b (λ j x y. s j x ∙ value_none up (gap j))
walk_is f H (w ∷ ws) up from r s b = walk_on f H up from w ws r s b (walk_is f H ws)

pub walk_exact : WalkExact
unfolding stretches_before signal_of begins
walk_exact h ws H a =
    let r = dates_rise h ws ((accepted_normal (h ∷ ws)).0 a).0 in
    let e : H - 0 ≡ H = omega arith in
    walk_is (signal_of (h ∷ ws)) H ws (head_value h) 0 r (λ j x. refl) (value_held (head_value h) 0 ws (gap 0) r (omega arith))
    ∙ ap (stretches_from (signal_of (h ∷ ws)) 0) e
